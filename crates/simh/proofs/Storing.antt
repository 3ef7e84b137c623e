-- Items written one behind the other into a lent buffer: what is left to be written makes the whole. Assumes nothing.
use mathlib.Core.Path.{◌≡◌, refl, sym, ap, ◌∙◌, subst}
use mathlib.Core.Bool.{true}
use mathlib.Core.List.{List, [], ◌∷◌, ◌++◌, append-nil, flatten as end_to_end}
use Prim.Native.Nat.{ℕ, ◌+◌, ◌-◌, ◌^◌, ◌≤◌, ◌<◌}
use native.Mathlib.Omega.{arith}
use mir.Syntax.{w64}
use mir.Val.{Fits}
use borrow.Author.Rules.{rules}
use lib.ListN.{length, take, drop, get_or, length-append, length-drop}
use Rattle.base.specs.Part.{part, put_at}
use Rattle.base.proofs.Parts.{length_put, length_part, put_none, put_put, part_within}
use Rattle.image.specs.Item.{Item, block, mark, reel_end, reel_end_word, most_bytes, three, bytes_of as image_item, encode_by, encode as image_bytes}
use Rattle.image.specs.Code.Items.{is_item, all_items}
use Rattle.image.specs.declared.Shape.TheVariants.{Block, Mark, ReelEnd}
use Rattle.image.proofs.Coding.{all_first, all_rest, by_append}
use Rattle.simh.specs.Tape.{end_word, word, span_of, shape, item_of, decode}
use Rattle.simh.specs.Set.{reels_in}
use Rattle.simh.specs.Code.Passes.{items_in, FittingItems, Storable}
use Rattle.simh.proofs.Files.{told, block_at, block_within, word_whole, decode_past, decode_at, decode_block, decode_mark, decode_end}
use Rattle.simh.proofs.Reels.{AllClose, reels_close, closes_right}
use Rattle.simh.proofs.Measuring.{reels_from, reels_at_lem, reels_past, FileStart, between_none, between_more, file_within, file_fits, file_start}

-- ---- items in either form, of which ys are left to be written from a place on

pub record Putting (bytes : Item → List ℕ) (xs ys : List Item) (o : List ℕ) (to : ℕ) (out : List ℕ) (place : ℕ) : Type 0 where
  pub size : length out ≡ length o
  pub fits : to + length (encode_by bytes xs) ≤ length o
  pub ends : place + length (encode_by bytes ys) ≡ to + length (encode_by bytes xs)
  pub left : put_at out place (encode_by bytes ys) ≡ put_at o to (encode_by bytes xs)

pub putting_none : (bytes : Item → List ℕ) (xs : List Item) (o : List ℕ) (to : ℕ) → to + length (encode_by bytes xs) ≤ length o
    → Putting bytes xs xs o to o to
putting_none bytes xs o to h = record { size = refl; fits = h; ends = refl; left = refl }

module _ (bytes : Item → List ℕ) (xs : List Item) (o : List ℕ) (to : ℕ) (out : List ℕ) (place : ℕ) where
  pub putting_more : (ys zs : List Item) (q : List ℕ) → Putting bytes xs (ys ++ zs) o to out place
      → q ≡ put_at out place (encode_by bytes ys)
      → Putting bytes xs zs o to q (place + length (encode_by bytes ys))
  putting_more ys zs q w e =
      let both : encode_by bytes (ys ++ zs) ≡ encode_by bytes ys ++ encode_by bytes zs = by_append bytes ys zs in
      let long : length (encode_by bytes (ys ++ zs)) ≡ length (encode_by bytes ys) + length (encode_by bytes zs)
      = ap length both ∙ length-append (encode_by bytes ys) (encode_by bytes zs) in
      let room : place + length (encode_by bytes ys) ≤ length out = omega (arith, w.size, w.fits, w.ends) in
      record {
        size = ap length e ∙ length_put out place (encode_by bytes ys) room ∙ w.size;
        fits = w.fits;
        ends = omega (arith, w.ends);
        left =
            ap (λ (l : List ℕ). put_at l (place + length (encode_by bytes ys)) (encode_by bytes zs)) e
            ∙ put_put out place (encode_by bytes ys) (encode_by bytes zs) room
            ∙ ap (put_at out place) (sym both)
            ∙ w.left;
      }

  -- one item
  pub putting_item : (x : Item) (zs : List Item) (k : ℕ) (q : List ℕ) → Putting bytes xs (x ∷ zs) o to out place
      → length (bytes x) ≡ k
      → q ≡ put_at out place (bytes x) → Putting bytes xs zs o to q (place + k)
  unfolding encode_by
  putting_item x zs k q w l e =
      let one : encode_by bytes (x ∷ []) ≡ bytes x = append-nil (bytes x) in
      let long : length (encode_by bytes (x ∷ [])) ≡ k = ap length one ∙ l in
      subst (λ (n : ℕ). Putting bytes xs zs o to q (place + n)) long
      (putting_more (x ∷ []) zs q w (e ∙ ap (put_at out place) (sym one)))

  pub putting_all : Putting bytes xs [] o to out place → out ≡ put_at o to (encode_by bytes xs)
  unfolding encode_by
  putting_all w = sym (put_none out place) ∙ w.left

  pub putting_end : Putting bytes xs [] o to out place → place ≡ to + length (encode_by bytes xs)
  unfolding encode_by
  putting_end w = omega (arith, w.ends)

  -- an item that is left has room
  pub putting_room : (x : Item) (zs : List Item) → Putting bytes xs (x ∷ zs) o to out place
      → place + length (bytes x) ≤ length out
  unfolding encode_by
  putting_room x zs w = let long = length-append (bytes x) (encode_by bytes zs) in omega (arith, w.size, w.fits, w.ends)

-- ---- one file as items of an image, at a place of each

pub record Filling (s o : List ℕ) (to : ℕ) (out : List ℕ) (at place : ℕ) : Type 0 where
  pub within : at ≤ length s
  pub right : all_items (decode (drop at s)) ≡ true
  pub put : Putting image_item (decode s) (decode (drop at s)) o to out place

pub filling_none : (s o : List ℕ) (to : ℕ) → FittingItems (decode s) (length o) to → Filling s o to o 0 to
unfolding image_bytes
filling_none s o to f = record { within = omega arith; right = f.right; put = putting_none image_item (decode s) o to f.room }

module _ (s o : List ℕ) (to : ℕ) (out : List ℕ) (at place : ℕ) where
  pub filling_all : Filling s o to out at place → length s ≤ at → out ≡ put_at o to (image_bytes (decode s))
  unfolding image_bytes
  filling_all w h =
      putting_all image_item (decode s) o to out place
      (subst (λ (ys : List Item). Putting image_item (decode s) ys o to out place) (decode_past s at h) w.put)

  pub filling_place : Filling s o to out at place → length s ≤ at → place ≡ to + length (image_bytes (decode s))
  unfolding image_bytes
  filling_place w h =
      putting_end image_item (decode s) o to out place
      (subst (λ (ys : List Item). Putting image_item (decode s) ys o to out place) (decode_past s at h) w.put)

  module _ (w : Filling s o to out at place) (h : at < length s) where
    good : is_item (item_of (shape (drop at s)) (drop at s)) ≡ true
    good = all_first _ _ (sym (ap all_items (decode_at s at (shape (drop at s)) h refl)) ∙ w.right)

    pub filling_word : at + 4 ≤ length s
    filling_word = let room : 4 ≤ length s - at = simp length-drop at (word_whole (drop at s) (shape (drop at s)) refl good) in omega arith

    -- the item at the place is written, and the next one stands at place a
    next : (x : Item) (a k : ℕ) (q : List ℕ) → decode (drop at s) ≡ x ∷ decode (drop a s) → a ≤ length s
        → length (image_item x) ≡ k
        → q ≡ put_at out place (image_item x) → Filling s o to q a (place + k)
    next x a k q d m l e =
        record {
          within = m;
          right = all_rest x (decode (drop a s)) (sym (ap all_items d) ∙ w.right);
          put =
              putting_item image_item (decode s) o to out place x (decode (drop a s)) k q
              (subst (λ (ys : List Item). Putting image_item (decode s) ys o to out place) d w.put) l e;
        }

    roomy : (x : Item) (xs : List Item) → decode (drop at s) ≡ x ∷ xs → place + length (image_item x) ≤ length out
    roomy x xs d =
        putting_room image_item (decode s) o to out place x xs
        (subst (λ (ys : List Item). Putting image_item (decode s) ys o to out place) d w.put)

    module _ (n : ℕ) (e : n ≡ word (drop at s)) where
      module _ (z : n ≡ 0) where
        marked : shape (drop at s) ≡ Mark
        marked = (told (drop at s) (shape (drop at s)) refl good).0 (sym e ∙ z)

        pub mark_room : place + 3 ≤ length out
        unfolding image_item three
        mark_room = roomy mark _ (decode_mark s at h marked)

        pub filling_mark : (q : List ℕ) → q ≡ put_at out place (three 0) → Filling s o to q (at + 4) (place + 3)
        unfolding image_item three
        filling_mark q f = next mark (at + 4) 3 q (decode_mark s at h marked) filling_word refl f

      module _ (z : n ≡ end_word) where
        ended : shape (drop at s) ≡ ReelEnd
        ended = (told (drop at s) (shape (drop at s)) refl good).1 (sym e ∙ z)

        pub end_room : place + 3 ≤ length out
        unfolding image_item three
        end_room = roomy reel_end _ (decode_end s at h ended)

        pub filling_end : (q : List ℕ) → q ≡ put_at out place (three reel_end_word) → Filling s o to q (at + 4) (place + 3)
        unfolding image_item three
        filling_end q f = next reel_end (at + 4) 3 q (decode_end s at h ended) filling_word refl f

      module _ (z : n ≡ 0 → ⊥) (y : n ≡ end_word → ⊥) where
        blocked : shape (drop at s) ≡ Block n
        blocked =
            (told (drop at s) (shape (drop at s)) refl good).2 (λ q. z (e ∙ q)) (λ q. y (e ∙ q)) ∙ ap Block (sym e)

        pub block_most : n ≤ most_bytes
        block_most = (block_at (drop at s) n blocked).most

        pub block_inside : at + 4 + n ≤ length s
        block_inside = omega (arith, block_within s at n blocked)

        pub block_fits : length s < 2 ^ 64 → Fits w64 (at + 4 + n)
        block_fits f = record { fits = omega (arith, block_inside) }

        pub place_fits : (r : ℕ) → r ≡ span_of n → length s < 2 ^ 64 → Fits w64 (at + r)
        place_fits r k f = record { fits = omega (arith, block_within s at n blocked) }

        -- as the code cuts it
        cut : part (at + 4) n s ≡ take (at + 4 + n - (at + 4)) (drop (at + 4) s)
        cut = sym (part_within (at + 4) n s)

        long : length (take (at + 4 + n - (at + 4)) (drop (at + 4) s)) ≡ n
        long = ap length (sym cut) ∙ length_part (at + 4) n s block_inside

        there : decode (drop at s) ≡ block (take (at + 4 + n - (at + 4)) (drop (at + 4) s)) ∷ decode (drop (at + span_of n) s)
        there = decode_block s at n h blocked ∙ ap (λ (bs : List ℕ). block bs ∷ decode (drop (at + span_of n) s)) cut

        item_size : (bs : List ℕ) → length (image_item (block bs)) ≡ 3 + length bs
        unfolding image_item three
        item_size bs = length-append (three (length bs)) bs

        pub block_room : place + 3 + length (take (at + 4 + n - (at + 4)) (drop (at + 4) s)) ≤ length out
        block_room =
            let room = roomy _ _ there in
            let size = item_size (take (at + 4 + n - (at + 4)) (drop (at + 4) s)) in
            omega arith

        pub block_small : length (take (at + 4 + n - (at + 4)) (drop (at + 4) s)) < 16777216
        block_small = omega (arith, long, block_most)

        pub end_fits : length o < 2 ^ 64 → Fits w64 (place + 3 + n)
        end_fits f = record { fits = omega (arith, block_room, long, w.put.size) }

        pub filling_block : (r : ℕ) (q : List ℕ) → r ≡ span_of n
            → q ≡ put_at out place (image_item (block (take (at + 4 + n - (at + 4)) (drop (at + 4) s))))
            → Filling s o to q (at + r) (place + 3 + n)
        filling_block r q k f =
            let size : length (image_item (block (take (at + 4 + n - (at + 4)) (drop (at + 4) s)))) ≡ 3 + n = item_size _ ∙ ap (λ (m : ℕ). 3 + m) long in
            let place-behind : place + (3 + n) ≡ place + 3 + n = omega arith in
            subst (λ (m : ℕ). Filling s o to q (at + m) (place + 3 + n)) (sym k)
            (subst (Filling s o to q (at + span_of n)) place-behind
            (next _ (at + span_of n) (3 + n) q there (block_within s at n blocked) size f))

pub ruleset fills =
    (filling_none, filling_word, filling_mark, filling_end, filling_block, filling_all, filling_place, mark_room, end_room, block_room, block_small, block_most, block_inside, block_fits, place_fits, end_fits, rules)

-- ---- all files

pub record Storing (tape lengths o out : List ℕ) (from to i : ℕ) : Type 0 where
  pub between : FileStart tape lengths from i
  pub close : AllClose (reels_from tape lengths from i)
  pub put : Putting image_item (items_in tape lengths) (end_to_end (reels_from tape lengths from i)) o 5 out to

pub storing_none : (tape lengths o : List ℕ) → Storable tape lengths (length o) → Storing tape lengths o o 0 5 0
unfolding reels_in image_bytes
storing_none tape lengths o s =
    record {
      between = between_none tape lengths s.whole;
      close = reels_close 0 (reels_in tape lengths) s.right;
      put = putting_none image_item (items_in tape lengths) o 5 s.room;
    }

module _ (tape lengths o out : List ℕ) (from to i : ℕ) (w : Storing tape lengths o out from to i) where
  pub storing_all : length lengths ≤ i → out ≡ put_at o 5 (image_bytes (items_in tape lengths))
  unfolding image_bytes end_to_end
  storing_all h =
      putting_all image_item (items_in tape lengths) o 5 out to
      (subst (λ (rs : List (List Item)). Putting image_item (items_in tape lengths) (end_to_end rs) o 5 out to)
      (reels_past tape lengths from i h) w.put)

  module _ (h : i < length lengths) where
    abbrev file : List ℕ
    file = take (from + get_or lengths i 0 - from) (drop from tape)

    abbrev rest : List (List Item)
    rest = reels_from tape lengths (from + get_or lengths i 0) (i + 1)

    both : AllClose (decode file ∷ rest)
    both = subst AllClose (reels_at_lem tape lengths from i h) w.close

    here : Putting image_item (items_in tape lengths) (decode file ++ end_to_end rest) o 5 out to
    unfolding end_to_end
    here =
        subst (λ (rs : List (List Item)). Putting image_item (items_in tape lengths) (end_to_end rs) o 5 out to)
        (reels_at_lem tape lengths from i h) w.put

    pub file_fitting : FittingItems (decode (take (from + get_or lengths i 0 - from) (drop from tape))) (length out) to
    unfolding AllClose image_bytes
    file_fitting =
        let long = ap length (by_append image_item (decode file) (end_to_end rest)) ∙ length-append (encode_by image_item (decode file)) (encode_by image_item (end_to_end rest)) in
        record { right = closes_right file both.0; room = omega (arith, here.size, here.fits, here.ends) }

    pub storing_more : (q : List ℕ) (r : ℕ)
        → r ≡ to + length (image_bytes (decode (take (from + get_or lengths i 0 - from) (drop from tape))))
        → q ≡ put_at out to (image_bytes (decode (take (from + get_or lengths i 0 - from) (drop from tape))))
        → Storing tape lengths o q (from + get_or lengths i 0) r (i + 1)
    unfolding AllClose image_bytes
    storing_more q r k e =
        record {
          between = between_more tape lengths from i w.between h;
          close = both.1;
          put =
              subst (Putting image_item (items_in tape lengths) (end_to_end rest) o 5 q) (sym k)
              (putting_more image_item (items_in tape lengths) o 5 out to (decode file) (end_to_end rest) q here e);
        }

pub ruleset stores = (storing_none, storing_more, storing_all, file_fitting, file_within, file_fits, file_start, rules)

-- The items of an image written as files, and the lengths of these into a list, as the loop over the items does it. Assumes
-- nothing.
use mathlib.Core.Path.{◌≡◌, refl, sym, ap, ◌∙◌, subst}
use mathlib.Core.Bool.{true, false≢true}
use mathlib.Core.List.{List, [], ◌∷◌}
use Prim.Native.Nat.{ℕ, ◌+◌, ◌-◌, ◌^◌, ◌≤◌, ◌<◌}
use native.Mathlib.Omega.{arith}
use mir.Syntax.{w64}
use mir.Val.{Fits}
use borrow.Author.Rules.{rules}
use lib.ListN.{length, take, drop, set, length-set}
use Rattle.base.specs.Part.{part, put_at}
use Rattle.base.proofs.Parts.{length_part, put_none, part_within}
use Rattle.image.specs.Item.{Item, block, mark, reel_end, broken, shape, decode}
use Rattle.image.specs.Code.Items.{is_item, all_items}
use Rattle.image.specs.Framing.{items}
use Rattle.image.specs.declared.Shape.{Shape}
use Rattle.image.specs.declared.Shape.TheVariants.{Block, Mark, ReelEnd, Broken}
use Rattle.image.proofs.Coding.{all_first, all_rest}
use Rattle.image.proofs.Items.{block_within, block_fits, decode_past, decode_block, decode_mark, decode_reel_end, decode_broken}
use Rattle.base.proofs.Put.{put_first}
use Rattle.simh.specs.Tape.{end_word, span_of, four, bytes_of, encode}
use Rattle.simh.specs.Code.Passes.{lengths_from, FilesFit}
use Rattle.simh.proofs.Sizes.{item_span}
use Rattle.simh.proofs.Sizing.{block_most}
use Rattle.simh.proofs.Storing.{Putting, putting_none, putting_item, putting_all, putting_room}

-- n bytes of the open file are written, and so many of the lengths
pub record FilesLaid (xs ys : List Item) (ls lens : List ℕ) (n file : ℕ) : Type 0 where
  pub size : length lens ≡ length ls
  pub fits : length (lengths_from 0 xs) ≤ length ls
  pub ends : file + length (lengths_from n ys) ≡ length (lengths_from 0 xs)
  pub left : put_at lens file (lengths_from n ys) ≡ put_at ls 0 (lengths_from 0 xs)

-- an item that ends no file, and one that does
listing_more : (xs : List Item) (x : Item) (ys : List Item) (ls lens : List ℕ) (n k file : ℕ)
    → lengths_from n (x ∷ ys) ≡ lengths_from k ys
    → FilesLaid xs (x ∷ ys) ls lens n file → FilesLaid xs ys ls lens k file
listing_more xs x ys ls lens n k file e w =
    record {
      size = w.size;
      fits = w.fits;
      ends = ap (λ (l : List ℕ). file + length l) (sym e) ∙ w.ends;
      left = ap (put_at lens file) (sym e) ∙ w.left;
    }

listing_room : (xs ys : List Item) (ls lens : List ℕ) (n file : ℕ) → FilesLaid xs (reel_end ∷ ys) ls lens n file
    → file < length lens
unfolding lengths_from
listing_room xs ys ls lens n file w = omega (arith, w.size, w.fits, w.ends)

listing_end : (xs ys : List Item) (ls lens : List ℕ) (n file : ℕ) → FilesLaid xs (reel_end ∷ ys) ls lens n file
    → FilesLaid xs ys ls (set lens file (n + 4)) 0 (file + 1)
unfolding lengths_from
listing_end xs ys ls lens n file w =
    record {
      size = length-set lens file (n + 4) ∙ w.size;
      fits = w.fits;
      ends = omega (arith, w.ends);
      left = sym (put_first lens file (n + 4) (lengths_from 0 ys) (omega (arith, w.size, w.fits, w.ends))) ∙ w.left;
    }

-- ---- the loop

pub record Laying (s o ls out lens : List ℕ) (at to from file : ℕ) : Type 0 where
  pub right : all_items (decode (drop at s)) ≡ true
  pub ahead : from ≤ to
  pub put : Putting bytes_of (items s) (decode (drop at s)) o 0 out to
  pub list : FilesLaid (items s) (decode (drop at s)) ls lens (to - from) file

pub laying_none : (s o ls : List ℕ) → FilesFit (items s) (length o) (length ls) → Laying s o ls o ls 5 0 0 0
unfolding items encode
laying_none s o ls f =
    record {
      right = f.right;
      ahead = omega arith;
      put = putting_none bytes_of (items s) o 0 (omega (arith, f.room));
      list = record { size = refl; fits = f.entries; ends = omega arith; left = refl };
    }

module _ (s o ls out lens : List ℕ) (at to from file : ℕ) (w : Laying s o ls out lens at to from file) where
  -- the item at the place, with what is left behind it
  there_put : (x : Item) (xs : List Item) → decode (drop at s) ≡ x ∷ xs → Putting bytes_of (items s) (x ∷ xs) o 0 out to
  there_put x xs d = subst (λ (ys : List Item). Putting bytes_of (items s) ys o 0 out to) d w.put

  there_list : (x : Item) (xs : List Item) → decode (drop at s) ≡ x ∷ xs → FilesLaid (items s) (x ∷ xs) ls lens (to - from) file
  there_list x xs d = subst (λ (ys : List Item). FilesLaid (items s) ys ls lens (to - from) file) d w.list

  there_right : (x : Item) (xs : List Item) → decode (drop at s) ≡ x ∷ xs → all_items (x ∷ xs) ≡ true
  there_right x xs d = sym (ap all_items d) ∙ w.right

  pub laying_all : length s ≤ at → out ≡ put_at o 0 (encode (items s))
  unfolding encode
  laying_all h =
      putting_all bytes_of (items s) o 0 out to
      (subst (λ (ys : List Item). Putting bytes_of (items s) ys o 0 out to) (decode_past s at h) w.put)

  pub listing_all : length s ≤ at → lens ≡ put_at ls 0 (lengths_from 0 (items s))
  unfolding lengths_from
  listing_all h =
      let l : FilesLaid (items s) [] ls lens (to - from) file
      = subst (λ (ys : List Item). FilesLaid (items s) ys ls lens (to - from) file) (decode_past s at h) w.list in
      sym (put_none lens file) ∙ l.left

  module _ (p : Shape) (h : at < length s) (e : p ≡ shape (drop at s)) where
    -- no item of a good framing is broken
    impossible : p ≡ Broken → ⊥
    unfolding is_item
    impossible q = false≢true (all_first broken [] (there_right broken [] (decode_broken s at p h e q)))

    pub broken_put : p ≡ Broken → out ≡ put_at o 0 (encode (items s))
    broken_put q = absurd (impossible q)

    pub broken_list : p ≡ Broken → lens ≡ put_at ls 0 (lengths_from 0 (items s))
    broken_list q = absurd (impossible q)

    module _ (q : p ≡ Mark) where
      pub mark_room : to + 4 ≤ length out
      unfolding bytes_of four
      mark_room = putting_room bytes_of (items s) o 0 out to mark _ (there_put mark _ (decode_mark s at p h e q))

      pub laying_mark : (r : List ℕ) → r ≡ put_at out to (four 0) → Laying s o ls r lens (at + 3) (to + 4) from file
      unfolding bytes_of four lengths_from
      laying_mark r f =
          let d = decode_mark s at p h e q in
          let xs : List Item = decode (drop (at + 3) s) in
          let n : to - from + 4 ≡ to + 4 - from = omega (arith, w.ahead) in
          record {
            right = all_rest mark xs (there_right mark xs d);
            ahead = omega (arith, w.ahead);
            put = putting_item bytes_of (items s) o 0 out to mark xs 4 r (there_put mark xs d) refl f;
            list =
                listing_more (items s) mark xs ls lens (to - from) (to + 4 - from) file (ap (λ (k : ℕ). lengths_from k xs) n)
                (there_list mark xs d);
          }

    module _ (q : p ≡ ReelEnd) where
      pub end_room : to + 4 ≤ length out
      unfolding bytes_of four
      end_room = putting_room bytes_of (items s) o 0 out to reel_end _ (there_put reel_end _ (decode_reel_end s at p h e q))

      pub entry_room : file < length lens
      entry_room = listing_room (items s) _ ls lens (to - from) file (there_list reel_end _ (decode_reel_end s at p h e q))

      pub laying_end : (r : List ℕ) → r ≡ put_at out to (four end_word)
          → Laying s o ls r (set lens file (to + 4 - from)) (at + 3) (to + 4) (to + 4) (file + 1)
      unfolding bytes_of four lengths_from
      laying_end r f =
          let d = decode_reel_end s at p h e q in
          let xs : List Item = decode (drop (at + 3) s) in
          let n : to - from + 4 ≡ to + 4 - from = omega (arith, w.ahead) in
          let none : 0 ≡ to + 4 - (to + 4) = omega arith in
          record {
            right = all_rest reel_end xs (there_right reel_end xs d);
            ahead = omega arith;
            put = putting_item bytes_of (items s) o 0 out to reel_end xs 4 r (there_put reel_end xs d) refl f;
            list =
                subst (λ (k : ℕ). FilesLaid (items s) xs ls (set lens file (to + 4 - from)) k (file + 1)) none
                (subst (λ (k : ℕ). FilesLaid (items s) xs ls (set lens file k) 0 (file + 1)) n
                (listing_end (items s) xs ls lens (to - from) file (there_list reel_end xs d)));
          }

    module _ (n : ℕ) (q : p ≡ Block n) where
      inside : at + 3 + n ≤ length s
      inside = block_within s at n p e q

      -- as the code cuts it
      cut : part (at + 3) n s ≡ take (at + 3 + n - (at + 3)) (drop (at + 3) s)
      cut = sym (part_within (at + 3) n s)

      long : length (take (at + 3 + n - (at + 3)) (drop (at + 3) s)) ≡ n
      long = ap length (sym cut) ∙ length_part (at + 3) n s inside

      there : decode (drop at s) ≡ block (take (at + 3 + n - (at + 3)) (drop (at + 3) s)) ∷ decode (drop (at + 3 + n) s)
      there = decode_block s at n p h e q ∙ ap (λ (bs : List ℕ). block bs ∷ decode (drop (at + 3 + n) s)) cut

      pub block_inside : at + 3 + n ≤ length s
      block_inside = inside

      pub record_room : to + span_of (length (take (at + 3 + n - (at + 3)) (drop (at + 3) s))) ≤ length out
      record_room =
          omega (
            arith,
            putting_room bytes_of (items s) o 0 out to _ _ (there_put _ _ there),
            item_span
                (take (at + 3 + n - (at + 3)) (drop (at + 3) s)),
          )

      pub record_small : length (take (at + 3 + n - (at + 3)) (drop (at + 3) s)) < 4294967296
      record_small = omega (arith, long, block_most s at n p e q)

      span_there : span_of (length (take (at + 3 + n - (at + 3)) (drop (at + 3) s))) ≡ span_of n
      span_there = ap span_of long

      pub to_fits : (k : ℕ) → k ≡ span_of n → length o < 2 ^ 64 → Fits w64 (to + k)
      to_fits k i f = record { fits = omega (arith, record_room, span_there, w.put.size) }

      pub laying_block : (k : ℕ) (r : List ℕ) → k ≡ span_of n
          → r ≡ put_at out to (bytes_of (block (take (at + 3 + n - (at + 3)) (drop (at + 3) s))))
          → Laying s o ls r lens (at + 3 + n) (to + k) from file
      unfolding lengths_from
      laying_block k r i f =
          let bs : List ℕ = take (at + 3 + n - (at + 3)) (drop (at + 3) s) in
          let xs : List Item = decode (drop (at + 3 + n) s) in
          let size : length (bytes_of (block bs)) ≡ k = item_span bs ∙ span_there ∙ sym i in
          let more : to - from + span_of (length bs) ≡ to + k - from = omega (arith, w.ahead, span_there) in
          record {
            right = all_rest (block bs) xs (there_right (block bs) xs there);
            ahead = omega (arith, w.ahead);
            put = putting_item bytes_of (items s) o 0 out to (block bs) xs k r (there_put (block bs) xs there) size f;
            list =
                listing_more (items s) (block bs) xs ls lens (to - from) (to + k - from) file
                (ap (λ (m : ℕ). lengths_from m xs) more)
                (there_list (block bs) xs there);
          }

pub ruleset lays =
    (laying_none, laying_mark, laying_end, laying_block, laying_all, listing_all, broken_put, broken_list, mark_room, end_room, entry_room, record_room, record_small, block_most, block_inside, to_fits, block_fits, rules)

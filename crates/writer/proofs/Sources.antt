-- The next record of a sheet, and of an image. Assumes nothing.
use Rattle.std.specs.Prelude.{Option, Some, None}
use Rattle.content.specs.declared.measuring.Measured.{Measured}
use mathlib.Core.Path.{◌≡◌, refl, sym, ap, ◌∙◌, subst}
use mathlib.Core.Bool.{true, false, false≢true}
use mathlib.Core.List.{List, [], ◌∷◌}
use Prim.Native.Nat.{ℕ, suc, ◌+◌, ◌-◌, ◌*◌, ◌^◌, ◌≤◌, ◌<◌}
use native.Mathlib.Omega.{arith}
use borrow.Author.Rules.{scaled_Fits, rules}
use mir.Val.{Fits}
use mir.Syntax.{w64}
use lib.ListN.{length, take, drop, get_or}
use lib.Seq.{drop-cons, drop-drop}
use Rattle.base.proofs.Ifs.{if_true, if_false}
use Rattle.base.specs.Part.{part}
use Rattle.base.specs.Sum.{sum, cut_by}
use Rattle.block.specs.Unit.{word_of}
use Rattle.content.specs.Walk.{moved, Record, whole, split, nothing as no_record, ends, record_at}
use Rattle.content.specs.Whole.{at_block}
use Rattle.content.specs.Code.Heads.{whole_at}
use Rattle.content.specs.Measure.{measured_by}
use Rattle.content.specs.Code.Joining.{record_bytes}
use Rattle.content.specs.Walked.{handed, end_of}
use Rattle.content.specs.Records.{records_at}
use Rattle.content.specs.declared.Walk.{Walk}
use Rattle.content.specs.declared.measuring.Measured.TheVariants.{Whole, Split}
use Rattle.content.proofs.Wholes.{measured_whole as whole_measured, word_least, whole_left, whole_start, whole_end}
use Rattle.content.proofs.Records.{handed_passes}
use Rattle.content.proofs.Numbered.{measured_nothing, measured_whole, measured_split, measured_end_nothing, measured_end_whole, measured_end_split, whole_within}
use Rattle.writer.specs.declared.source.Cursor.{Cursor}
use Rattle.writer.specs.declared.source.Found.{Found}
use Rattle.writer.specs.declared.source.Shape.TheVariants.{Piece, Segments}
use Rattle.writer.specs.Code.Source.{walk_of, moved_to, lengths_at, records_of, end_at, stop_of, GoodCursor, split_bytes, found_bytes, Stands, NoneLeft, IsNext}

-- ---- what is left, by the source

module _ (lengths bytes : List ℕ) (c : Cursor) (s : c.image ≡ false) where
  sheet_records : records_of lengths bytes c ≡ cut_by (lengths_at lengths c) (drop c.at bytes)
  unfolding records_of
  sheet_records = if_false _ _ _ s

  sheet_end : end_at lengths bytes c ≡ c.at + sum (lengths_at lengths c)
  unfolding end_at
  sheet_end = if_false _ _ _ s

module _ (lengths bytes : List ℕ) (c : Cursor) (s : c.image ≡ true) where
  image_records : records_of lengths bytes c ≡ records_at bytes (walk_of c)
  unfolding records_of
  image_records = if_true _ _ _ s

  image_end_lem : end_at lengths bytes c ≡ end_of bytes (walk_of c)
  unfolding end_at
  image_end_lem = if_true _ _ _ s

sheet_stop : (c : Cursor) → c.image ≡ false → stop_of c ≡ c.at
unfolding stop_of
sheet_stop c s = if_false _ _ _ s

image_stop : (c : Cursor) → c.image ≡ true → stop_of c ≡ c.at + c.left
unfolding stop_of
image_stop c s = if_true _ _ _ s

-- ---- a record found

module _ (lengths bytes : List ℕ) (c : Cursor) (g : GoodCursor lengths bytes c) where
  module _ (r : Found) (l : c.image ≡ false → r.left ≤ c.left)
      (o : records_of lengths bytes c ≡ found_bytes bytes c r ∷ records_of lengths bytes (moved_to c r.at r.left))
      (e : end_at lengths bytes (moved_to c r.at r.left) ≡ end_at lengths bytes c) where
    some_found : Stands bytes c r.len r.shape → IsNext lengths bytes c r
    some_found i =
        record {
          one = o;
          good =
              record {
                order = λ z. let a = l z in let b = g.order z in omega arith;
                within = g.within;
                inside = subst (λ (n : ℕ). n ≤ length bytes) (sym e) g.inside;
              };
          end = e;
          stands = i;
        }

split_is : (bytes : List ℕ) (c : Cursor) → split_bytes bytes c ≡ record_bytes (record_at bytes (walk_of c))
unfolding split_bytes
split_is bytes c = refl

-- ---- the next record of a sheet

one_left : (lengths : List ℕ) (stop left : ℕ) → (left ≡ 0 → ⊥) → left ≤ stop → stop ≤ length lengths
    → part (stop - left) left lengths ≡ get_or lengths (stop - left) 0 ∷ part (stop - (left - 1)) (left - 1) lengths
unfolding part
one_left lengths stop left z h k =
    let e : left ≡ suc (left - 1) = omega arith in
    let n : suc (stop - left) ≡ stop - (left - 1) = omega arith in
    ap (λ (j : ℕ). take j (drop (stop - left) lengths)) e
    ∙ ap (take (suc (left - 1))) (drop-cons lengths (stop - left) 0 (omega arith))
    ∙ ap (λ (j : ℕ). get_or lengths (stop - left) 0 ∷ take (left - 1) (drop j lengths)) n

cut_part : (at n : ℕ) (bytes : List ℕ) → take n (drop at bytes) ≡ part at n bytes
unfolding part
cut_part at n bytes = refl

module _ (lengths bytes : List ℕ) (c : Cursor) (g : GoodCursor lengths bytes c) (s : c.image ≡ false) where
  pub listed_none : c.left ≡ 0 → NoneLeft lengths bytes c
  unfolding lengths_at part cut_by sum
  listed_none z =
      let none : lengths_at lengths c ≡ [] = ap (λ (n : ℕ). take n (drop (c.stop - c.left) lengths)) z in
      let end : c.at ≡ c.at + sum (lengths_at lengths c) = omega (arith, ap sum none) in
      record {
        none = sheet_records lengths bytes c s ∙ ap (λ (ns : List ℕ). cut_by ns (drop c.at bytes)) none;
        over = sheet_stop c s ∙ end ∙ sym (sheet_end lengths bytes c s);
      }

  pub listed_order : c.left ≤ c.stop
  listed_order = g.order s

  module _ (z : c.left ≡ 0 → ⊥) where
    pub listed_within : c.stop - c.left < length lengths
    listed_within = let a = g.order s in let b = g.within s in omega arith

    pub listed_scaled : length lengths * 8 < 2 ^ 63 → Fits w64 ((c.stop - c.left) * 8)
    listed_scaled k = scaled_Fits (c.stop - c.left) (length lengths) 8 listed_within k

    module _ (n : ℕ) (e : n ≡ get_or lengths (c.stop - c.left) 0) where
      abbrev r : Found
      r = record { shape = Piece c.at; len = n; at = c.at + n; left = c.left - 1 }

      abbrev d : Cursor
      d = moved_to c (c.at + n) (c.left - 1)

      lengths_left : lengths_at lengths c ≡ n ∷ lengths_at lengths d
      unfolding lengths_at
      lengths_left =
          one_left lengths c.stop c.left z (g.order s) (g.within s)
          ∙ ap (λ (k : ℕ). k ∷ part (c.stop - (c.left - 1)) (c.left - 1) lengths) (sym e)

      total : sum (lengths_at lengths c) ≡ n + sum (lengths_at lengths d)
      unfolding sum
      total = ap sum lengths_left

      same_end : end_at lengths bytes d ≡ end_at lengths bytes c
      same_end =
          let all : c.at + n + sum (lengths_at lengths d) ≡ c.at + sum (lengths_at lengths c) = omega (arith, total) in
          sheet_end lengths bytes d s ∙ all ∙ sym (sheet_end lengths bytes c s)

      inside : c.at + n ≤ length bytes
      inside = let i = g.inside in let k = sheet_end lengths bytes c s in omega (arith, total)

      pub listed_fits : length bytes < 18446744073709551616 → Fits w64 (c.at + n)
      listed_fits h = let i = inside in omega arith

      pub listed_one : IsNext lengths bytes c r
      unfolding cut_by
      listed_one =
          some_found lengths bytes c g r (λ _. omega arith)
          (sheet_records lengths bytes c s
          ∙ ap (λ (ns : List ℕ). cut_by ns (drop c.at bytes)) lengths_left
          ∙ ap (λ (t : List ℕ). t ∷ cut_by (lengths_at lengths d) (drop n (drop c.at bytes)))
          (cut_part c.at n bytes)
          ∙ ap (λ (t : List ℕ). found_bytes bytes c r ∷ cut_by (lengths_at lengths d) t) (drop-drop n c.at bytes)
          ∙ ap (λ (t : List (List ℕ)). found_bytes bytes c r ∷ t) (sym (sheet_records lengths bytes d s)))
          same_end inside

pub ruleset listed = (listed_none, listed_order, listed_within, listed_scaled, listed_fits, listed_one, rules)

-- ---- the walk behind a record of an image is over the same file

abbrev Same : Walk → Option Measured → Type 0
Same w (Some (Whole start n v)) = moved w v.at v.left ≡ v
Same w (Some (Split n v)) = moved w v.at v.left ≡ v
Same w None = ◌≡◌ {A = Option Measured} None None

same_by : (s : List ℕ) (w : Walk) (x : Record) → ((r : List ℕ) (v : Walk) → handed s x ≡ ends r v → moved w v.at v.left ≡ v)
    → Same w (measured_by x)
unfolding measured_by handed
same_by s w (whole start n v) h = h (part start n s) v refl
same_by s w (split bs v) h = h bs v refl
same_by s w no_record h = refl

same_file : (s : List ℕ) (w : Walk) (m : Option Measured) → m ≡ measured_by (record_at s w) → Same w m
same_file s w m e =
    subst (Same w) (sym e)
    (same_by s w (record_at s w)
    (λ r v q.
    let p = handed_passes s w r v q in
    λ i. record { format = sym p.format i; record_length = sym p.record_length i; offset = sym p.offset i; at = v.at; left = v.left }))

-- ---- the next record of an image

module _ (lengths bytes : List ℕ) (c : Cursor) (g : GoodCursor lengths bytes c) (s : c.image ≡ true) (w : Walk)
    (k : w ≡ walk_of c) (m : Option Measured) (e : m ≡ measured_by (record_at bytes w)) where
  measured_is : m ≡ measured_by (record_at bytes (walk_of c))
  measured_is = e ∙ ap (λ (v : Walk). measured_by (record_at bytes v)) k

  pub far_none : m ≡ None → NoneLeft lengths bytes c
  far_none q =
      record {
        none = image_records lengths bytes c s ∙ measured_nothing bytes (walk_of c) m measured_is q;
        over = image_stop c s ∙ sym (measured_end_nothing bytes (walk_of c) m measured_is q) ∙ sym (image_end_lem lengths bytes c s);
      }

  -- a record x, and the walk behind it
  module _ (r : Found) (x : List ℕ) (v : Walk) (same : moved (walk_of c) r.at r.left ≡ v)
      (is : found_bytes bytes c r ≡ x) where
    records_on : records_at bytes (walk_of c) ≡ x ∷ records_at bytes v
        → records_of lengths bytes c ≡ found_bytes bytes c r ∷ records_of lengths bytes (moved_to c r.at r.left)
    records_on o =
        image_records lengths bytes c s
        ∙ o
        ∙ ap (λ (t : List ℕ). t ∷ records_at bytes v) (sym is)
        ∙ ap (λ (u : Walk). found_bytes bytes c r ∷ records_at bytes u) (sym same)
        ∙ ap (λ (t : List (List ℕ)). found_bytes bytes c r ∷ t) (sym (image_records lengths bytes (moved_to c r.at r.left) s))

    ends_on : end_of bytes (walk_of c) ≡ end_of bytes v → end_at lengths bytes (moved_to c r.at r.left) ≡ end_at lengths bytes c
    ends_on o =
        image_end_lem lengths bytes (moved_to c r.at r.left) s
        ∙ ap (end_of bytes) same
        ∙ sym o
        ∙ sym (image_end_lem lengths bytes c s)

    found_on : records_at bytes (walk_of c) ≡ x ∷ records_at bytes v → end_of bytes (walk_of c) ≡ end_of bytes v
        → Stands bytes c r.len r.shape → IsNext lengths bytes c r
    found_on o p i = some_found lengths bytes c g r (λ n. absurd (false≢true (sym n ∙ s))) (records_on o) (ends_on p) i

  pub far_whole : (from len : ℕ) (v : Walk) → m ≡ Some (Whole from len v)
      → IsNext lengths bytes c (record { shape = Piece from; len = len; at = v.at; left = v.left })
  far_whole from len v q =
      found_on (record { shape = Piece from; len = len; at = v.at; left = v.left }) (part from len bytes) v
      (same_file bytes (walk_of c) (Some (Whole from len v)) (sym q ∙ measured_is)) refl
      (measured_whole bytes (walk_of c) from len v m measured_is q)
      (measured_end_whole bytes (walk_of c) from len v m measured_is q)
      (whole_within bytes (walk_of c) from len v m measured_is q)

  pub far_split : (len : ℕ) (v : Walk) → m ≡ Some (Split len v)
      → IsNext lengths bytes c (record { shape = Segments; len = len; at = v.at; left = v.left })
  far_split len v q =
      found_on (record { shape = Segments; len = len; at = v.at; left = v.left }) (record_bytes (record_at bytes (walk_of c))) v
      (same_file bytes (walk_of c) (Some (Split len v)) (sym q ∙ measured_is))
      (split_is bytes c)
      (measured_split bytes (walk_of c) len v m measured_is q) (measured_end_split bytes (walk_of c) len v m measured_is q)
      (record { behind = v; is = sym q ∙ measured_is })

pub ruleset far = (far_none, far_whole, far_split, rules)

-- where it stands whole in a block
pub read_whole : (lengths bytes : List ℕ) (c : Cursor) (w v : Walk) (k word : ℕ) → GoodCursor lengths bytes c → c.image ≡ true
    → w ≡ walk_of c → v ≡ at_block bytes w
    → k ≡ whole_at bytes v → (k ≡ 0 → ⊥) → word ≡ word_of v.format
    → IsNext lengths bytes c (record { shape = Piece (v.at + word); len = k - word; at = v.at + k; left = v.left - k })
read_whole lengths bytes c w v k word g s e h m z q =
    far_whole lengths bytes c g s w e (Some (Whole (v.at + word) (k - word) (moved v (v.at + k) (v.left - k))))
    (whole_measured bytes w v _ k word h m z q refl)
    (v.at + word) (k - word) (moved v (v.at + k) (v.left - k)) refl

pub ruleset read = (read_whole, word_least, whole_left, whole_start, whole_end, rules)

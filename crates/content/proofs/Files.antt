-- Laws of the search for the next file, and of going from file to file. Assumes nothing.
use Rattle.std.specs.Prelude.{Option, Some, None}
use mathlib.Core.Path.{◌≡◌, refl, sym, ap, ap₂, ◌∙◌, subst}
use mathlib.Core.Bool.{false}
use mathlib.Core.List.{List}
use Prim.Native.Nat.{ℕ, zero, suc, ◌+◌, ◌-◌, ◌≤◌, ◌<◌}
use native.Mathlib.Omega.{arith}
use native.Mathlib.Decide.{dec_lt}
use mir.Val.{Fits}
use mir.Syntax.{w64}
use borrow.Author.Rules.{rules}
use borrow.Author.Tests.{eq-eqb, ne_eqb}
use lib.ListN.{length, drop}
use Rattle.base.specs.If.{if_b}
use Rattle.base.proofs.Ifs.{if_true, if_false}
use Rattle.base.specs.Part.{part}
use Rattle.base.proofs.Parts.{length_part}
use Rattle.image.specs.Item.{Item, shape, decode}
use Rattle.image.specs.declared.Shape.{Shape}
use Rattle.image.specs.declared.Shape.TheVariants.{Block as Bytes, Mark, ReelEnd, Broken}
use Rattle.image.proofs.Items.{block_within, mark_within, reel_end_within, decode_block, decode_mark, decode_reel_end, decode_broken, decode_past}
use Rattle.order.specs.declared.Phase.TheVariants.{Reel, Header, Data}
use Rattle.label.specs.Field.{format_of, record_length_of, offset_of}
use Rattle.volume.specs.Fault.{value_of}
use Rattle.volume.specs.Step.{bytes_in}
use Rattle.content.specs.Part.{place_behind, parts_from, parts_at, parts, first_in, first_from}
use Rattle.content.specs.File.{mark_from, walk_from, file_at, as_file, file_in, file_from, first_file, next_file, file_behind, from_file, files_on, file_numbered}
use Rattle.content.specs.declared.Walk.{Walk}
use Rattle.content.specs.declared.part.Position.{Position}
use Rattle.content.specs.declared.part.Part.TheVariants.{File, Section, Block}
use Rattle.content.specs.declared.part.PartAt.{PartAt}
use Rattle.content.specs.declared.FileAt.{FileAt}
use Rattle.content.proofs.Places.{start_fits, end_fits}
use Rattle.content.proofs.Parts.{stands, found_part, IsAhead, first_ahead}
use Rattle.content.proofs.Cases.{said}

-- ---- up to the mark

pub record Marking (s : List ℕ) (from at : ℕ) : Type 0 where
  pub room : length s < 18446744073709551616
  pub same : mark_from at (decode (drop at s)) ≡ mark_from from (decode (drop from s))

pub marking_none : (s : List ℕ) (from : ℕ) → length s < 18446744073709551616 → Marking s from from
marking_none s from h = record { room = h; same = refl }

pub marking_block : (s : List ℕ) (from at n : ℕ) (p : Shape) → Marking s from at → p ≡ shape (drop at s) → p ≡ Bytes n
    → Marking s from (at + 3 + n)
unfolding mark_from place_behind bytes_in
marking_block s from at n p c e q =
    let w = block_within s at n p e q in
    let l : length (part (at + 3) n s) ≡ n = length_part (at + 3) n s w in
    record {
      room = c.room;
      same = ap (λ (k : ℕ). mark_from (at + 3 + k) (decode (drop (at + 3 + n) s))) (sym l)
          ∙ sym (ap (mark_from at) (decode_block s at n p (omega arith) e q)) ∙ c.same;
    }

pub marking_mark : (s : List ℕ) (from at : ℕ) (p : Shape) → Marking s from at → p ≡ shape (drop at s) → p ≡ Mark
    → at + 3 ≡ mark_from from (decode (drop from s))
unfolding mark_from
marking_mark s from at p c e q =
    let w = mark_within s at p e q in
    sym (ap (mark_from at) (decode_mark s at p (omega arith) e q)) ∙ c.same

pub marking_reel_end : (s : List ℕ) (from at : ℕ) (p : Shape) → Marking s from at → p ≡ shape (drop at s) → p ≡ ReelEnd
    → at ≡ mark_from from (decode (drop from s))
unfolding mark_from
marking_reel_end s from at p c e q =
    let w = reel_end_within s at p e q in
    sym (ap (mark_from at) (decode_reel_end s at p (omega arith) e q)) ∙ c.same

pub marking_broken : (s : List ℕ) (from at : ℕ) (p : Shape) → Marking s from at → p ≡ shape (drop at s) → p ≡ Broken
    → at ≡ mark_from from (decode (drop from s))
unfolding mark_from
marking_broken s from at p c e q = by_end (dec_lt at (length s)) ∙ c.same
  where
    by_end : Dec (at < length s) → at ≡ mark_from at (decode (drop at s))
    by_end (yes l) = sym (ap (mark_from at) (decode_broken s at p l e q))
    by_end (no g) = let past : length s ≤ at = omega arith in sym (ap (mark_from at) (decode_past s at past))

pub mark_fits : (s : List ℕ) (from at : ℕ) (p : Shape) → Marking s from at → p ≡ shape (drop at s) → p ≡ Mark → Fits w64 (at + 3)
mark_fits s from at p c e q = record { fits = omega (arith, mark_within s at p e q, c.room) }

pub block_falls : (s : List ℕ) (at n : ℕ) (p : Shape) → p ≡ shape (drop at s) → p ≡ Bytes n
    → length s - (at + 3 + n) < length s - at
block_falls s at n p e q = omega (arith, block_within s at n p e q)

pub ruleset markings =
    (marking_none, marking_block, marking_mark, marking_reel_end, marking_broken, mark_fits, start_fits, end_fits, block_falls, rules)

-- ---- up to a file

pub walk_made : (f n o at : ℕ) (x y : Option ℕ) (l : List ℕ) → f ≡ format_of l → n ≡ value_of x → x ≡ record_length_of l → o ≡ value_of y
    → y ≡ offset_of l
    → ◌≡◌ {A = Walk} (record { format = f; record_length = n; offset = o; at = at; left = 0 }) (walk_from l at)
walk_made f n o at x y l e g h i j = cc

pub file_made : (s : List ℕ) (hdr1 hdr2 m : ℕ) (l : List ℕ) (w : Walk) → l ≡ part hdr2 80 s
    → m ≡ mark_from (hdr2 + 80) (decode (drop (hdr2 + 80) s)) → w ≡ walk_from l m
    → ◌≡◌ {A = FileAt} (record { hdr1 = hdr1; hdr2 = hdr2; walk = w }) (file_at s hdr1 hdr2)
file_made s hdr1 hdr2 m l w e f g = ap (λ (v : Walk). record { hdr1 = hdr1; hdr2 = hdr2; walk = v }) (g ∙ ap₂ walk_from e f)

-- what the search finds
file_by : (s : List ℕ) (c : Position) (r : PartAt) → r ≡ first_from c false false (parts_at s c) → as_file s r.part ≡ file_from s c
unfolding file_from file_in
file_by s c r e = ap (as_file s) (ap (λ (y : PartAt). y.part) e ∙ found_part c false false (parts_at s c))

pub file_there : (s : List ℕ) (c : Position) (r : PartAt) (hdr1 hdr2 : ℕ) (f : FileAt) → r ≡ first_from c false false (parts_at s c)
    → r.part ≡ Some (File hdr1 hdr2)
    → f ≡ file_at s hdr1 hdr2 → Some f ≡ file_from s c
unfolding as_file
file_there s c r hdr1 hdr2 f e q m = ap Some m ∙ sym (ap (as_file s) q) ∙ file_by s c r e

pub file_section : (s : List ℕ) (c : Position) (r : PartAt) (a b : ℕ) → r ≡ first_from c false false (parts_at s c)
    → r.part ≡ Some (Section a b) → None ≡ file_from s c
unfolding as_file
file_section s c r a b e q = sym (ap (as_file s) q) ∙ file_by s c r e

pub file_block : (s : List ℕ) (c : Position) (r : PartAt) (start n : ℕ) → r ≡ first_from c false false (parts_at s c)
    → r.part ≡ Some (Block start n) → None ≡ file_from s c
unfolding as_file
file_block s c r start n e q = sym (ap (as_file s) q) ∙ file_by s c r e

pub file_none : (s : List ℕ) (c : Position) (r : PartAt) → r ≡ first_from c false false (parts_at s c) → r.part ≡ None
    → None ≡ file_from s c
unfolding as_file
file_none s c r e q = sym (ap (as_file s) q) ∙ file_by s c r e

-- the HDR2 of a file that is found lies in the image
pub file_within : (s : List ℕ) (c : Position) (r : PartAt) (hdr1 hdr2 : ℕ) → r ≡ first_from c false false (parts_at s c)
    → r.part ≡ Some (File hdr1 hdr2) → hdr2 + 80 ≤ length s
file_within s c r hdr1 hdr2 e q =
    (subst (IsAhead s c.at) (sym (ap (λ (y : PartAt). y.part) e ∙ found_part c false false (parts_at s c)) ∙ q)
    (first_ahead s false false c.at c.hdr1 c.phase c.continues)).within

pub ruleset founds = (file_made, file_there, file_section, file_block, file_none, file_within, rules)

-- ---- from file to file

pub first_file_lem : (s : List ℕ) (x : Option FileAt) → x ≡ file_from s (stands 5 (length s) Reel false) → x ≡ first_file s
unfolding first_file
first_file_lem s x e = e

-- nothing stands behind a label that runs past the image
next_past : (s : List ℕ) (hdr1 hdr2 : ℕ) → length s ≤ hdr2 + 80 → None ≡ next_file s hdr1 hdr2
unfolding next_file file_from file_in first_in as_file parts_from
next_past s hdr1 hdr2 h =
    sym (ap (λ (xs : List Item). file_in s (parts (stands (hdr2 + 80) hdr1 (Header 2) false) xs)) (decode_past s (hdr2 + 80) h))

pub next_outside : (s : List ℕ) (hdr1 hdr2 : ℕ) → length s < hdr2 → None ≡ next_file s hdr1 hdr2
next_outside s hdr1 hdr2 h = next_past s hdr1 hdr2 (omega arith)

pub next_cut : (s : List ℕ) (hdr1 hdr2 : ℕ) → hdr2 ≤ length s → length s - hdr2 < 80 → None ≡ next_file s hdr1 hdr2
next_cut s hdr1 hdr2 h k = next_past s hdr1 hdr2 (omega arith)

pub next_file_lem : (s : List ℕ) (hdr1 hdr2 : ℕ) (x : Option FileAt) → x ≡ file_from s (stands (hdr2 + 80) hdr1 (Header 2) false)
    → x ≡ next_file s hdr1 hdr2
unfolding next_file
next_file_lem s hdr1 hdr2 x e = e

pub file_behind_lem : (s : List ℕ) (hdr1 at : ℕ) (x : Option FileAt) → x ≡ file_from s (stands at hdr1 Data false)
    → x ≡ file_behind s hdr1 at
unfolding file_behind
file_behind_lem s hdr1 at x e = e

pub behind_fits : (s : List ℕ) (hdr2 : ℕ) → length s < 18446744073709551616 → hdr2 ≤ length s → 80 ≤ length s - hdr2
    → Fits w64 (hdr2 + 80)
behind_fits s hdr2 h a b = record { fits = omega arith }

pub ruleset follows = (first_file_lem, next_outside, next_cut, next_file_lem, file_behind_lem, behind_fits, said, rules)

-- ---- files by their numbers

pub record Going (s : List ℕ) (from : FileAt) (files left : ℕ) (f : FileAt) : Type 0 where
  pub same : files_on s left f ≡ files_on s files from

pub going_none : (s : List ℕ) (from : FileAt) (files : ℕ) → Going s from files files from
going_none s from files = record { same = refl }

going_one : (s : List ℕ) (left : ℕ) (f : FileAt) (x : Option FileAt) → 0 < left → x ≡ next_file s f.hdr1 f.hdr2
    → files_on s left f ≡ from_file x (λ g. files_on s (left - 1) g)
unfolding files_on
going_one s zero f x h e = absurd (omega arith)
going_one s (suc k) f x h e =
    let l : k ≡ suc k - 1 = omega arith in
    ap₂ (λ (y : Option FileAt) (j : ℕ). from_file y (λ g. files_on s j g)) (sym e) l

pub going_more : (s : List ℕ) (from : FileAt) (files left : ℕ) (f g : FileAt) (x : Option FileAt) → Going s from files left f
    → 0 < left → x ≡ next_file s f.hdr1 f.hdr2 → x ≡ Some g
    → Going s from files (left - 1) g
unfolding from_file
going_more s from files left f g x c h e q =
    record { same = sym (going_one s left f x h e ∙ ap (λ (y : Option FileAt). from_file y (λ g. files_on s (left - 1) g)) q) ∙ c.same }

pub going_nowhere : (s : List ℕ) (from : FileAt) (files left : ℕ) (f : FileAt) (x : Option FileAt) → Going s from files left f
    → 0 < left → x ≡ next_file s f.hdr1 f.hdr2 → x ≡ None
    → None ≡ files_on s files from
unfolding from_file
going_nowhere s from files left f x c h e q =
    sym (going_one s left f x h e ∙ ap (λ (y : Option FileAt). from_file y (λ g. files_on s (left - 1) g)) q) ∙ c.same

pub going_all : (s : List ℕ) (from : FileAt) (files left : ℕ) (f : FileAt) → Going s from files left f → left ≤ 0
    → Some f ≡ files_on s files from
unfolding files_on
going_all s from files zero f c h = c.same
going_all s from files (suc k) f c h = absurd (omega arith)

pub ruleset goings = (going_none, going_more, going_nowhere, going_all, rules)

pub numbered_zero : (s : List ℕ) (n : ℕ) → n ≡ 0 → None ≡ file_numbered s n
unfolding file_numbered
numbered_zero s n h = sym (if_true _ _ _ (eq-eqb n 0 h))

from_first : (s : List ℕ) (n : ℕ) (x : Option FileAt) → (n ≡ 0 → ⊥) → x ≡ first_file s
    → from_file x (λ f. files_on s (n - 1) f) ≡ file_numbered s n
unfolding file_numbered
from_first s n x h e = ap (λ (y : Option FileAt). from_file y (λ f. files_on s (n - 1) f)) e ∙ sym (if_false _ _ _ (ne_eqb n 0 h))

pub numbered_none : (s : List ℕ) (n : ℕ) (x : Option FileAt) → (n ≡ 0 → ⊥) → x ≡ first_file s → x ≡ None → None ≡ file_numbered s n
unfolding from_file
numbered_none s n x h e q = ap (λ (y : Option FileAt). from_file y (λ f. files_on s (n - 1) f)) (sym q) ∙ from_first s n x h e

pub numbered_on : (s : List ℕ) (n : ℕ) (x y : Option FileAt) (f : FileAt) → (n ≡ 0 → ⊥) → x ≡ first_file s → x ≡ Some f
    → y ≡ files_on s (n - 1) f → y ≡ file_numbered s n
unfolding from_file
numbered_on s n x y f h e q m = m ∙ ap (λ (z : Option FileAt). from_file z (λ f. files_on s (n - 1) f)) (sym q) ∙ from_first s n x h e

pub ruleset numbereds = (numbered_zero, numbered_none, numbered_on, rules)

-- ---- from file to file, and by number

found_self : (x : Option FileAt) → from_file x (λ f. Some f) ≡ x
unfolding from_file
found_self (Some f) = refl
found_self None = refl

-- file 1 is the first
pub numbered_first : (s : List ℕ) → file_numbered s 1 ≡ first_file s
unfolding file_numbered files_on if_b
numbered_first s = found_self (first_file s)

on_next : (s : List ℕ) (k : ℕ) (f g : FileAt) → files_on s k f ≡ Some g → files_on s (suc k) f ≡ next_file s g.hdr1 g.hdr2
unfolding files_on from_file
on_next s zero f g e =
    let same : f ≡ g = cc in
    found_self (next_file s f.hdr1 f.hdr2) ∙ ap (λ (h : FileAt). next_file s h.hdr1 h.hdr2) same
on_next s (suc k) f g e = by_next (λ h q. on_next s k h g q) (next_file s f.hdr1 f.hdr2) e
  where
    by_next : ((h : FileAt) → files_on s k h ≡ Some g → files_on s (suc k) h ≡ next_file s g.hdr1 g.hdr2) → (x : Option FileAt)
        → from_file x (λ h. files_on s k h) ≡ Some g
        → from_file x (λ h. files_on s (suc k) h) ≡ next_file s g.hdr1 g.hdr2
    by_next again (Some h) q = again h q
    by_next again None q = let z : ◌≡◌ {A = ℕ} 0 1 = cc in absurd (omega arith)

-- the file behind file n is file n + 1
pub numbered_next : (s : List ℕ) (n : ℕ) (f : FileAt) → file_numbered s n ≡ Some f
    → next_file s f.hdr1 f.hdr2 ≡ file_numbered s (n + 1)
unfolding from_file
numbered_next s zero f e =
    let none : None ≡ file_numbered s 0 = numbered_zero s 0 refl in
    let z : ◌≡◌ {A = ℕ} 0 1 = cc in
    absurd (omega arith)
numbered_next s (suc k) f e =
    by_first (first_file s) (from_first s (suc k) (first_file s) (λ z. omega arith) refl ∙ e)
    ∙ from_first s (suc k + 1) (first_file s) (λ z. omega arith) refl
  where
    by_first : (x : Option FileAt) → from_file x (λ h. files_on s (suc k - 1) h) ≡ Some f
        → next_file s f.hdr1 f.hdr2 ≡ from_file x (λ h. files_on s (suc k + 1 - 1) h)
    by_first (Some h) q =
        let here : suc k - 1 ≡ k = omega arith in
        let behind : suc k ≡ suc k + 1 - 1 = omega arith in
        sym (on_next s k h f (ap (λ (j : ℕ). files_on s j h) (sym here) ∙ q)) ∙ ap (λ (j : ℕ). files_on s j h) behind
    by_first None q = let z : ◌≡◌ {A = ℕ} 0 1 = cc in absurd (omega arith)

-- Laws of the parts of an image whose items are in order: from whatever place in the data of a file on, the same parts follow.
-- Assumes nothing.
use Rattle.content.specs.declared.section.Extent.{Extent}
use Rattle.std.proofs.lemmas.Option.{same_Some}
use Rattle.content.specs.Items.{seen}
use Rattle.content.specs.declared.part.Part.{Part}
use Rattle.content.specs.declared.FileAt.{FileAt}
use Rattle.std.specs.Prelude.{Option, Some, None}
use mathlib.Core.Path.{◌≡◌, refl, sym, ap, ap₂, ◌∙◌, subst}
use mathlib.Core.Bool.{Bool, true, false, false≢true}
use mathlib.Core.List.{List, [], ◌∷◌, map}
use Prim.Native.Nat.{ℕ, ◌+◌, ◌≤◌}
use native.Mathlib.Omega.{arith}
use lib.ListN.{length, drop}
use Rattle.base.specs.If.{if_b}
use Rattle.base.proofs.Ifs.{if_false}
use Rattle.base.specs.Part.{part}
use Rattle.image.specs.Item.{Item, broken, decode}
use Rattle.image.specs.Code.Items.{is_item}
use Rattle.order.specs.Kind.{hdr, eof, eov, data_block, end_of_image, is_kind}
use Rattle.order.specs.Due.{due_after}
use Rattle.order.specs.declared.Kind.{Kind}
use Rattle.order.specs.declared.Phase.{Phase}
use Rattle.order.specs.declared.Phase.TheVariants.{Header, Data}
use Rattle.order.proofs.Moves.{Stage, before, named, within, file_over, reel_over, Quiet, Move, stays, next_reel, header1, next_file, header2, datum, eof1, eov1, finish}
use Rattle.order.proofs.Phases.{stage, Numbered, due_goes}
use Rattle.volume.specs.Step.{kind_in, bytes_in}
use Rattle.reading.proofs.Stages.{is_open}
use Rattle.content.specs.Part.{place_behind, begins_file, led_to, continues_behind, first_behind, after, part_in, onto, parts_by, parts_from, parts, is_wanted, first_in}
use Rattle.content.specs.Code.Seen.{seen_in}
use Rattle.content.specs.Section.{as_block, block_in, data_from, extent}
use Rattle.content.specs.File.{file_in}
use Rattle.content.specs.declared.items.Seen.{Seen}
use Rattle.content.specs.declared.part.Position.{Position}
use Rattle.content.specs.declared.part.Part.TheVariants.{File, Section, Block}
use Rattle.content.specs.declared.part.PartAt.{PartAt}
use Rattle.content.proofs.Places.{sees, unseen}
use Rattle.content.proofs.Parts.{stands}
use Rattle.order.proofs.Groups.{block_data}

-- ---- the items of an image by their places

pub record ItemStands (s : List ℕ) (at : ℕ) (x : Item) (xs : List Item) : Type 0 where
  pub rest : decode (drop (place_behind at x) s) ≡ xs
  pub within : place_behind at x ≤ length s
  pub good : is_item x ≡ true
  pub bytes : bytes_in x ≡ part (at + 3) (length (bytes_in x)) s

pub item_at_lem : (s : List ℕ) (at : ℕ) (x : Item) (xs : List Item) → decode (drop at s) ≡ x ∷ xs → is_item x ≡ true
    → ItemStands s at x xs
unfolding place_behind is_item
item_at_lem s at x xs h good = by_seen (seen_in s Data at) refl
  where
    by_seen : (y : Option Seen) → y ≡ seen_in s Data at → ItemStands s at x xs
    by_seen None e =
        unseen s Data at None e refl (λ (ys : List Item). ys ≡ x ∷ xs → ItemStands s at x xs)
        (λ _ q. let z : ◌≡◌ {A = ℕ} 0 1 = cc in absurd (omega arith))
        (λ q. let b : x ≡ broken = cc in absurd (false≢true (subst (λ (y : Item). is_item y ≡ true) b good))) h
    by_seen (Some u) e =
        let c = sees s Data at u.len u.kind (seen u.kind u.len) e refl in
        let all : c.item ∷ decode (drop (at + 3 + u.len) s) ≡ x ∷ xs = sym c.here ∙ h in
        let a : c.item ≡ x = cc in
        let b : decode (drop (at + 3 + u.len) s) ≡ xs = cc in
        let l : u.len ≡ length (bytes_in x) = sym c.long ∙ ap (λ (y : Item). length (bytes_in y)) a in
        record {
          rest = ap (λ (m : ℕ). decode (drop (at + 3 + m) s)) (sym l) ∙ b;
          within = subst (λ (m : ℕ). at + 3 + m ≤ length s) l c.within;
          good = good;
          bytes = ap bytes_in (sym a) ∙ c.bytes ∙ ap (λ (m : ℕ). part (at + 3) m s) l;
        }

-- each item from a place on is due where it stands
abbrev pub InOrder : List ℕ → Phase → ℕ → List Item → Type 0
InOrder s p at [] = Unit {0}
InOrder s p at (x ∷ xs) =
    (q : Phase) × ItemStands s at x xs × (due_after p (kind_in p x) ≡ Some q) × InOrder s q (place_behind at x) xs

-- ---- the parts from one item on

parts_item : (c : Position) (q : Phase) (x : Item) (xs : List Item) (k : Kind) → kind_in c.phase x ≡ k
    → led_to c.continues c.phase k ≡ Some q
    → parts c (x ∷ xs)
    ≡ map (λ (p : PartAt). p.part)
    (onto (part_in c.continues c.hdr1 (c.at + 3) (length (bytes_in x)) k) (after c k (length (bytes_in x)) q)
    (parts_from (after c k (length (bytes_in x)) q) xs))
unfolding parts_from parts_by
parts_item c q x xs k e d =
    ap (map (λ (p : PartAt). p.part))
    (ap (λ (j : Kind). parts_by (led_to c.continues c.phase j) (λ r. rest j r)) e
    ∙ ap (λ (y : Option Phase). parts_by y (λ r. rest k r)) d)
  where
    rest : Kind → Phase → List PartAt
    rest j r =
        onto (part_in c.continues c.hdr1 (c.at + 3) (length (bytes_in x)) j) (after c j (length (bytes_in x)) r)
        (parts_from (after c j (length (bytes_in x)) r) xs)

-- one that is no part
pub parts_on : (c : Position) (q : Phase) (x : Item) (xs : List Item) (k : Kind) → kind_in c.phase x ≡ k
    → is_kind k data_block ≡ false → is_kind k (hdr 2) ≡ false
    → due_after c.phase k ≡ Some q → parts c (x ∷ xs) ≡ parts (after c k (length (bytes_in x)) q) xs
unfolding led_to begins_file part_in onto
parts_on c q x xs k e a b d =
    parts_item c q x xs k e (if_false _ _ _ (if_false _ _ _ b) ∙ d)
    ∙ ap (λ (p : Option Part). map (λ (r : PartAt). r.part)
    (onto p (after c k (length (bytes_in x)) q) (parts_from (after c k (length (bytes_in x)) q) xs)))
    (if_false _ _ _ a ∙ if_false _ _ _ b)

-- a data block
pub parts_block : (p q : Phase) (g : Bool) (hdr1 at : ℕ) (x : Item) (xs : List Item) → kind_in p x ≡ data_block
    → due_after p data_block ≡ Some q
    → parts (stands at hdr1 p g) (x ∷ xs) ≡ Some (Block (at + 3) (length (bytes_in x))) ∷ parts (stands (place_behind at x) hdr1 q g) xs
unfolding led_to begins_file continues_behind first_behind part_in onto is_kind if_b place_behind
parts_block p q g hdr1 at x xs e d = parts_item (stands at hdr1 p g) q x xs data_block e d

-- HDR2 of a file that goes on
pub parts_section : (p q : Phase) (hdr1 at : ℕ) (x : Item) (xs : List Item) → kind_in p x ≡ hdr 2 → due_after p (hdr 2) ≡ Some q
    → parts (stands at hdr1 p true) (x ∷ xs) ≡ Some (Section hdr1 (at + 3)) ∷ parts (stands (place_behind at x) hdr1 q true) xs
unfolding led_to begins_file continues_behind first_behind part_in onto is_kind if_b place_behind
parts_section p q hdr1 at x xs e d = parts_item (stands at hdr1 p true) q x xs (hdr 2) e d

-- HDR2 of a new one
pub parts_file : (p : Phase) (hdr1 at : ℕ) (x : Item) (xs : List Item) → kind_in p x ≡ hdr 2
    → parts (stands at hdr1 p false) (x ∷ xs) ≡ Some (File hdr1 (at + 3)) ∷ parts (stands (place_behind at x) hdr1 (Header 2) false) xs
unfolding led_to begins_file continues_behind first_behind part_in onto is_kind if_b place_behind
parts_file p hdr1 at x xs e = parts_item (stands at hdr1 p false) (Header 2) x xs (hdr 2) e refl

quiet_goes : (g : Bool) (k : Kind) → Quiet k → continues_behind g k ≡ g
unfolding continues_behind
quiet_goes g k c = if_false _ _ _ c.reel_end ∙ if_false _ _ _ c.file_end

quiet_first : (first at : ℕ) (k : Kind) → Quiet k → first_behind first at k ≡ first
unfolding first_behind
quiet_first first at k c = if_false _ _ _ c.hdr1

parts_quiet : (g : Bool) (p q : Phase) (hdr1 at : ℕ) (x : Item) (xs : List Item) (k : Kind) → Quiet k → kind_in p x ≡ k
    → due_after p k ≡ Some q
    → parts (stands at hdr1 p g) (x ∷ xs) ≡ parts (stands (place_behind at x) hdr1 q g) xs
unfolding place_behind
parts_quiet g p q hdr1 at x xs k c e d =
    parts_on (stands at hdr1 p g) q x xs k e c.datum c.hdr2 d
    ∙ ap₂ (λ (i : ℕ) (y : Bool). parts (stands (at + 3 + length (bytes_in x)) i q y) xs) (quiet_first hdr1 (at + 3) k c)
    (quiet_goes g k c)

-- ---- what a search has to know

-- from HDR2 up to the first trailer label nothing; then whether the file goes on, and behind HDR1 its place too
abbrev Alike : Stage → Bool → Bool → ℕ → ℕ → Type 0
Alike before g h a b = g ≡ h
Alike named g h a b = (g ≡ h) × (a ≡ b)
Alike within g h a b = Unit {0}
Alike file_over g h a b = g ≡ h
Alike reel_over g h a b = g ≡ h

alike_step : (g h : Bool) (p q : Phase) (a b at : ℕ) (x : Item) (xs : List Item) {k : Kind} {m n : Stage} → Move k m n
    → kind_in p x ≡ k → due_after p k ≡ Some q
    → Alike m g h a b
    → ((g h : Bool) (a b : ℕ) → Alike n g h a b
    → parts (stands (place_behind at x) a q g) xs ≡ parts (stands (place_behind at x) b q h) xs)
    → parts (stands at a p g) (x ∷ xs) ≡ parts (stands at b p h) (x ∷ xs)
unfolding is_kind if_b continues_behind first_behind place_behind
alike_step g h p q a b at x xs {k} (stays c) e d l again =
    parts_quiet g p q a at x xs k c e d ∙ again g h a b l ∙ sym (parts_quiet h p q b at x xs k c e d)
alike_step g h p q a b at x xs {k} (next_reel c) e d l again =
    parts_quiet g p q a at x xs k c e d ∙ again g h a b l ∙ sym (parts_quiet h p q b at x xs k c e d)
alike_step g h p q a b at x xs header1 e d l again =
    parts_on (stands at a p g) q x xs (hdr 1) e refl refl d ∙ again g h (at + 3) (at + 3) (l, refl)
    ∙ sym (parts_on (stands at b p h) q x xs (hdr 1) e refl refl d)
alike_step g h p q a b at x xs next_file e d l again =
    parts_on (stands at a p g) q x xs (hdr 1) e refl refl d ∙ again g h (at + 3) (at + 3) (l, refl)
    ∙ sym (parts_on (stands at b p h) q x xs (hdr 1) e refl refl d)
alike_step g h p q a b at x xs header2 e d (l, f) again = ap₂ (λ (y : Bool) (i : ℕ). parts (stands at i p y) (x ∷ xs)) l f
alike_step g h p q a b at x xs datum e d l again =
    parts_block p q g a at x xs e d ∙ ap (λ (ps : List (Option Part)). Some (Block (at + 3) (length (bytes_in x))) ∷ ps) (again g h a b tt)
    ∙ sym (parts_block p q h b at x xs e d)
alike_step g h p q a b at x xs eof1 e d l again =
    parts_on (stands at a p g) q x xs (eof 1) e refl refl d ∙ again false false a b refl
    ∙ sym (parts_on (stands at b p h) q x xs (eof 1) e refl refl d)
alike_step g h p q a b at x xs eov1 e d l again =
    parts_on (stands at a p g) q x xs (eov 1) e refl refl d ∙ again true true a b refl
    ∙ sym (parts_on (stands at b p h) q x xs (eov 1) e refl refl d)
alike_step g h p q a b at x xs finish e d l again =
    parts_on (stands at a p g) q x xs end_of_image e refl refl d ∙ again g h a b l
    ∙ sym (parts_on (stands at b p h) q x xs end_of_image e refl refl d)

parts_alike : (s : List ℕ) (xs : List Item) (g h : Bool) (p : Phase) (a b at : ℕ) → Numbered p → InOrder s p at xs
    → Alike (stage p) g h a b
    → parts (stands at a p g) xs ≡ parts (stands at b p h) xs
unfolding parts_from
parts_alike s [] g h p a b at num o l = refl
parts_alike s (x ∷ xs) g h p a b at num (q, c, d, o) l =
    let go = due_goes p (kind_in p x) q num d in
    alike_step g h p q a b at x xs go.move refl d l
    (λ g' h' a' b' l'. parts_alike s xs g' h' q a' b' (place_behind at x) go.numbered o l')

-- among the data of a file its next block does not hang on what was read before
pub data_from_lem : (s : List ℕ) (g : Bool) (q : Phase) (hdr1 b : ℕ) (xs : List Item) → q ≡ Data → decode (drop b s) ≡ xs
    → InOrder s q b xs
    → block_in (parts (stands b hdr1 q g) xs) ≡ data_from Data b (decode (drop b s))
unfolding data_from
data_from_lem s g q hdr1 b xs e r o =
    ap (λ (p : Phase). block_in (parts (stands b hdr1 p g) xs)) e
    ∙ ap block_in (parts_alike s xs g false Data hdr1 0 b refl (subst (λ (p : Phase). InOrder s p b xs) e o) tt)
    ∙ ap (λ (ys : List Item). block_in (parts (stands b 0 Data false) ys)) (sym r)

-- ---- the file that follows

-- from place b in the data of a file on, whatever was read before, file x is found
pub record Follows (s : List ℕ) (x : Option FileAt) (b : ℕ) : Type 0 where
  pub ordered : InOrder s Data b (decode (drop b s))
  pub same : (g : Bool) (hdr1 : ℕ) → file_in s (parts (stands b hdr1 Data g) (decode (drop b s))) ≡ x

-- what follows place a follows place b
abbrev pub Leads : List ℕ → ℕ → ℕ → Type 0
Leads s a b = (x : Option FileAt) → Follows s x a → Follows s x b

pub follows_here : (s : List ℕ) (g : Bool) (q : Phase) (hdr1 b : ℕ) (xs : List Item) → q ≡ Data → decode (drop b s) ≡ xs
    → InOrder s q b xs
    → Follows s (file_in s (parts (stands b hdr1 q g) xs)) b
follows_here s g q hdr1 b xs e r o =
    subst (λ (p : Phase). Follows s (file_in s (parts (stands b hdr1 p g) xs)) b) (sym e)
    (record {
      ordered = subst (InOrder s Data b) (sym r) there;
      same =
          λ h m. ap (λ (ys : List Item). file_in s (parts (stands b m Data h) ys)) r
          ∙ ap (file_in s) (parts_alike s xs h g Data m hdr1 b refl there tt);
    })
  where
    there : InOrder s Data b xs
    there = subst (λ (p : Phase). InOrder s p b xs) e o

-- the same next file, and the same next block
pub record Passes (s : List ℕ) (ps qs : List (Option Part)) : Type 0 where
  pub file : file_in s ps ≡ file_in s qs
  pub datum : block_in ps ≡ block_in qs

same_passes : (s : List ℕ) (ps qs : List (Option Part)) → ps ≡ qs → Passes s ps qs
same_passes s ps qs e = record { file = ap (file_in s) e; datum = ap block_in e }

section_passes : (s : List ℕ) (a b : ℕ) (ps qs : List (Option Part)) → ps ≡ Some (Section a b) ∷ qs → Passes s ps qs
unfolding file_in block_in first_in is_wanted if_b
section_passes s a b ps qs e = record { file = ap (file_in s) e; datum = ap block_in e }

-- an item of an open file that is no data block and not its EOF1
pub open_step : (s : List ℕ) (g : Bool) (p q : Phase) (hdr1 at : ℕ) (x : Item) (xs : List Item) {k : Kind} {m n : Stage}
    → Move k m n → kind_in p x ≡ k → due_after p k ≡ Some q
    → is_open m g ≡ true → is_kind k data_block ≡ false → is_kind k (eof 1) ≡ false
    → Passes s (parts (stands at hdr1 p g) (x ∷ xs))
    (parts (stands (place_behind at x) (first_behind hdr1 (at + 3) k) q (continues_behind g k)) xs)
    × (is_open n (continues_behind g k) ≡ true)
unfolding is_kind if_b continues_behind first_behind place_behind
open_step s g p q hdr1 at x xs {k} (stays {a = a} c) e d o f i =
    (same_passes s _ _ (parts_on (stands at hdr1 p g) q x xs k e c.datum c.hdr2 d), ap (is_open a) (quiet_goes g k c) ∙ o)
open_step s g p q hdr1 at x xs {k} (next_reel c) e d o f i =
    (same_passes s _ _ (parts_on (stands at hdr1 p g) q x xs k e c.datum c.hdr2 d), quiet_goes g k c ∙ o)
open_step s g p q hdr1 at x xs header1 e d o f i =
    (same_passes s _ _ (parts_on (stands at hdr1 p g) q x xs (hdr 1) e refl refl d), o)
open_step s g p q hdr1 at x xs next_file e d o f i =
    (same_passes s _ _ (parts_on (stands at hdr1 p g) q x xs (hdr 1) e refl refl d), o)
open_step s g p q hdr1 at x xs header2 e d o f i = (
  section_passes s hdr1 (at + 3) _ _
      (ap (λ (y : Bool). parts (stands at hdr1 p y) (x ∷ xs)) o ∙ parts_section p q hdr1 at x xs e d
      ∙ ap (λ (y : Bool). Some (Section hdr1 (at + 3)) ∷ parts (stands (place_behind at x) hdr1 q y) xs) (sym o)),
  refl,
)
open_step s g p q hdr1 at x xs datum e d o f i = absurd (false≢true (sym f))
open_step s g p q hdr1 at x xs eof1 e d o f i = absurd (false≢true (sym i))
open_step s g p q hdr1 at x xs eov1 e d o f i =
    (same_passes s _ _ (parts_on (stands at hdr1 p g) q x xs (eov 1) e refl refl d), refl)
open_step s g p q hdr1 at x xs finish e d o f i =
    (same_passes s _ _ (parts_on (stands at hdr1 p g) q x xs end_of_image e refl refl d), o)

-- where no file is open, a file begins before any data
shut_step : (g : Bool) (p q : Phase) (hdr1 at : ℕ) (x : Item) (xs : List Item) {k : Kind} {m n : Stage} → Move k m n
    → kind_in p x ≡ k → due_after p k ≡ Some q
    → is_open m g ≡ false
    → ((i : ℕ) → is_open n (continues_behind g k) ≡ false
    → block_in (parts (stands (place_behind at x) i q (continues_behind g k)) xs) ≡ None)
    → block_in (parts (stands at hdr1 p g) (x ∷ xs)) ≡ None
unfolding is_kind if_b continues_behind first_behind place_behind block_in as_block first_in is_wanted
shut_step g p q hdr1 at x xs {k} (stays {a = a} c) e d o again =
    ap block_in (parts_on (stands at hdr1 p g) q x xs k e c.datum c.hdr2 d)
    ∙ again (first_behind hdr1 (at + 3) k) (ap (is_open a) (quiet_goes g k c) ∙ o)
shut_step g p q hdr1 at x xs {k} (next_reel c) e d o again =
    ap block_in (parts_on (stands at hdr1 p g) q x xs k e c.datum c.hdr2 d)
    ∙ again (first_behind hdr1 (at + 3) k) (quiet_goes g k c ∙ o)
shut_step g p q hdr1 at x xs header1 e d o again =
    ap block_in (parts_on (stands at hdr1 p g) q x xs (hdr 1) e refl refl d) ∙ again (at + 3) o
shut_step g p q hdr1 at x xs next_file e d o again =
    ap block_in (parts_on (stands at hdr1 p g) q x xs (hdr 1) e refl refl d) ∙ again (at + 3) o
shut_step g p q hdr1 at x xs header2 e d o again =
    ap block_in (ap (λ (y : Bool). parts (stands at hdr1 p y) (x ∷ xs)) o ∙ parts_file p hdr1 at x xs e)
shut_step g p q hdr1 at x xs datum e d o again = absurd (false≢true (sym o))
shut_step g p q hdr1 at x xs eof1 e d o again = absurd (false≢true (sym o))
shut_step g p q hdr1 at x xs eov1 e d o again = absurd (false≢true (sym o))
shut_step g p q hdr1 at x xs finish e d o again =
    ap block_in (parts_on (stands at hdr1 p g) q x xs end_of_image e refl refl d) ∙ again hdr1 o

shut_none : (s : List ℕ) (xs : List Item) (g : Bool) (p : Phase) (hdr1 at : ℕ) → Numbered p → InOrder s p at xs
    → is_open (stage p) g ≡ false
    → block_in (parts (stands at hdr1 p g) xs) ≡ None
unfolding parts_from block_in as_block first_in
shut_none s [] g p hdr1 at num i o = refl
shut_none s (x ∷ xs) g p hdr1 at num (q, c, d, i) o =
    let go = due_goes p (kind_in p x) q num d in
    shut_step g p q hdr1 at x xs go.move refl d o
    (λ first off. shut_none s xs (continues_behind g (kind_in p x)) q first (place_behind at x) go.numbered i off)

-- behind a data block, and so behind the next one, the same file follows
datum_follows : (s : List ℕ) (g : Bool) (p q : Phase) (hdr1 at start n : ℕ) (x : Item) (xs : List Item) → kind_in p x ≡ data_block
    → due_after p data_block ≡ Some q
    → ItemStands s at x xs → InOrder s q (place_behind at x) xs → block_in (parts (stands at hdr1 p g) (x ∷ xs)) ≡ extent start n
    → Follows s (file_in s (parts (stands at hdr1 p g) (x ∷ xs))) (start + n)
unfolding block_in as_block file_in first_in is_wanted if_b place_behind
datum_follows s g p q hdr1 at start n x xs k d c i e =
    let all = parts_block p q g hdr1 at x xs k d in
    let here : extent (at + 3) (length (bytes_in x)) ≡ extent start n = sym (ap block_in all) ∙ e in
    let two = same_Some (record { start = at + 3; len = length (bytes_in x) }) (record { start = start; len = n }) here in
    let a : at + 3 ≡ start = ap (λ (y : Extent). y.start) two in
    let b : length (bytes_in x) ≡ n = ap (λ (y : Extent). y.len) two in
    subst (Follows s (file_in s (parts (stands at hdr1 p g) (x ∷ xs)))) (ap₂ ◌+◌ a b)
    (subst (λ (y : Option FileAt). Follows s y (place_behind at x)) (sym (ap (file_in s) all))
    (follows_here s g q hdr1 (place_behind at x) xs (block_data p q d) c.rest i))

onward : {s : List ℕ} {ps qs : List (Option Part)} {start l : ℕ} {on : Bool} → Passes s ps qs × (on ≡ true)
    → (on ≡ true → block_in qs ≡ extent start l → Follows s (file_in s qs) (start + l)) → block_in ps ≡ extent start l
    → Follows s (file_in s ps) (start + l)
onward {s = s} {start = start} {l = l} (c, o) again h =
    subst (λ (y : Option FileAt). Follows s y (start + l)) (sym c.file) (again o (sym c.datum ∙ h))

block_step : (s : List ℕ) (g : Bool) (p q : Phase) (hdr1 at start l : ℕ) (x : Item) (xs : List Item) {k : Kind} {m n : Stage}
    → Move k m n → kind_in p x ≡ k → due_after p k ≡ Some q
    → is_open m g ≡ true
    → (is_open n (continues_behind g k) ≡ false
    → block_in (parts (stands (place_behind at x) (first_behind hdr1 (at + 3) k) q (continues_behind g k)) xs) ≡ None)
    → (kind_in p x ≡ data_block → due_after p data_block ≡ Some q
    → Follows s (file_in s (parts (stands at hdr1 p g) (x ∷ xs))) (start + l))
    → (is_open n (continues_behind g k) ≡ true
    → block_in (parts (stands (place_behind at x) (first_behind hdr1 (at + 3) k) q (continues_behind g k)) xs) ≡ extent start l
    → Follows s (file_in s (parts (stands (place_behind at x) (first_behind hdr1 (at + 3) k) q (continues_behind g k)) xs)) (start + l))
    → block_in (parts (stands at hdr1 p g) (x ∷ xs)) ≡ extent start l
    → Follows s (file_in s (parts (stands at hdr1 p g) (x ∷ xs))) (start + l)
unfolding is_kind if_b continues_behind first_behind place_behind
block_step s g p q hdr1 at start l x xs (stays {a = a} c) e d o none there again h =
    onward (open_step s g p q hdr1 at x xs {m = a} (stays c) e d o c.datum c.file_end) again h
block_step s g p q hdr1 at start l x xs (next_reel c) e d o none there again h =
    onward (open_step s g p q hdr1 at x xs (next_reel c) e d o c.datum c.file_end) again h
block_step s g p q hdr1 at start l x xs header1 e d o none there again h =
    onward (open_step s g p q hdr1 at x xs header1 e d o refl refl) again h
block_step s g p q hdr1 at start l x xs next_file e d o none there again h =
    onward (open_step s g p q hdr1 at x xs next_file e d o refl refl) again h
block_step s g p q hdr1 at start l x xs header2 e d o none there again h =
    onward (open_step s g p q hdr1 at x xs header2 e d o refl refl) again h
block_step s g p q hdr1 at start l x xs datum e d o none there again h = there e d
block_step s g p q hdr1 at start l x xs eof1 e d o none there again h =
    let never : None ≡ extent start l = sym (ap block_in (parts_on (stands at hdr1 p g) q x xs (eof 1) e refl refl d) ∙ none refl) ∙ h in
    let z : ◌≡◌ {A = ℕ} 0 1 = cc in
    absurd (omega arith)
block_step s g p q hdr1 at start l x xs eov1 e d o none there again h =
    onward (open_step s g p q hdr1 at x xs eov1 e d o refl refl) again h
block_step s g p q hdr1 at start l x xs finish e d o none there again h =
    onward (open_step s g p q hdr1 at x xs finish e d o refl refl) again h

block_follows : (s : List ℕ) (xs : List Item) (g : Bool) (p : Phase) (hdr1 at start n : ℕ) → Numbered p
    → is_open (stage p) g ≡ true → InOrder s p at xs
    → block_in (parts (stands at hdr1 p g) xs) ≡ extent start n → Follows s (file_in s (parts (stands at hdr1 p g) xs)) (start + n)
unfolding parts_from block_in as_block first_in
block_follows s [] g p hdr1 at start n num o i e = let z : ◌≡◌ {A = ℕ} 0 1 = cc in absurd (omega arith)
block_follows s (x ∷ xs) g p hdr1 at start n num o (q, c, d, i) e =
    let go = due_goes p (kind_in p x) q num d in
    let hdr1' = first_behind hdr1 (at + 3) (kind_in p x) in
    let g' = continues_behind g (kind_in p x) in
    block_step s g p q hdr1 at start n x xs go.move refl d o
    (λ off. shut_none s xs g' q hdr1' (place_behind at x) go.numbered i off)
    (λ k f. datum_follows s g p q hdr1 at start n x xs k f c i e)
    (λ open' there. block_follows s xs g' q hdr1' (place_behind at x) start n go.numbered open' i there) e

pub data_leads : (s : List ℕ) (at start n : ℕ) → data_from Data at (decode (drop at s)) ≡ extent start n → Leads s at (start + n)
unfolding data_from
data_leads s at start n e x f =
    subst (λ (y : Option FileAt). Follows s y (start + n)) (f.same false 0)
    (block_follows s (decode (drop at s)) false Data 0 at start n refl refl f.ordered e)

-- The parts of an accepted image are what its reading hands out, in order: a file that begins, by its labels, and the segments of
-- each data block, by the lengths of its section's HDR2. Assumes nothing.
use Rattle.content.specs.declared.part.Part.{Part}
use Rattle.content.specs.declared.FileAt.{FileAt}
use Rattle.std.specs.Prelude.{Some, Option}
use mathlib.Core.Path.{◌≡◌, refl, sym, ap, ap₂, ◌∙◌, subst}
use mathlib.Core.Bool.{Bool, true, false, false≢true}
use mathlib.Core.List.{List, [], ◌∷◌, ◌++◌}
use Prim.Native.Nat.{ℕ, ◌+◌, ◌≤◌}
use native.Mathlib.Omega.{arith}
use borrow.Author.Tests.{eqb-true}
use lib.Dec.{eqb}
use lib.ListN.{length, take, drop}
use lib.Seq.{drop-length}
use Rattle.base.specs.If.{if_b}
use Rattle.base.proofs.Ifs.{if_false, and_first}
use Rattle.base.specs.Part.{part}
use Rattle.base.specs.Answer.{fault}
use Rattle.image.specs.Item.{Item, block, mark, reel_end, broken, decode}
use Rattle.image.specs.Code.Items.{is_item, all_items}
use Rattle.image.specs.Framing.{items}
use Rattle.image.proofs.Frames.{framing_items}
use Rattle.image.proofs.Coding.{all_first, all_rest}
use Rattle.order.specs.Kind.{hdr, eof, eov, data_block, tape_mark, end_of_reel, end_of_image, is_kind}
use Rattle.order.specs.Due.{due_after}
use Rattle.order.specs.Group.{among_headers}
use Rattle.order.specs.declared.Kind.{Kind}
use Rattle.order.specs.declared.Phase.{Phase}
use Rattle.order.specs.declared.Phase.TheVariants.{Reel, Header, Data}
use Rattle.label.specs.Field.{format_of, block_length_of, record_length_of, offset_of}
use Rattle.label.specs.Judged.{label_fault}
use Rattle.block.specs.Cut.{Segment, units}
use Rattle.volume.specs.State.{State, start}
use Rattle.volume.specs.Fault.{value_of, hdr2_fault, outcome_in, block_fault, context_fault, item_fault}
use Rattle.volume.specs.Step.{Event, begins, resumes, holds, kind_in, bytes_in, segments_of, segments_in, continues_after, hdr1_after, hdr2_after, pending_after, state_after, events_of}
use Rattle.volume.specs.Run.{runs, image_verdict}
use Rattle.volume.specs.Meaning.{handed_out}
use Rattle.volume.specs.Accepted.{All, MayEnd, state_behind}
use Rattle.volume.proofs.Accepted.{accepted_iff}
use Rattle.order.proofs.Moves.{Stage, before, file_over, Move, stays, next_reel, header1, next_file as new_file, header2, datum, eof1, eov1, finish}
use Rattle.order.proofs.Phases.{stage, group_of, Numbered, due_goes}
use Rattle.reading.proofs.Stages.{View, view, Holds, is_open, second_same}
use Rattle.reading.proofs.Steps.{view_quiet, label_none, context_none}
use Rattle.reading.proofs.Legality.{header_long, Kept, kept_start, kept_step, image_end_lem}
use Rattle.content.specs.Part.{place_behind, continues_behind, first_behind, after, parts_from, parts, first_in}
use Rattle.content.specs.Section.{as_block, block_in, data_from}
use Rattle.content.specs.File.{mark_from, walk_from, as_file, file_in, file_from, next_file}
use Rattle.content.specs.declared.part.Part.TheVariants.{File, Section, Block}
use Rattle.content.proofs.Parts.{stands}
use Rattle.content.proofs.Searches.{ItemStands, item_at_lem, InOrder, parts_on, parts_block, parts_section, parts_file, data_from_lem, Follows, follows_here, Passes, open_step}
use Rattle.volume.proofs.Events.{handed_more, handed_none}
use Rattle.order.proofs.Groups.{second_behind, block_data, mark_data, label_labels}
use Rattle.content.proofs.Phases.{block_no_mark, record_some}

-- ---- what is read of a part

-- the next data block and the next file of these parts are found from place m in the data of their file on
pub record Marked (s : List ℕ) (ps : List (Option Part)) (m : ℕ) : Type 0 where
  pub datum : block_in ps ≡ data_from Data m (decode (drop m s))
  pub fits : m ≤ length s
  pub follows : Follows s (file_in s ps) m

-- a file with its first HDR1 and HDR2 at places a and b, and the parts behind it
pub record FileRead (s : List ℕ) (a b : ℕ) (first second : List ℕ) (ps : List (Option Part)) : Type 0 where
  pub hdr1 : part a 80 s ≡ first
  pub hdr2 : part b 80 s ≡ second
  pub first_long : length first ≡ 80
  pub second_long : length second ≡ 80
  pub some : value_of (record_length_of second) ≡ 0 → ⊥
  pub body : Marked s ps (mark_from (b + 80) (decode (drop (b + 80) s)))
  pub next : file_in s ps ≡ next_file s a b

-- a data block without fault in a section with this HDR2, with q open, and the parts behind it
pub record BlockRead (s second : List ℕ) (q start n : ℕ) (ps : List (Option Part)) : Type 0 where
  pub some : value_of (record_length_of second) ≡ 0 → ⊥
  pub within : start + n ≤ length s
  pub sound : (outcome_in second q (part start n s)).number ≡ 0
  pub next : block_in ps ≡ data_from Data (start + n) (decode (drop (start + n) s))

-- the segments of a data block in a section with this HDR2
abbrev pub segments_by : List ℕ → List ℕ → List Segment
segments_by second l =
    segments_of (units (format_of second) (value_of (block_length_of second)) (value_of (record_length_of second))
    (value_of (offset_of second)) l)

-- parts, and what their reading hands out, in a section with this HDR2 and with q open: where they end, and where a file begins,
-- no record is
pub data Read : List ℕ → List ℕ → ℕ → List (Option Part) → List Event → Type 0 where
  read_over : {s second : List ℕ} → Read s second 0 [] []
  read_file : {s second : List ℕ} {a b : ℕ} (l m : List ℕ) {ps : List (Option Part)} {es : List Event} → FileRead s a b l m ps
      → Read s m 0 ps es
      → Read s second 0 (Some (File a b) ∷ ps) (begins l m ∷ es)
  read_section : {s second : List ℕ} {q a b : ℕ} (l m : List ℕ) {ps : List (Option Part)} {es : List Event} → part a 80 s ≡ l
      → part b 80 s ≡ m
      → walk_from m 0 ≡ walk_from second 0 → Read s m q ps es → Read s second q (Some (Section a b) ∷ ps) (resumes l m ∷ es)
  read_block : {s second : List ℕ} {q start n : ℕ} {ps : List (Option Part)} {es : List Event} → BlockRead s second q start n ps
      → Read s second (outcome_in second q (part start n s)).pending ps es
      → Read s second q (Some (Block start n) ∷ ps) (holds (part start n s) (segments_by second (part start n s)) ∷ es)

-- ---- a whole image in order

-- every item of an accepted image is due where it stands
in_order : (s : List ℕ) (xs : List Item) (t : State) (at : ℕ) → All MayEnd t xs → decode (drop at s) ≡ xs → all_items xs ≡ true
    → InOrder s t.phase at xs
unfolding state_after
in_order s [] t at all e good = tt
in_order s (x ∷ xs) t at (q, f, all) e good =
    let c = item_at_lem s at x xs e (all_first x xs good) in
    (q, c, f.due, in_order s xs (state_behind t x q) (place_behind at x) all c.rest (all_rest x xs good))

-- ---- the labels of a file by their places

kind_family : (k : Kind) → is_kind k (hdr 1) ≡ true → k.family ≡ 3
unfolding is_kind
kind_family k h = eqb-true k.family 3 (and_first (eqb k.family 3) (eqb k.number 1) h)

-- an item of 80 bytes is the label at its place
label_here : (s : List ℕ) (at : ℕ) (x : Item) (xs : List Item) → ItemStands s at x xs → length (bytes_in x) ≡ 80
    → part (at + 3) 80 s ≡ bytes_in x
label_here s at x xs c h = ap (λ (n : ℕ). part (at + 3) n s) (sym h) ∙ sym c.bytes

-- behind an item, the last HDR1 is again at the place that is kept
first_step : (s : List ℕ) (t : State) (p : Phase) (first at : ℕ) (x : Item) (xs : List Item) → ItemStands s at x xs
    → part first 80 s ≡ t.hdr1
    → part (first_behind first (at + 3) (kind_in p x)) 80 s ≡ hdr1_after t (kind_in p x) (bytes_in x)
unfolding first_behind hdr1_after if_b
first_step s t p first at x xs c here = by_kind (is_kind (kind_in p x) (hdr 1)) refl
  where
    by_kind : (b : Bool) → is_kind (kind_in p x) (hdr 1) ≡ b → part (if_b b (at + 3) first) 80 s ≡ if_b b (bytes_in x) t.hdr1
    by_kind true e = label_here s at x xs c (header_long p x (kind_family (kind_in p x) e))
    by_kind false e = here

-- ---- the labels before the data, up to their mark

marked_by : (s : List ℕ) (ps qs : List (Option Part)) (m : ℕ) → Passes s ps qs → Marked s qs m → Marked s ps m
marked_by s ps qs m c h =
    record {
      datum = c.datum
          ∙ h.datum;
      fits = h.fits;
      follows = subst (λ (y : Option FileAt). Follows s y m) (sym c.file) h.follows;
    }

nothing_left : (s : List ℕ) (g : Bool) (p : Phase) (hdr1 at : ℕ) → decode (drop at s) ≡ [] → at ≤ length s
    → Marked s (parts (stands at hdr1 p g) []) at
unfolding data_from block_in as_block file_in as_file first_in parts_from
nothing_left s g p hdr1 at e fits =
    record {
      datum = sym (ap (data_from Data at) e);
      fits = fits;
      follows =
          record {
            ordered = subst (InOrder s Data at) (sym e) tt;
            same = λ h n. ap
                (λ (xs : List Item). file_in s (parts (stands at n Data h) xs)) e;
          };
    }

mark_body : (s : List ℕ) (g : Bool) (p q : Phase) (hdr1 at : ℕ) (xs : List Item) → Numbered p → group_of p ≡ among_headers
    → is_open (stage p) g ≡ true
    → due_after p (kind_in p mark) ≡ Some q → ItemStands s at mark xs → InOrder s q (place_behind at mark) xs
    → Marked s (parts (stands at hdr1 p g) (mark ∷ xs)) (at + 3)
unfolding kind_in bytes_in place_behind is_kind
mark_body s g p q hdr1 at xs num h open' d c o =
    let z : at + 3 + 0 ≡ at + 3 = omega arith in
    let step = open_step s g p q hdr1 at mark xs (due_goes p tape_mark q num d).move refl d open' refl refl in
    let hdr1' = first_behind hdr1 (at + 3) tape_mark in
    let g' = continues_behind g tape_mark in
    subst (Marked s (parts (stands at hdr1 p g) (mark ∷ xs))) z
    (marked_by s _ _ _ step.0
    (record {
      datum = data_from_lem s g' q hdr1' (at + 3 + 0) xs (mark_data p q h d) c.rest o;
      fits = c.within;
      follows = follows_here s g' q hdr1' (at + 3 + 0) xs (mark_data p q h d) c.rest o;
    }))

no_reel_end : (p q : Phase) → group_of p ≡ among_headers → due_after p (kind_in p reel_end) ≡ Some q → ⊥
unfolding kind_in is_kind
no_reel_end p q h d = false≢true (sym (label_labels p end_of_reel q h refl d).reel_end)

no_broken : is_item broken ≡ true → ⊥
unfolding is_item
no_broken h = false≢true h

body_of : (s : List ℕ) (xs : List Item) (g : Bool) (p : Phase) (hdr1 at : ℕ) → InOrder s p at xs → decode (drop at s) ≡ xs
    → at ≤ length s → group_of p ≡ among_headers → Numbered p
    → is_open (stage p) g ≡ true → Marked s (parts (stands at hdr1 p g) xs) (mark_from at xs)
unfolding mark_from
body_of s [] g p hdr1 at o e fits h num open' = nothing_left s g p hdr1 at e fits
body_of s (mark ∷ xs) g p hdr1 at (q, c, d, o) e fits h num open' = mark_body s g p q hdr1 at xs num h open' d c o
body_of s (reel_end ∷ xs) g p hdr1 at (q, c, d, o) e fits h num open' = absurd (no_reel_end p q h d)
body_of s (broken ∷ xs) g p hdr1 at (q, c, d, o) e fits h num open' = absurd (no_broken c.good)
body_of s (block l ∷ xs) g p hdr1 at (q, c, d, o) e fits h num open' =
    let k = label_labels p (kind_in p (block l)) q h (block_no_mark p l) d in
    let go = due_goes p (kind_in p (block l)) q num d in
    let step = open_step s g p q hdr1 at (block l) xs go.move refl d open' k.datum k.file_end in
    marked_by s _ _ _ step.0
    (body_of s xs (continues_behind g (kind_in p (block l))) q (first_behind hdr1 (at + 3) (kind_in p (block l)))
    (place_behind at (block l)) o c.rest c.within k.group
    go.numbered step.1)

-- ---- one item without fault

-- HDR2 of a later section has the lengths of the section before
same_lengths_lem : (second l : List ℕ) → (hdr2_fault true second l).number ≡ 0 → walk_from l 0 ≡ walk_from second 0
same_lengths_lem second l h =
    let c = second_same second l h in
    λ i. record { format = sym c.0 i; record_length = value_of (sym c.1 i); offset = value_of (sym c.2 i); at = 0; left = 0 }

-- an open file has a record length of 1 or more
abbrev Sized : Stage → Bool → List ℕ → Type 0
Sized a g second = is_open a g ≡ true → value_of (record_length_of second) ≡ 0 → ⊥

sized_step : (t : State) (r : Phase) (l : List ℕ) {k : Kind} {a b : Stage} → Move k a b → Sized a t.continues t.hdr2
    → (item_fault t k l).number ≡ 0
    → Sized b (state_after t r k l).continues (state_after t r k l).hdr2
unfolding state_after continues_after hdr2_after is_kind if_b
sized_step t r l {k} (stays {a = a} c) h f = subst (λ (v : View). Sized a v.continues v.hdr2) (sym (view_quiet t r k l c)) h
sized_step t r l {k} (next_reel c) h f = subst (λ (v : View). Sized before v.continues v.hdr2) (sym (view_quiet t r k l c)) h
sized_step t r l header1 h f = h
sized_step t r l new_file h f = h
sized_step t r l header2 h f = λ _. record_some l (label_none t (hdr 2) l f)
sized_step t r l datum h f = h
sized_step t r l eof1 h f = λ on. absurd (false≢true on)
sized_step t r l eov1 h f = λ _. h refl
sized_step t r l finish h f = h

-- one that is no part
read_on : (s : List ℕ) (t : State) (r : Phase) (at hdr1 : ℕ) (x : Item) (xs : List Item) (k : Kind) (es : List Event)
    → kind_in t.phase x ≡ k → due_after t.phase k ≡ Some r
    → is_kind k data_block ≡ false → is_kind k (hdr 2) ≡ false
    → Read s (state_after t r k (bytes_in x)).hdr2 (state_after t r k (bytes_in x)).pending
    (parts (after (stands at hdr1 t.phase t.continues) k (length (bytes_in x)) r) xs) es
    → Read s t.hdr2 t.pending (parts (stands at hdr1 t.phase t.continues) (x ∷ xs)) (events_of t k (bytes_in x) ++ es)
unfolding state_after hdr2_after pending_after events_of
read_on s t r at hdr1 x xs k es e d a b h =
    let c = stands at hdr1 t.phase t.continues in
    let ps = parts (after c k (length (bytes_in x)) r) xs in
    subst (λ (fs : List Event). Read s t.hdr2 t.pending (parts c (x ∷ xs)) (fs ++ es))
    (sym (if_false _ _ _ a ∙ if_false _ _ _ b))
    (subst (λ (qs : List (Option Part)). Read s t.hdr2 t.pending qs es) (sym (parts_on c r x xs k e a b d))
    (subst (λ (m : List ℕ). Read s m t.pending ps es) (if_false (is_kind k (hdr 2)) (bytes_in x) t.hdr2 b)
    (subst (λ (q : ℕ). Read s (if_b (is_kind k (hdr 2)) (bytes_in x) t.hdr2) q ps es)
    (if_false (is_kind k data_block) (outcome_in t.hdr2 t.pending (bytes_in x)).pending t.pending a) h)))

-- a data block
read_block_lem : (s : List ℕ) (g : Bool) (p r : Phase) (at hdr1 : ℕ) (second : List ℕ) (q : ℕ) (x : Item) (xs : List Item)
    (es : List Event) → ItemStands s at x xs
    → InOrder s r (place_behind at x) xs → kind_in p x ≡ data_block → due_after p data_block ≡ Some r
    → (value_of (record_length_of second) ≡ 0 → ⊥)
    → (outcome_in second q (bytes_in x)).number ≡ 0
    → Read s second (outcome_in second q (bytes_in x)).pending (parts (stands (place_behind at x) hdr1 r g) xs) es
    → Read s second q (parts (stands at hdr1 p g) (x ∷ xs)) (holds (bytes_in x) (segments_by second (bytes_in x)) ∷ es)
unfolding place_behind
read_block_lem s g p r at hdr1 second q x xs es c o e d some' f h =
    let n = length (bytes_in x) in
    let ps = parts (stands (at + 3 + n) hdr1 r g) xs in
    subst (λ (qs : List (Option Part)). Read s second q qs (holds (bytes_in x) (segments_by second (bytes_in x)) ∷ es))
    (sym (parts_block p r g hdr1 at x xs e d))
    (subst (λ (l : List ℕ). Read s second q (Some (Block (at + 3) n) ∷ ps) (holds l (segments_by second l) ∷ es)) (sym c.bytes)
    (read_block
    (record {
      some = some';
      within = c.within;
      sound = ap (λ (l : List ℕ). (outcome_in second q l).number) (sym c.bytes) ∙ f;
      next = data_from_lem s g r hdr1 (at + 3 + n) xs (block_data p r d) c.rest o;
    })
    (subst (λ (l : List ℕ). Read s second (outcome_in second q l).pending ps es) c.bytes h)))

-- HDR2: of a file that goes on, or of a new one with its HDR1 at `hdr1`
read_second : (s : List ℕ) (g : Bool) (p r : Phase) (at hdr1 : ℕ) (first second : List ℕ) (q : ℕ) (x : Item) (xs : List Item)
    (es : List Event) → ItemStands s at x xs
    → InOrder s r (place_behind at x) xs → kind_in p x ≡ hdr 2 → due_after p (hdr 2) ≡ Some r → (g ≡ false → q ≡ 0)
    → (label_fault (hdr 2) (bytes_in x)).number ≡ 0
    → (hdr2_fault g second (bytes_in x)).number ≡ 0 → part hdr1 80 s ≡ first → length first ≡ 80
    → Read s (bytes_in x) q (parts (stands (place_behind at x) hdr1 r g) xs) es
    → Read s second q (parts (stands at hdr1 p g) (x ∷ xs))
    ((if_b g (resumes first (bytes_in x)) (begins first (bytes_in x)) ∷ []) ++ es)
unfolding if_b
read_second s true p r at hdr1 first second q x xs es c o e d idle f m here long h =
    subst (λ (qs : List (Option Part)). Read s second q qs (resumes first (bytes_in x) ∷ es)) (sym (parts_section p r hdr1 at x xs e d))
    (read_section first (bytes_in x) here (label_here s at x xs c (header_long p x (ap (λ (k : Kind). k.family) e)))
    (same_lengths_lem second (bytes_in x) m) h)
read_second s false p r at hdr1 first second q x xs es c o e d idle f m here long h =
    subst (λ (j : ℕ). Read s second j (parts (stands at hdr1 p false) (x ∷ xs)) (begins first (bytes_in x) ∷ es)) (sym (idle refl))
    (subst (λ (qs : List (Option Part)). Read s second 0 qs (begins first (bytes_in x) ∷ es)) (sym (parts_file p hdr1 at x xs e))
    (read_file first (bytes_in x) read rest))
  where
    r2 : r ≡ Header 2
    r2 = second_behind p r d

    eighty : length (bytes_in x) ≡ 80
    eighty = header_long p x (ap (λ (k : Kind). k.family) e)

    ps : List (Option Part)
    ps = parts (stands (place_behind at x) hdr1 (Header 2) false) xs

    rest : Read s (bytes_in x) 0 ps es
    rest =
        subst (λ (y : Phase). Read s (bytes_in x) 0 (parts (stands (place_behind at x) hdr1 y false) xs) es) r2
        (subst (λ (j : ℕ). Read s (bytes_in x) j (parts (stands (place_behind at x) hdr1 r false) xs) es) (idle refl) h)

    -- the place behind it
    behind_at : place_behind at x ≡ at + 3 + 80
    behind_at = unfold place_behind in ap (λ (n : ℕ). at + 3 + n) eighty

    items_at : xs ≡ decode (drop (at + 3 + 80) s)
    items_at = sym c.rest ∙ ap (λ (i : ℕ). decode (drop i s)) behind_at

    marked : Marked s ps (mark_from (at + 3 + 80) (decode (drop (at + 3 + 80) s)))
    marked =
        subst (Marked s ps) (ap₂ mark_from behind_at items_at)
        (body_of s xs false (Header 2) hdr1 (place_behind at x) (subst (λ (y : Phase). InOrder s y (place_behind at x) xs) r2 o)
        c.rest c.within refl refl refl)

    read : FileRead s hdr1 (at + 3) first (bytes_in x) ps
    read = record {
      hdr1 = here;
      hdr2 = label_here s at x xs c eighty;
      first_long = long;
      second_long = eighty;
      some = record_some (bytes_in x) f;
      body = marked;
      next = unfold next_file file_from in ap₂ (λ (i : ℕ) (ys : List Item). file_in s (parts (stands i hdr1 (Header 2) false) ys)) behind_at items_at;
    }

read_step : (s : List ℕ) (t : State) (r : Phase) (at hdr1 : ℕ) (x : Item) (xs : List Item)
    (es : List Event) {k : Kind} {a b : Stage} → Move k a b
    → kind_in t.phase x ≡ k → due_after t.phase k ≡ Some r → ItemStands s at x xs → InOrder s r (place_behind at x) xs
    → Holds a (view t) → Sized a t.continues t.hdr2
    → part hdr1 80 s ≡ t.hdr1 → (item_fault t k (bytes_in x)).number ≡ 0
    → Read s (state_after t r k (bytes_in x)).hdr2 (state_after t r k (bytes_in x)).pending
    (parts (after (stands at hdr1 t.phase t.continues) k (length (bytes_in x)) r) xs) es
    → Read s t.hdr2 t.pending (parts (stands at hdr1 t.phase t.continues) (x ∷ xs)) (events_of t k (bytes_in x) ++ es)
unfolding state_after hdr2_after pending_after events_of segments_in context_fault block_fault fault is_kind if_b continues_behind first_behind place_behind
read_step s t r at hdr1 x xs es {k} (stays c) e d i o h z here f again =
    read_on s t r at hdr1 x xs k es e d c.datum c.hdr2 again
read_step s t r at hdr1 x xs es {k} (next_reel c) e d i o h z here f again =
    read_on s t r at hdr1 x xs k es e d c.datum c.hdr2 again
read_step s t r at hdr1 x xs es header1 e d i o h z here f again = read_on s t r at hdr1 x xs (hdr 1) es e d refl refl again
read_step s t r at hdr1 x xs es new_file e d i o h z here f again = read_on s t r at hdr1 x xs (hdr 1) es e d refl refl again
read_step s t r at hdr1 x xs es header2 e d i o h z here f again =
    read_second s t.continues t.phase r at hdr1 t.hdr1 t.hdr2 t.pending x xs es i o e d h.outside.idle
    (label_none t (hdr 2) (bytes_in x) f)
    (context_none t (hdr 2) (bytes_in x) f) here h.long again
read_step s t r at hdr1 x xs es datum e d i o h z here f again =
    read_block_lem s t.continues t.phase r at hdr1 t.hdr2 t.pending x xs es i o e d (z refl)
    (context_none t data_block (bytes_in x) f) again
read_step s t r at hdr1 x xs es eof1 e d i o h z here f again = read_on s t r at hdr1 x xs (eof 1) es e d refl refl again
read_step s t r at hdr1 x xs es eov1 e d i o h z here f again = read_on s t r at hdr1 x xs (eov 1) es e d refl refl again
read_step s t r at hdr1 x xs es finish e d i o h z here f again = read_on s t r at hdr1 x xs end_of_image es e d refl refl again

-- ---- a whole reading

-- where the image may end no record is open
read_none : (s : List ℕ) (t : State) (at hdr1 : ℕ) → Kept t → MayEnd t
    → Read s t.hdr2 t.pending (parts (stands at hdr1 t.phase t.continues) []) []
unfolding parts_from
read_none s t at hdr1 kept h =
    let done : stage t.phase ≡ file_over = image_end_lem t.phase kept.numbered h in
    let idle : t.pending ≡ 0 = (subst (λ (a : Stage). Holds a (view t)) done kept.holds).idle in
    subst (λ (q : ℕ). Read s t.hdr2 q [] []) (sym idle) read_over

read : (s : List ℕ) (xs : List Item) (t : State) (at hdr1 : ℕ) → All MayEnd t xs → decode (drop at s) ≡ xs → all_items xs ≡ true
    → Kept t
    → Sized (stage t.phase) t.continues t.hdr2 → part hdr1 80 s ≡ t.hdr1
    → Read s t.hdr2 t.pending (parts (stands at hdr1 t.phase t.continues) xs) (handed_out (runs t xs))
unfolding state_after continues_after continues_behind place_behind
read s [] t at hdr1 all e good kept sized here =
    subst (Read s t.hdr2 t.pending (parts (stands at hdr1 t.phase t.continues) [])) (sym (handed_none t all))
    (read_none s t at hdr1 kept all)
read s (x ∷ xs) t at hdr1 (q, f, all) e good kept sized here =
    let c = item_at_lem s at x xs e (all_first x xs good) in
    let go = due_goes t.phase (kind_in t.phase x) q kept.numbered f.due in
    subst (Read s t.hdr2 t.pending (parts (stands at hdr1 t.phase t.continues) (x ∷ xs)))
    (sym (handed_more t x xs q f all))
    (read_step s t q at hdr1 x xs (handed_out (runs (state_behind t x q) xs)) go.move refl f.due c
    (in_order s xs (state_behind t x q) (place_behind at x) all c.rest (all_rest x xs good)) kept.holds sized here f.sound
    (read s xs (state_behind t x q) (place_behind at x) (first_behind hdr1 (at + 3) (kind_in t.phase x)) all c.rest
    (all_rest x xs good) (kept_step t x q kept f)
    (sized_step t q (bytes_in x) go.move sized f.sound) (first_step s t t.phase hdr1 at x xs c here)))

no_label : (s : List ℕ) → part (length s) 80 s ≡ []
unfolding part
no_label s = ap (take 80) (drop-length s)

-- The parts of an accepted image, in order, are what its reading hands out.
pub parts_read : (s : List ℕ) → (image_verdict s).number ≡ 0
    → Read s [] 0 (parts (stands 5 (length s) Reel false) (decode (drop 5 s))) (handed_out (runs start (items s)))
unfolding start items
parts_read s h =
    let a = (accepted_iff s).0 h in
    read s (items s) start 5 (length s) a.followed refl (framing_items s a.framed) kept_start (λ on. absurd (false≢true on))
    (no_label s)

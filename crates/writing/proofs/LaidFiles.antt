-- What is laid down of a file, and of all files, is read again. Assumes nothing.
use Rattle.std.specs.Prelude.{Some}
use mathlib.Core.Path.{◌≡◌, refl, sym, ap, ap₂, ◌∙◌, subst}
use mathlib.Core.Bool.{Bool, true, false, false≢true}
use mathlib.Core.List.{List, [], ◌∷◌, ◌++◌, map, append_assoc, append-nil}
use Prim.Native.Nat.{ℕ, zero, suc, ◌+◌, ◌≤◌, ◌<◌, pred}
use native.Mathlib.Omega.{arith}
use borrow.Author.Tests.{ne_eqb, eqb-true}
use lib.Dec.{eqb}
use lib.ListN.{length, length-append}
use Rattle.base.specs.If.{if_b}
use Rattle.base.proofs.Ifs.{if_true, if_false, if_case}
use Rattle.base.specs.Part.{same}
use Rattle.base.proofs.Bytes.{same_refl}
use Rattle.image.specs.Item.{Item, block, mark, reel_end}
use Rattle.image.specs.Code.Items.{is_item, all_items}
use Rattle.image.specs.Framing.{framed_from}
use Rattle.order.specs.Kind.{hdr, vol, data_block, end_of_image, is_kind}
use Rattle.order.specs.Due.{dues, choose, up_to_nine, due_after}
use Rattle.order.specs.declared.Phase.{Phase}
use Rattle.order.specs.declared.Phase.TheVariants.{FirstHeader, Data, FileEnd, SetClosed, Over}
use Rattle.label.specs.Name.{hdr1_name, hdr2_name}
use Rattle.label.specs.Judged.{label_fault}
use Rattle.label.specs.Made.{made_volume, made_first, made_second}
use Rattle.block.specs.Cut.{Segment}
use Rattle.volume.specs.State.{State}
use Rattle.volume.specs.Fault.{is_among}
use Rattle.volume.specs.Step.{Event, begins, resumes, holds, is_due, go, step}
use Rattle.volume.specs.Run.{ended, runs}
use Rattle.volume.specs.Meaning.{File, joined, Collected, fields_from, collect, set_from}
use Rattle.reading.specs.Legal.{format_from, block_length_from, record_length_from, is_sound, legal_name, fresh_names, legal_file, legal_files, legal_entry, legal_records}
use Rattle.writing.specs.Pack.{blocks_of}
use Rattle.writing.specs.Lay.{Reel, Laid, put, rest, lay_files}
use Rattle.sections.specs.Section.{headers, file_end, volume_end}
use Rattle.writing.proofs.Units.{both}
use Rattle.writing.proofs.PackedFiles.{Block, Blocks, held, flat, file_blocks, file_records}
use Rattle.writing.proofs.Labels.{GoodFirst, GoodSecond, set_back}
use Rattle.writing.proofs.Entry.{legal_first, legal_second, suited, entry_back}
use Rattle.writing.proofs.Acts.{at, OneSet, act_mark, act_reel_end, act_block}
use Rattle.writing.proofs.Laying.{ReadTo, run_on, not_full, read_block_lem, read_mark, ReadToEnd, IsLaid, items_of, ends_put, read_headers, read_file_end, read_change}

-- ---- the blocks of a file

abbrev pub names_of : List Reel → List (List ℕ)
names_of reels = map (λ (t : Reel). t.name) reels

-- rooms for 1 to 999,999 blocks: as many as a trailer label counts
abbrev pub Rooms : List Reel → Type 0
Rooms [] = Unit {0}
Rooms (t ∷ reels) = (1 ≤ t.room) × (t.room ≤ 999999) × Rooms reels

-- reels that can be written behind those of the names used
pub record Usable (used : List (List ℕ)) (reels : List Reel) : Type 0 where
  pub few : length used + length reels ≤ 16
  pub fresh : fresh_names used (names_of reels) ≡ true
  pub rooms : Rooms reels

-- the reels: r are ended, one is begun, and those that are left can be written
pub record ReelsRead (r : ℕ) (used : List (List ℕ)) (reels : List Reel) : Type 0 where
  pub begun : suc r ≡ length used
  pub left : Usable used reels

reel_few : (r : ℕ) (used : List (List ℕ)) (left : List Reel) → ReelsRead r used left → r < 16
reel_few r used left h = omega (arith, h.begun, h.left.few)

-- a reel that is left
pub usable_next : {A : Type 0} (used : List (List ℕ)) (t : Reel) (reels : List Reel) → Usable used (t ∷ reels)
    → (length t.name ≡ 6 → (label_fault (vol 1) (made_volume t.name)).number ≡ 0 → is_among t.name used ≡ false → 1 ≤ t.room
    → t.room ≤ 999999
    → Usable (used ++ (t.name ∷ [])) reels → A) → A
unfolding fresh_names legal_name is_sound
usable_next {A} used t reels h k =
    let n : List ℕ = t.name in
    let others : Bool = fresh_names (used ++ (n ∷ [])) (names_of reels) in
    let all : length used + suc (length reels) ≤ 16 = h.few in
    let long : length (used ++ (n ∷ [])) ≡ length used + 1 = length-append used (n ∷ []) in
    both (if_b (eqb (length n) 6) (eqb (label_fault (vol 1) (made_volume n)).number 0) false) _
    (λ a b. both (eqb (length n) 6) _
    (λ c d. if_case (λ (z : Bool). z ≡ true → A) (is_among n used) false others (λ _ q. absurd (false≢true q))
    (λ u q. k (eqb-true _ _ c) (eqb-true _ _ d) u h.rooms.0 h.rooms.1
    (record { few = omega arith; fresh = q; rooms = h.rooms.2 })) b) a) h.fresh

-- the change of reels with the block for which it is made
read_change_block : (names : List (List ℕ)) (files : ℕ) (on : Bool) (set e : List ℕ) (a q c o p r : ℕ) (n b : List ℕ)
    (g : List Segment) (xs : List Item)
    (es : List Event) → GoodFirst set e → GoodSecond e → c < 1000000 → a < 9999 → r + 1 < 16 → length names < 16
    → length n ≡ 6 → (label_fault (vol 1) (made_volume n)).number ≡ 0 → is_among n names ≡ false
    → Block (format_from e) (block_length_from e) (record_length_from e) o p b g
    → ReadTo (at Data (names ++ (n ∷ [])) files true (made_first hdr1_name set e (suc a) q 0) (made_second hdr2_name e) 1 p) (r + 1) xs es
    → ReadTo (at Data names files on (made_first hdr1_name set e a q 0) (made_second hdr2_name e) c o) r
    (volume_end set e a q c ++ (block (made_volume n) ∷ headers set e (suc a) q) ++ (block b ∷ []) ++ xs)
    (resumes (made_first hdr1_name set e (suc a) q 0) (made_second hdr2_name e) ∷ holds b g ∷ es)
unfolding volume_end headers
read_change_block names files on set e a q c o p r n b g xs es f k h i m w l v u x z =
    read_change names files on set e a q c o r n (block b ∷ xs) (holds b g ∷ es) f k h i m w l v u
    (read_block_lem _ _ (r + 1) b xs (holds b g ∷ []) es
    (act_block (names ++ (n ∷ [])) files true (made_first hdr1_name set e (suc a) q 0) e b 0 o p g k x) x.item m z)

-- what is handed out is folded to this
abbrev Collects : Collected → List Event → Type 0
Collects c es = collect es ≡ c

-- blocks of these segments before the rest
abbrev onto : List Segment → Collected → Collected
onto g c = record { segments = g ++ c.segments; files = c.files }

collects_block : (b : List ℕ) (g : List Segment) (gs : List (List Segment)) (c : Collected) (es : List Event)
    → Collects (onto (flat gs) c) es → Collects (onto (flat (g ∷ gs)) c) (holds b g ∷ es)
unfolding collect flat
collects_block b g gs c es h =
    ap (onto g) h ∙ ap (λ (l : List Segment). record { segments = l; files = c.files })
    (sym (append_assoc g (flat gs) c.segments))

module _ (set e : List ℕ) (q : ℕ) (later : ℕ → List Reel → Laid) (d : Collected) (g : GoodFirst set e) (k : GoodSecond e)
    (ends : (room r a c : ℕ) (used : List (List ℕ)) (left : List Reel) → ReelsRead r used left → room ≤ 999999
    → ReadToEnd (at FileEnd used q false (made_first hdr1_name set e a q 0) (made_second hdr2_name e) c 0) r (later room left)
    (Collects d)) where
  -- whatever is laid behind the file, its blocks are read to its end
  rest_ends : (bs : List (List ℕ)) (gs : List (List Segment)) (a c room o r : ℕ) (on : Bool) (used : List (List ℕ))
      (left : List Reel)
      → Blocks (format_from e) (block_length_from e) (record_length_from e) o bs gs → ReelsRead r used left → a ≤ length used
      → c + room ≤ 999999
      → ReadToEnd (at Data used q on (made_first hdr1_name set e a q 0) (made_second hdr2_name e) c o) r (rest set e q a c room left bs later)
      (Collects (onto (flat gs) d))
  unfolding rest flat collect
  rest_ends [] [] a c room o r on used left h reels m w =
      let here : r < 16 = reel_few r used left reels in
      subst (λ (n : ℕ). ReadToEnd (at Data used q on (made_first hdr1_name set e a q 0) (made_second hdr2_name e) c n) r
      (put (file_end set e a q c) (later room left)) (Collects d)) (sym h)
      (ends_put _ _ r r (file_end set e a q c) (later room left) (Collects d) (Collects d) (λ es. es)
      (λ zs es z. read_file_end used q on set e a q c r zs es g k (omega arith) here z) (λ es z. z)
      (ends room r a c used left reels (omega arith)))
  rest_ends [] (x ∷ gs) a c room o r on used left h reels m w = absurd h
  rest_ends (b ∷ bs) [] a c room o r on used left h reels m w = absurd h
  rest_ends (b ∷ bs) (x ∷ gs) a c (suc room) o r on used left (p, h, i) reels m w =
      let here : r < 16 = reel_few r used left reels in
      ends_put _ _ r r (block b ∷ []) (rest set e q a (suc c) room left bs later) (Collects (onto (flat (x ∷ gs)) d))
      (Collects (onto (flat gs) d)) (λ es. holds b x ∷ es)
      (λ zs es z. read_block_lem _ _ r b zs (holds b x ∷ []) es (act_block used q on (made_first hdr1_name set e a q 0) e b c o p x k h)
      h.item here z)
      (collects_block b x gs d) (rest_ends bs gs a (suc c) room p r on used left i reels m (omega arith))
  rest_ends (b ∷ bs) (x ∷ gs) a c zero o r on used [] h reels m w = λ xs z. absurd (subst IsLaid (sym z) tt)
  rest_ends (b ∷ bs) (x ∷ gs) a c zero o r on used (t ∷ left) (p, h, i) reels m w =
      let n : List ℕ = t.name in
      let begun : suc r ≡ length used = reels.begun in
      let few : length used + suc (length left) ≤ 16 = reels.left.few in
      let long : length (used ++ (n ∷ [])) ≡ length used + 1 = length-append used (n ∷ []) in
      usable_next used t left reels.left
      (λ six sound new some most usable.
      ends_put _ _ r (r + 1) _ (rest set e q (suc a) 1 (pred t.room) left bs later) (Collects (onto (flat (x ∷ gs)) d))
      (Collects (onto (flat gs) d))
      (λ es. resumes (made_first hdr1_name set e (suc a) q 0) (made_second hdr2_name e) ∷ holds b x ∷ es)
      (λ zs es z. read_change_block used q on set e a q c o p r n b x zs es g k (omega arith) (omega arith) (omega arith)
      (omega arith) six sound new h z)
      (collects_block b x gs d)
      (rest_ends bs gs (suc a) 1 (pred t.room) p (r + 1) true (used ++ (n ∷ [])) left i
      (record { begun = omega arith; left = usable }) (omega arith) (omega arith)))

-- ---- all files

-- what is handed out is folded to these files
abbrev pub Files : List File → List Event → Type 0
Files ds = Collects (record { segments = []; files = ds })

-- the second mark and the end of the last reel
read_last : (names : List (List ℕ)) (files : ℕ) (f s : List ℕ) (c r : ℕ) → r < 16
    → ReadTo (at FileEnd names files false f s c 0) r (mark ∷ reel_end ∷ []) []
unfolding due_after dues choose up_to_nine is_kind if_b
read_last names files f s c r h =
    read_mark _ _ r (reel_end ∷ []) [] (act_mark FileEnd SetClosed names files false f s c 0 refl) h
    (closing (at SetClosed names files false f s c 0) (at Over names files false f s c 0) r refl
    (act_reel_end SetClosed Over names files false f s c 0 refl) h)
  where
    over : (t : State) → t.phase ≡ Over → runs t [] ≡ ended []
    over t p = unfold runs is_due in if_true _ _ _ (ap (λ (z : Phase). is_due (due_after z end_of_image)) p)

    closing : (s t : State) (r : ℕ) → t.phase ≡ Over → step s reel_end ≡ go t [] → r < 16 → ReadTo s r (reel_end ∷ []) []
    closing s t r p e h = unfold framed_from all_items is_item in record {
      ends = run_on s t reel_end [] [] [] e (over t p);
      whole = refl;
      framed = λ n closed. if_false _ _ _ (not_full r h);
    }

-- a legal first file: its entry, its records, and the files behind it
pub legal_file_lem : {A : Type 0} (set : List ℕ) (d : File) (ds : List File) → legal_files set (d ∷ ds) ≡ true
    → (legal_entry set d.fields ≡ true
    → legal_records (format_from d.fields) (record_length_from d.fields) d.records ≡ true
    → legal_files set ds ≡ true → A) → A
unfolding legal_files legal_file
legal_file_lem set d ds h k =
    both (if_b (legal_entry set d.fields)
    (legal_records (format_from d.fields) (record_length_from d.fields) d.records) false) _
    (λ a b. both (legal_entry set d.fields) _ (λ c r. k c r b) a) h

pub one_set : (files : ℕ) (set e : List ℕ) (a q : ℕ) → GoodFirst set e → OneSet (suc files) set (made_first hdr1_name set e a q 0)
one_set files set e a q g =
    let other : suc files ≡ 0 → ⊥ = λ z. omega arith in
    if_false _ _ _ (ne_eqb (suc files) 0 other) ∙ ap (same set) (set_back hdr1_name set e a q 0 g.six) ∙ same_refl set

-- the labels of a legal file and the segments of its blocks are folded to this file
file_collected : (set : List ℕ) (d : File) (ds : List File) (q : ℕ) (es : List Event) → GoodFirst set d.fields
    → GoodSecond d.fields
    → legal_records (format_from d.fields) (record_length_from d.fields) d.records ≡ true
    → Collects (onto (flat (held (format_from d.fields) (block_length_from d.fields) d.records))
    (record { segments = []; files = ds })) es
    → Files (d ∷ ds) (begins (made_first hdr1_name set d.fields 1 q 0) (made_second hdr2_name d.fields) ∷ es)
unfolding collect
file_collected set d ds q es g k records h =
    let e : List ℕ = d.fields in
    let segments : List Segment = flat (held (format_from e) (block_length_from e) d.records) in
    let again : joined (segments ++ []) ≡ d.records
    = ap joined (append-nil segments) ∙ file_records (format_from e) (block_length_from e) (record_length_from e) d.records (suited e k) records in
    ap (λ (c : Collected). filed (fields_from (made_first hdr1_name set e 1 q 0) (made_second hdr2_name e)) (joined c.segments)
    c.files) h
    ∙ ap₂ (λ (f : List ℕ) (xs : List (List ℕ)). filed f xs ds) (entry_back set e 1 q g.long) again
  where
    filed : List ℕ → List (List ℕ) → List File → Collected
    filed f xs others = record { segments = []; files = record { fields = f; records = xs } ∷ others }

module _ (set : List ℕ) where
  -- one file, where what is laid behind it is read to its end
  pub file_ends : (d : File) (ds : List File) (p : Phase) (files room r c : ℕ) (used : List (List ℕ)) (left : List Reel)
      (f s : List ℕ)
      → is_due (due_after p data_block) ≡ false → due_after p (hdr 1) ≡ Some FirstHeader → OneSet files set f → files < 64
      → legal_entry set d.fields ≡ true
      → legal_records (format_from d.fields) (record_length_from d.fields) d.records ≡ true
      → ReelsRead r used left → room ≤ 999999
      → ((room r a c : ℕ) (used : List (List ℕ)) (left : List Reel) → ReelsRead r used left → room ≤ 999999
      → ReadToEnd (at FileEnd used (suc files) false (made_first hdr1_name set d.fields a (suc files) 0)
      (made_second hdr2_name d.fields) c 0) r
      (lay_files set (suc (suc files)) room left ds) (Files ds))
      → ReadToEnd (at p used files false f s c 0) r (lay_files set (suc files) room left (d ∷ ds))
      (λ es. Files (d ∷ ds) es × (set_from es ≡ set))
  unfolding lay_files set_from
  file_ends d ds p files room r c used left f s due first one few legal records reels h later =
      let e : List ℕ = d.fields in
      let g : GoodFirst set e = legal_first set e legal in
      let k : GoodSecond e = legal_second set e legal in
      let begun : suc r ≡ length used = reels.begun in
      let gs : List (List Segment) = held (format_from e) (block_length_from e) d.records in
      let behind : Collected = record { segments = []; files = ds } in
      ends_put _ _ r r (headers set e 1 (suc files)) _ (λ es. Files (d ∷ ds) es × (set_from es ≡ set))
      (Collects (onto (flat gs) behind))
      (λ es. begins (made_first hdr1_name set e 1 (suc files) 0) (made_second hdr2_name e) ∷ es)
      (λ zs es z. read_headers p used files f s c r set e zs es due first g k one few (reel_few r used left reels) z)
      (λ es z. (file_collected set d ds (suc files) es g k records z, set_back hdr1_name set e 1 (suc files) 0 g.six))
      (rest_ends set e (suc files) (λ rooms others. lay_files set (suc (suc files)) rooms others ds) behind g k later
      (blocks_of (format_from e) (block_length_from e) d.records) gs 1 0 room 0 r false used left
      (file_blocks (format_from e) (block_length_from e) (record_length_from e) d.records (suited e k) records) reels (omega arith)
      (omega arith))

  -- the files behind one that is ended
  pub files_end : (ds : List File) (files room r c : ℕ) (used : List (List ℕ)) (left : List Reel) (f s : List ℕ)
      → OneSet files set f → files + length ds ≤ 64
      → legal_files set ds ≡ true → ReelsRead r used left → room ≤ 999999
      → ReadToEnd (at FileEnd used files false f s c 0) r (lay_files set (suc files) room left ds) (Files ds)
  unfolding lay_files collect due_after dues choose is_due is_kind if_b
  files_end [] files room r c used left f s one few legal reels h = λ xs z. (
    [],
    subst (λ (l : List Item). ReadTo (at FileEnd used files false f s c 0) r l []) (ap items_of z)
        (read_last used files f s c r (reel_few r used left reels)),
    refl,
  )
  files_end (d ∷ ds) files room r c used left f s one few legal reels h =
      legal_file_lem set d ds legal
      (λ entry records others xs z.
      let (es, read, told) = file_ends d ds FileEnd files room r c used left f s refl refl one (omega arith) entry records reels h
      (λ room r a c used left reels h.
      files_end ds (suc files) room r c used left _ _ (one_set files set d.fields a (suc files) (legal_first set d.fields entry)) (omega arith) others reels h) xs z in
      (es, read, told.0))

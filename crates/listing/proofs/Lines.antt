-- The lines of the files of an accepted set, one after the other. Assumes nothing.
use Rattle.content.specs.declared.part.Part.{Part}
use Rattle.std.specs.Prelude.{Option, Some, None}
use mathlib.Core.Path.{◌≡◌, refl, sym, ap, ap₂, ◌∙◌, subst}
use mathlib.Core.Bool.{Bool, true, false, false≢true}
use mathlib.Core.List.{List, [], ◌∷◌, ◌++◌, append_assoc, append-nil}
use Prim.Native.Nat.{ℕ, suc, ◌+◌, ◌-◌, ◌≤◌, ◌<◌}
use native.Mathlib.Omega.{arith}
use borrow.Author.Rules.{rules}
use mir.Val.{Fits}
use mir.Syntax.{w64}
use lib.ListN.{length}
use Rattle.base.specs.Part.{part}
use Rattle.base.specs.Digits.{digits}
use Rattle.base.proofs.Parts.{length_part, put_none}
use Rattle.output.proofs.Writing.{wrote_wrote, wrote_same}
use Rattle.order.specs.declared.Phase.{Phase}
use Rattle.order.specs.declared.Phase.TheVariants.{Reel, Header}
use Rattle.block.specs.declared.Held.{Held}
use Rattle.volume.specs.Run.{image_verdict}
use Rattle.volume.specs.Meaning.{File, content}
use Rattle.reading.proofs.Entries.{entry_name, entry_second}
use Rattle.content.specs.File.{as_file, file_in as first_file_in, file_from, first_file, next_file, file_behind}
use Rattle.content.specs.Held.{file_held}
use Rattle.content.specs.Walked.{FileIs}
use Rattle.content.specs.Code.Files.{Filed}
use Rattle.content.specs.declared.holding.FileHeld.{FileHeld}
use Rattle.content.specs.declared.FileAt.{FileAt}
use Rattle.content.specs.declared.part.Part.TheVariants.{File as NewFile, Section, Block}
use Rattle.content.proofs.Parts.{stands, IsAhead, first_ahead}
use Rattle.content.proofs.Walked.{files_all}
use Rattle.listing.specs.Code.Page.{DidPutPage, endless}
use Rattle.listing.specs.Text.{heading, named, counted, described, line, lines, listing_of}
use Rattle.listing.specs.Code.Place.{described_at, line_at}

-- ---- a line

-- what is said of a file, by the parts of the image that the code cuts out
pub described_written : (s : List ℕ) (f : FileAt) (first second i g : List ℕ) (x : Held) (o : List ℕ) (a : ℕ) (p : List ℕ) (r : ℕ)
    (q : List ℕ) (t : ℕ)
    → first ≡ part f.hdr1 80 s → second ≡ part f.hdr2 80 s → i ≡ part 4 17 first → g ≡ part 4 1 second
    → DidPutPage o a (named i g) p r → DidPutPage p r (counted x.records x.bytes) q t
    → DidPutPage o a (described_at s f x) q t
unfolding described_at
described_written s f first second i g x o a p r q t ef es ei eg w v =
    wrote_same o a (named i g ++ counted x.records x.bytes) (described_at s f x) q t
    (ap (λ (y : List ℕ). y ++ counted x.records x.bytes) (ap₂ named (ei ∙ ap (part 4 17) ef) (eg ∙ ap (part 4 1) es)))
    (wrote_wrote o a (named i g) p r (counted x.records x.bytes) q t w v)

pub line_written : (s : List ℕ) (f : FileAt) (x : Held) (n : ℕ) (d o : List ℕ) (a : ℕ) (p : List ℕ) (r : ℕ) (q : List ℕ) (t : ℕ)
    → d ≡ digits 4 n → DidPutPage o a d p r → DidPutPage p r (described_at s f x) q t → DidPutPage o a (line_at s n f x) q t
unfolding line_at
line_written s f x n d o a p r q t e w v =
    wrote_same o a (d ++ described_at s f x) (line_at s n f x) q t (ap (λ (y : List ℕ). y ++ described_at s f x) e)
    (wrote_wrote o a d p r (described_at s f x) q t w v)

pub ruleset describing = (described_written, line_written, rules)

-- where a file of the meaning stands, its line is found
line_is : (s : List ℕ) (n : ℕ) (f : FileAt) (d : File) → FileIs s f d → line_at s n f (file_held s f.walk).held ≡ line n d
unfolding line_at line described described_at
line_is s n f d c =
    let first : length (part f.hdr1 80 s) ≡ 80 = length_part f.hdr1 80 s c.first_within in
    let second : length (part f.hdr2 80 s) ≡ 80 = length_part f.hdr2 80 s c.second_within in
    let name : part 4 17 (part f.hdr1 80 s) ≡ part 0 17 d.fields
    = sym (ap (part 0 17) c.fields ∙ entry_name (part f.hdr1 80 s) (part f.hdr2 80 s) first second 0 17 (omega arith)) in
    let format : part 4 1 (part f.hdr2 80 s) ≡ part 35 1 d.fields
    = sym (ap (part 35 1) c.fields ∙ entry_second (part f.hdr1 80 s) (part f.hdr2 80 s) first second 0 1 (omega arith)) in
    ap (λ (l : List ℕ). digits 4 n ++ l)
    (ap₂ (λ (y z : List ℕ). y ++ z) (ap₂ named name format) (ap₂ counted c.amounts.records c.amounts.bytes))

-- ---- from file to file

-- a file stands no earlier than at a place
abbrev pub NoEarlier : ℕ → Option FileAt → Type 0
NoEarlier at (Some f) = at ≤ f.hdr2
NoEarlier at None = 0 ≤ at

behind_less : (a b : ℕ) (x : Option FileAt) → a ≤ b → NoEarlier b x → NoEarlier a x
behind_less a b (Some f) h c = omega arith
behind_less a b None h c = omega arith

file_behind_lem : (s : List ℕ) (at : ℕ) (p : Option Part) → IsAhead s at p → NoEarlier at (as_file s p)
unfolding as_file
file_behind_lem s at (Some (NewFile a b)) h = omega (arith, h.onward)
file_behind_lem s at (Some (Section a b)) h = omega arith
file_behind_lem s at (Some (Block start n)) h = omega arith
file_behind_lem s at None h = omega arith

-- what is found from a place on stands behind it
found_behind : (s : List ℕ) (at hdr1 : ℕ) (p : Phase) → NoEarlier at (file_from s (stands at hdr1 p false))
unfolding file_from first_file_in
found_behind s at hdr1 p = file_behind_lem s at _ (first_ahead s false false at hdr1 p false)

-- ---- the loop of `put_listing`: the lines written, then those of the files that are left

pub record Lining (s o : List ℕ) (a : ℕ) (p : List ℕ) (r n : ℕ) (x : Option FileAt) : Type 0 where
  pub room : length s < 18446744073709551616
  pub before : List ℕ
  pub rest : List File
  pub filed : Filed s x rest
  pub wrote : DidPutPage o a before p r
  pub whole : before ++ lines n rest ≡ lines 1 (content s).files
  pub number : NoEarlier (n + 1) x

-- nothing is written yet
wrote_none : (o : List ℕ) (a : ℕ) → a ≤ endless → DidPutPage o a [] o a
wrote_none o a h = record { kept = refl; place = omega arith; done = λ _ _. sym (put_none o a) }

pub lining_none : (s o p : List ℕ) (r : ℕ) (x : Option FileAt) → length s < 18446744073709551616 → (image_verdict s).number ≡ 0
    → x ≡ first_file s → DidPutPage o 0 heading p r
    → Lining s p r p r 1 x
unfolding first_file
lining_none s o p r x l h e w =
    record {
      room = l;
      before = [];
      rest = (content s).files;
      filed = subst (λ (y : Option FileAt). Filed s y (content s).files) (sym e) (files_all s h);
      wrote = wrote_none p r (omega (arith, w.place));
      whole = refl;
      number = subst (NoEarlier 2) (sym e) (behind_less 2 5 (first_file s) (omega arith) (found_behind s 5 (length s) Reel));
    }

-- what the search for the next file found
is_file : Option FileAt → Bool
is_file (Some f) = true
is_file None = false

file_in : FileAt → Option FileAt → FileAt
file_in f (Some g) = g
file_in f None = f

-- of the files left the first stands at f
pub record NextAt (s : List ℕ) (n : ℕ) (f : FileAt) (rest : List File) : Type 0 where
  pub file : File
  pub others : List File
  pub is : FileIs s f file
  pub filed : Filed s (next_file s f.hdr1 f.hdr2) others
  pub lined : lines n rest ≡ line_at s n f (file_held s f.walk).held ++ lines (n + 1) others

next_file_lem : (s : List ℕ) (n : ℕ) (x : Option FileAt) (f : FileAt) (ds : List File) → Filed s x ds → x ≡ Some f → NextAt s n f ds
unfolding is_file file_in lines
next_file_lem s n x f [] c e = absurd (false≢true (sym (ap is_file c) ∙ ap is_file e))
next_file_lem s n x f (d ∷ ds) (g, e', is, others) e =
    let same : g ≡ f = ap (file_in f) (sym e' ∙ e) in
    let here : FileIs s f d = subst (λ (k : FileAt). FileIs s k d) same is in
    record {
      file = d;
      others = ds;
      is = here;
      filed = subst (λ (k : FileAt). Filed s (next_file s k.hdr1 k.hdr2) ds) same others;
      lined = ap (λ (l : List ℕ). l ++ lines (n + 1) ds) (sym (line_is s n f d here));
    }

pub lining_all : (s e o : List ℕ) (a : ℕ) (p : List ℕ) (r n : ℕ) (x : Option FileAt) → DidPutPage e 0 heading o a
    → Lining s o a p r n x
    → x ≡ None
    → DidPutPage e 0 (listing_of (content s)) p r
unfolding is_file lines listing_of
lining_all s e o a p r n x w c z =
    wrote_same e 0 (heading ++ c.before) (listing_of (content s)) p r
    (ap (λ (l : List ℕ). heading ++ l) (all c.rest c.filed c.whole))
    (wrote_wrote e 0 heading o a c.before p r w c.wrote)
  where
    all : (ds : List File) → Filed s x ds → c.before ++ lines n ds ≡ lines 1 (content s).files
        → c.before ≡ lines 1 (content s).files
    all [] h q = sym (append-nil c.before) ∙ q
    all (d ∷ ds) (g, e', _, _) q = absurd (false≢true (sym (ap is_file z) ∙ ap is_file e'))

-- how far the image goes on behind a file's HDR2
abbrev pub left : List ℕ → Option FileAt → ℕ
left s (Some f) = suc (length s - f.hdr2)
left s None = 0

left_falls : (s : List ℕ) (f : FileAt) (y : Option FileAt) → f.hdr2 + 80 ≤ length s → NoEarlier (f.hdr2 + 80) y
    → left s y < left s (Some f)
left_falls s f (Some g) h b = omega arith
left_falls s f None h b = omega arith

module _ (s o : List ℕ) (a : ℕ) (p : List ℕ) (r n : ℕ) (x : Option FileAt) (f : FileAt) (c : Lining s o a p r n x) (e : x ≡ Some f) where
  next : NextAt s n f c.rest
  next = next_file_lem s n x f c.rest c.filed e

  after : n + 1 ≤ f.hdr2
  after = subst (NoEarlier (n + 1)) e c.number

  behind : NoEarlier (f.hdr2 + 80) (next_file s f.hdr1 f.hdr2)
  unfolding next_file
  behind = found_behind s (f.hdr2 + 80) f.hdr1 (Header 2)

  pub number_fits : Fits w64 (n + 1)
  number_fits = let inside : f.hdr2 + 80 ≤ length s = next.is.second_within in omega (arith, after, c.room)

  -- the next file is found from behind the file's last block on
  found : (y : FileHeld) (z : Option FileAt) → y ≡ file_held s f.walk → z ≡ file_behind s f.hdr1 y.end
      → z ≡ next_file s f.hdr1 f.hdr2
  found y z h k = k ∙ ap (λ (x : FileHeld). file_behind s f.hdr1 x.end) h ∙ next.is.amounts.behind

  pub lining_more : (y : FileHeld) (q : List ℕ) (t : ℕ) (z : Option FileAt) → y ≡ file_held s f.walk
      → DidPutPage p r (line_at s n f y.held) q t
      → z ≡ file_behind s f.hdr1 y.end → Lining s o a q t (n + 1) z
  lining_more y q t z h w k =
      record {
        room = c.room;
        before = c.before ++ line_at s n f y.held;
        rest = next.others;
        filed = subst (λ (u : Option FileAt). Filed s u next.others) (sym (found y z h k)) next.filed;
        wrote = wrote_wrote o a c.before p r (line_at s n f y.held) q t c.wrote w;
        whole =
            append_assoc c.before (line_at s n f y.held) (lines (n + 1) next.others)
            ∙ ap (λ (u : FileHeld). c.before ++ (line_at s n f u.held ++ lines (n + 1) next.others)) h
            ∙ ap (λ (l : List ℕ). c.before ++ l) (sym next.lined)
            ∙ c.whole;
        number =
            subst (NoEarlier (n + 1 + 1)) (sym (found y z h k))
            (behind_less (n + 1 + 1) (f.hdr2 + 80) (next_file s f.hdr1 f.hdr2) (omega (arith, after)) behind);
      }

  pub lining_falls : (y : FileHeld) (z : Option FileAt) → y ≡ file_held s f.walk → z ≡ file_behind s f.hdr1 y.end
      → left s z < left s x
  lining_falls y z h k =
      subst (λ (u : Option FileAt). left s z < left s u) (sym e)
      (left_falls s f z next.is.second_within (subst (NoEarlier (f.hdr2 + 80)) (sym (found y z h k)) behind))

pub ruleset lining = (lining_none, lining_all, lining_more, number_fits, lining_falls, rules)

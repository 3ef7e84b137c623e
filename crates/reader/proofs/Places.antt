-- Laws of a reader's place, by what a file's opening and a step say. Assumes nothing.
use Rattle.content.specs.declared.Found.TheVariants.{InImage, Joined}
use Rattle.content.specs.declared.Found.{Found}
use Rattle.std.specs.Prelude.{Result, Ok, Err}
use mathlib.Core.Path.{◌≡◌, refl, sym, ap, ◌∙◌}
use mathlib.Core.List.{List, []}
use Prim.Native.Nat.{ℕ}
use borrow.Author.Rules.{rules}
use Rattle.base.specs.If.{if_b}
use Rattle.base.specs.Answer.{verdict}
use Rattle.base.specs.declared.Verdict.{Verdict}
use Rattle.content.specs.Walk.{record_at, step_at, Step}
use Rattle.content.specs.Walked.{handed}
use Rattle.content.specs.File.{begun_at}
use Rattle.content.specs.Found.{found_by}
use Rattle.content.specs.Numbers.{no_walk}
use Rattle.content.specs.Records.{records_at, facts_of}
use Rattle.content.specs.declared.Walk.{Walk}
use Rattle.content.specs.declared.FileAt.{FileAt}
use Rattle.content.specs.declared.counting.Facts.{Facts}
use Rattle.content.proofs.Records.{records_over}
use Rattle.reader.specs.Read.{opened_by, opened_at, count_at, walk_behind, read_by, read_at}
use Rattle.reader.specs.declared.Opened.{Opened}
use Rattle.reader.specs.declared.FileFacts.{FileFacts}
use Rattle.reader.specs.declared.Reading.{Reading}

pub by_begun : (w : Walk) (f : FileAt) (v : Verdict) (b : Result FileAt Verdict) → b ≡ Ok f → v ≡ verdict 0 0 0
    → ◌≡◌ {A = Opened} (record { verdict = v; walk = f.walk }) (opened_by w b)
unfolding opened_by
by_begun w f v b e h = ap (λ (x : Verdict). record { verdict = x; walk = f.walk }) h ∙ sym (ap (opened_by w) e)

pub by_refused : (w : Walk) (a : Verdict) (b : Result FileAt Verdict) → b ≡ Err a
    → ◌≡◌ {A = Opened} (record { verdict = a; walk = w }) (opened_by w b)
unfolding opened_by
by_refused w a b e = sym (ap (opened_by w) e)

pub opened_at_lem : (s : List ℕ) (w : Walk) (n : ℕ) (b : Result FileAt Verdict) (o : Opened) → b ≡ begun_at s n → o ≡ opened_by w b → o ≡ opened_at s w n
unfolding opened_at
opened_at_lem s w n b o e h = h ∙ ap (opened_by w) e

-- ---- counting

pub count_at_lem : (s : List ℕ) (n : ℕ) (o : Opened) (f : Facts) → o ≡ opened_at s no_walk n → f ≡ facts_of (records_at s o.walk)
    → ◌≡◌ {A = FileFacts} (record { verdict = o.verdict; facts = f }) (count_at s n)
unfolding count_at
count_at_lem s n o f e h =
    ap (λ (x : Facts). record { verdict = o.verdict; facts = x }) h
    ∙ ap (λ (x : Opened). record { verdict = x.verdict; facts = facts_of (records_at s x.walk) }) e

-- from nowhere on no record is handed out
pub nowhere_none : (s : List ℕ) → records_at s no_walk ≡ []
unfolding record_at handed if_b
nowhere_none s = records_over s no_walk refl

-- ---- the next record

pub by_found : (w v : Walk) (f : Found) (x : Step) → x ≡ Ok (f, v) → ◌≡◌ {A = Reading} (record { found = Ok f; walk = v }) (read_by w x)
unfolding read_by found_by walk_behind
by_found w v (InImage start n) x e = sym (ap (read_by w) e)
by_found w v (Joined n) x e = sym (ap (read_by w) e)

pub by_stopped : (w : Walk) (k : ℕ) (v : Verdict) (x : Step) → x ≡ Err k → v ≡ verdict k 0 0
    → ◌≡◌ {A = Reading} (record { found = Err v; walk = w }) (read_by w x)
unfolding read_by found_by walk_behind
by_stopped w k v x e h = ap (λ (y : Verdict). record { found = Err y; walk = w }) h ∙ sym (ap (read_by w) e)

pub read_at_lem : (s : List ℕ) (room : ℕ) (w : Walk) (x : Step) (y : Reading) → x ≡ step_at s room w → y ≡ read_by w x
    → y ≡ read_at s room w
unfolding read_at
read_at_lem s room w x y e h = h ∙ ap (read_by w) e

pub ruleset places = (by_begun, by_refused, opened_at_lem, count_at_lem, by_found, by_stopped, read_at_lem, rules)

-- The cases of an answer, each as its numbers. Assumes nothing.
use Rattle.content.specs.Walk.{Step}
use Rattle.content.specs.declared.Found.{Found}
use Rattle.std.specs.Prelude.{Option, Some, None, Result, Ok, Err}
use mathlib.Core.Path.{◌≡◌, sym, ap, ◌∙◌}
use Prim.Native.Nat.{ℕ}
use borrow.Author.Rules.{rules}
use Rattle.base.specs.Answer.{verdict}
use Rattle.base.specs.declared.Verdict.{Verdict}
use Rattle.content.specs.declared.Walk.{Walk}
use Rattle.content.specs.declared.FileAt.{FileAt}
use Rattle.content.specs.declared.Found.TheVariants.{InImage, Joined}
use Rattle.content.specs.File.{begun_by}
use Rattle.content.specs.Numbers.{record_of, no_walk, beginning_of, file_of, stepped_of, Said}
use Rattle.content.specs.declared.numbers.Located.{Located}
use Rattle.content.specs.declared.numbers.Beginning.{Beginning}
use Rattle.content.specs.declared.numbers.Stepped.{Stepped}

abbrev record_with : Verdict → ℕ → ℕ → ℕ → Located
record_with v joined start n = record { verdict = v; joined = joined; start = start; len = n }

pub record_there : (f : Result Found Verdict) (start n : ℕ) (v : Verdict) → f ≡ Ok (InImage start n) → v ≡ verdict 0 0 0
    → record_with v 0 start n ≡ record_of f
unfolding record_of
record_there f start n v e h = ap (λ (a : Verdict). record_with a 0 start n) h ∙ sym (ap record_of e)

pub record_here : (f : Result Found Verdict) (n : ℕ) (v : Verdict) → f ≡ Ok (Joined n) → v ≡ verdict 0 0 0 → record_with v 1 0 n ≡ record_of f
unfolding record_of
record_here f n v e h = ap (λ (a : Verdict). record_with a 1 0 n) h ∙ sym (ap record_of e)

pub record_none : (f : Result Found Verdict) (v : Verdict) → f ≡ Err v → record_with v 0 0 0 ≡ record_of f
unfolding record_of
record_none f v e = sym (ap record_of e)

abbrev beginning_with : Verdict → ℕ → ℕ → Walk → Beginning
beginning_with v first second w = record { verdict = v; hdr1 = first; hdr2 = second; walk = w }

pub begins : (b : Result FileAt Verdict) (f : FileAt) (v : Verdict) → b ≡ Ok f → v ≡ verdict 0 0 0
    → beginning_with v f.hdr1 f.hdr2 f.walk ≡ beginning_of b
unfolding beginning_of
begins b f v e h = ap (λ (a : Verdict). beginning_with a f.hdr1 f.hdr2 f.walk) h ∙ sym (ap beginning_of e)

pub begins_not : (b : Result FileAt Verdict) (v : Verdict) → b ≡ Err v → beginning_with v 0 0 no_walk ≡ beginning_of b
unfolding beginning_of
begins_not b v e = sym (ap beginning_of e)

pub file_there : (x : Option FileAt) (f : FileAt) → x ≡ Some f → Ok f ≡ begun_by x
unfolding begun_by
file_there x f e = sym (ap begun_by e)

pub file_nowhere : (x : Option FileAt) (v : Verdict) → x ≡ None → v ≡ verdict 13 0 0 → Err v ≡ begun_by x
unfolding begun_by
file_nowhere x v e h = ap Err h ∙ sym (ap begun_by e)

pub file_by : (x : Option FileAt) (b : Result FileAt Verdict) (r : Beginning) → b ≡ begun_by x → r ≡ beginning_of b → r ≡ file_of x
file_by x b r e h = h ∙ ap beginning_of e

abbrev stepped_with : ℕ → ℕ → ℕ → ℕ → Walk → Stepped
stepped_with number joined start n w = record { number = number; joined = joined; start = start; len = n; walk = w }

pub step_there : (w : Walk) (x : Step) (start n : ℕ) (v : Walk) → x ≡ Ok (InImage start n, v)
    → stepped_with 0 0 start n v ≡ stepped_of w x
unfolding stepped_of
step_there w x start n v e = sym (ap (stepped_of w) e)

pub step_here : (w : Walk) (x : Step) (n : ℕ) (v : Walk) → x ≡ Ok (Joined n, v) → stepped_with 0 1 0 n v ≡ stepped_of w x
unfolding stepped_of
step_here w x n v e = sym (ap (stepped_of w) e)

pub step_none : (w : Walk) (x : Step) (k : ℕ) → x ≡ Err k → stepped_with k 0 0 0 w ≡ stepped_of w x
unfolding stepped_of
step_none w x k e = sym (ap (stepped_of w) e)

pub ruleset cases =
    (record_there, record_here, record_none, begins, begins_not, file_there, file_nowhere, file_by, step_there, step_here, step_none, rules)

-- a promise of a case is one of its numbers
pub said : {A B : Type 0} (numbers : A → B) (answer given : A) → answer ≡ given → Said numbers answer given
said numbers answer given e = record { case = e; numbered = ap numbers e }

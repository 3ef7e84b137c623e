-- The numbers of what a function below answered. Assumes nothing.
use Rattle.content.specs.Walk.{Step}
use Rattle.content.specs.declared.Found.{Found}
use Rattle.base.specs.declared.Verdict.{Verdict}
use Rattle.std.specs.Prelude.{Option, Result}
use Rattle.content.specs.declared.FileAt.{FileAt}
use mathlib.Core.Path.{◌≡◌, ap, ◌∙◌}
use borrow.Author.Rules.{rules}
use Rattle.content.specs.Numbers.{record_of, beginning_of, file_of, stepped_of}
use Rattle.content.specs.declared.Walk.{Walk}
use Rattle.content.specs.declared.numbers.Located.{Located}
use Rattle.content.specs.declared.numbers.Beginning.{Beginning}
use Rattle.content.specs.declared.numbers.Stepped.{Stepped}

pub record_by : (f g : Result Found Verdict) (r : Located) → f ≡ g → r ≡ record_of f → r ≡ record_of g
record_by f g r e h = h ∙ ap record_of e

pub begin_by : (b c : Result FileAt Verdict) (r : Beginning) → b ≡ c → r ≡ beginning_of b → r ≡ beginning_of c
begin_by b c r e h = h ∙ ap beginning_of e

pub file_by : (x y : Option FileAt) (r : Beginning) → x ≡ y → r ≡ file_of x → r ≡ file_of y
file_by x y r e h = h ∙ ap file_of e

pub step_by : (w : Walk) (x y : Step) (r : Stepped) → x ≡ y → r ≡ stepped_of w x → r ≡ stepped_of w y
step_by w x y r e h = h ∙ ap (stepped_of w) e

pub ruleset answers = (record_by, begin_by, file_by, step_by, rules)

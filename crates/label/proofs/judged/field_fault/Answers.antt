use Rattle.label.specs.Judged.{field_fault}
use Rattle.label.proofs.Rules.{matches}
use Rattle.base.specs.Answer.{fault}
use Rattle.label.proofs.judged.field_fault.Goals as goal

pub returns-then-w-eq0 : goal.returns-then-w-eq0
unfolding field_fault fault
returns-then-w-eq0 c = search matches

pub returns : goal.returns
unfolding field_fault fault
returns c = search matches

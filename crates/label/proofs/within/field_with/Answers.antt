use Rattle.base.proofs.Rules.{ifs}
use Rattle.label.specs.Code.Asked.{asked}
use Rattle.label.specs.Judged.{field_with}
use Rattle.label.proofs.within.field_with.Goals as goal

pub returns-then-b-eq0 : goal.returns-then-b-eq0
unfolding field_with asked
returns-then-b-eq0 c = search ifs

pub returns : goal.returns
unfolding field_with asked
returns c = search ifs

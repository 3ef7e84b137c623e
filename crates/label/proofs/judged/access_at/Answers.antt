use Rattle.label.specs.Judged.{access_at}
use Rattle.label.proofs.Rules.{matches, calls}
use Rattle.base.specs.Answer.{fault}
use Rattle.label.proofs.judged.access_at.Goals as goal

pub returns-then-a-eq0 : goal.returns-then-a-eq0
unfolding access_at fault
returns-then-a-eq0 c = search (matches, calls)

pub returns-then-space_at : goal.returns-then-space_at
unfolding access_at fault
returns-then-space_at c = search (matches, calls)

pub returns : goal.returns
unfolding access_at fault
returns c = search (matches, calls)

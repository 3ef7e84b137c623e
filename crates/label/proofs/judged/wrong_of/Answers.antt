use Rattle.label.specs.Code.Asked.{asked}
use Rattle.label.proofs.judged.wrong_of.Goals as goal

pub returns : goal.returns
unfolding asked
returns c = search

use Rattle.label.specs.Code.Asked.{asked}
use Rattle.label.proofs.compared.unequal_trailer_second.Goals as goal

pub returns : goal.returns
unfolding asked
returns c = search

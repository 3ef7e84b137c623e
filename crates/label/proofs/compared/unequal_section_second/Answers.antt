use Rattle.label.specs.Code.Asked.{asked}
use Rattle.label.proofs.compared.unequal_section_second.Goals as goal

pub returns : goal.returns
unfolding asked
returns c = search

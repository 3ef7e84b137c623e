use Rattle.label.specs.Code.Asked.{asked}
use Rattle.label.proofs.Walk.{by_table}
use Rattle.label.proofs.compared.unequal_trailer_first.Goals as goal

pub returns : goal.returns
unfolding asked
returns c = search by_table

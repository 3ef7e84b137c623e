use Rattle.block.proofs.Places.{digit}
use Rattle.block.proofs.code_of.Goals as goal

pub returns : goal.returns
returns c = search digit

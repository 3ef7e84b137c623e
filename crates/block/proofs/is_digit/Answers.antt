use Rattle.block.proofs.Places.{digit}
use Rattle.block.proofs.is_digit.Goals as goal

pub returns-then-b-lt48 : goal.returns-then-b-lt48
returns-then-b-lt48 c = search digit

pub returns : goal.returns
returns c = search digit

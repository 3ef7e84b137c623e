use Rattle.charset.proofs.Numbers.{reading}
use Rattle.charset.proofs.number_in.Goals as goal

pub loop-b-init : goal.loop-b-init
loop-b-init c = search reading

pub returns-then-s-gt9 : goal.returns-then-s-gt9
returns-then-s-gt9 c = search reading

pub returns-then-b-lt48 : goal.returns-then-b-lt48
returns-then-b-lt48 c = search reading

pub returns-then-b-gt57 : goal.returns-then-b-gt57
returns-then-b-gt57 c = search reading

pub overflow_mul-n : goal.overflow_mul-n
overflow_mul-n c = search reading

pub loop-b-preserved : goal.loop-b-preserved
loop-b-preserved c = search reading

pub returns : goal.returns
returns c = search reading

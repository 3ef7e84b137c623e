use Rattle.block.proofs.Places.{measureds}
use Rattle.block.proofs.measured_length.Goals as goal

pub overflow_cast-k : goal.overflow_cast-k
overflow_cast-k c = search measureds

pub returns-then-left-k : goal.returns-then-left-k
returns-then-left-k c = search measureds

pub returns : goal.returns
returns c = search measureds

pub returns-then-n-word : goal.returns-then-n-word
returns-then-n-word c = search measureds

pub returns-then-longest-n : goal.returns-then-longest-n
returns-then-longest-n c = search measureds

use Rattle.writer.proofs.Units.{heading}
use Rattle.writer.proofs.pack.put_head.Goals as goal

pub more-pen-requires : goal.more-pen-requires
more-pen-requires c = search heading

pub overflow_add-k : goal.overflow_add-k
overflow_add-k c = search heading

pub returns-then-lay : goal.returns-then-lay
returns-then-lay c = search heading

pub returns-else-lay : goal.returns-else-lay
returns-else-lay c = search heading

use Rattle.writer.proofs.RecordBlocks.{quicks}
use Rattle.writer.proofs.record.quick_block.Goals as goal

pub close-c-requires : goal.close-c-requires
close-c-requires c = search quicks

pub returns-then-goes_next : goal.returns-then-goes_next
returns-then-goes_next c = search quicks

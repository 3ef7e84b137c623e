use Rattle.block.proofs.Padding.{looking}
use Rattle.block.proofs.chunk_is_padding.Goals as goal

pub loop-b-init : goal.loop-b-init
loop-b-init c = search looking

pub loop-b-preserved : goal.loop-b-preserved
loop-b-preserved c = search looking

pub returns : goal.returns
returns c = search looking

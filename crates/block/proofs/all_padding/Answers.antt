use Rattle.block.proofs.Padding.{looking}
use Rattle.block.proofs.all_padding.Goals as goal

pub returns-then-s-eq0 : goal.returns-then-s-eq0
returns-then-s-eq0 c = search looking

pub bounds-s-0 : goal.bounds-s-0
bounds-s-0 c = search looking

pub returns-then-s-ne-PAD : goal.returns-then-s-ne-PAD
returns-then-s-ne-PAD c = search looking

pub chunks_are_padding-requires : goal.chunks_are_padding-requires
chunks_are_padding-requires c = search looking

pub returns : goal.returns
returns c = search looking

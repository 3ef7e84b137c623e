use Rattle.content.proofs.Units.{blocks}
use Rattle.content.proofs.unit.block_next.Goals as goal

pub part_of-requires : goal.part_of-requires
part_of-requires c = search blocks

pub all_padding-requires : goal.all_padding-requires
all_padding-requires c = search blocks

pub returns-then-not-all_padding : goal.returns-then-not-all_padding
returns-then-not-all_padding c = search blocks

pub overflow_add-at : goal.overflow_add-at
overflow_add-at c = search blocks

pub next_data-requires : goal.next_data-requires
next_data-requires c = search blocks

pub moved-requires : goal.moved-requires
moved-requires c = search blocks

pub returns-then-block-w : goal.returns-then-block-w
returns-then-block-w c = search blocks

pub returns : goal.returns
returns c = search blocks

pub returns-in_default : goal.returns-in_default
returns-in_default c = search blocks

pub overflow_add-block : goal.overflow_add-block
overflow_add-block c = search blocks

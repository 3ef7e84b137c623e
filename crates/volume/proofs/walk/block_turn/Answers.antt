use Rattle.volume.proofs.WalkItems.{items}
use Rattle.volume.proofs.walk.block_turn.Goals as goal

pub order_turn-requires-clause-label_sized : goal.order_turn-requires-clause-label_sized
order_turn-requires-clause-label_sized c = search items

pub returns : goal.returns
returns c = search items

use Rattle.volume.proofs.WalkItems.{items}
use Rattle.volume.proofs.walk.item_turn.Goals as goal

pub block_turn-requires : goal.block_turn-requires
block_turn-requires c = search items

pub bare_turn-requires : goal.bare_turn-requires
bare_turn-requires c = search items

pub bare_turn-requires-in-ReelEnd : goal.bare_turn-requires-in-ReelEnd
bare_turn-requires-in-ReelEnd c = search items

pub returns-in-Broken : goal.returns-in-Broken
returns-in-Broken c = search items

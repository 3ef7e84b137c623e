use Rattle.content.proofs.Shown.{places}
use Rattle.content.proofs.items.item_at.Goals as goal

pub overflow_add-at : goal.overflow_add-at
overflow_add-at c = search places

pub item_of-requires : goal.item_of-requires
item_of-requires c = search places

pub returns-in-Some : goal.returns-in-Some
returns-in-Some c = search places

pub returns-in-None : goal.returns-in-None
returns-in-None c = search places

use borrow.Author.Rules.{rules}
use Rattle.content.proofs.Shown.{rest_end, rest_torn}
use Rattle.content.proofs.items.rest_at.Goals as goal

pub item_of-requires : goal.item_of-requires
item_of-requires c = search (rest_end, rest_torn, rules)

pub returns-then-image-at : goal.returns-then-image-at
returns-then-image-at c = search (rest_end, rest_torn, rules)

pub overflow_sub-image : goal.overflow_sub-image
overflow_sub-image c = search (rest_end, rest_torn, rules)

pub item_of-requires-2 : goal.item_of-requires-2
item_of-requires-2 c = search (rest_end, rest_torn, rules)

pub returns : goal.returns
returns c = search (rest_end, rest_torn, rules)

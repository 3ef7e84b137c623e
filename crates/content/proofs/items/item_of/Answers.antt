use borrow.Author.Rules.{rules}
use Rattle.content.proofs.Shown.{item_made}
use Rattle.content.proofs.items.item_of.Goals as goal

pub returns : goal.returns
returns c = search (item_made, rules)

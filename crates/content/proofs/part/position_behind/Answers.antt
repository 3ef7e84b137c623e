use borrow.Author.Rules.{rules}
use Rattle.content.proofs.Parts.{position_made}
use Rattle.content.proofs.part.position_behind.Goals as goal

pub returns : goal.returns
returns c = search (position_made, rules)

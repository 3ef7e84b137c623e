use borrow.Author.Rules.{rules}
use Rattle.charset.proofs.Characters.{character_class}
use Rattle.charset.proofs.is_character_by.Goals as goal

pub returns : goal.returns
returns c = search (character_class, rules)

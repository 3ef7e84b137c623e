use Rattle.charset.proofs.Ranges.{telling}
use Rattle.charset.proofs.is_character.Goals as goal

pub class_table-table-requires : goal.class_table-table-requires
class_table-table-requires c = search telling

pub is_character_by-requires : goal.is_character_by-requires
is_character_by-requires c = search telling

pub returns : goal.returns
returns c = search telling

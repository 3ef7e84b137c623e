use Rattle.charset.proofs.Ranges.{telling}
use Rattle.charset.proofs.all_by_table.Goals as goal

pub class_table-table-requires : goal.class_table-table-requires
class_table-table-requires c = search telling

pub all_characters_by-requires : goal.all_characters_by-requires
all_characters_by-requires c = search telling

pub returns : goal.returns
returns c = search telling

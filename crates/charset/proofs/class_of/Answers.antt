use Rattle.charset.proofs.Ranges.{telling}
use Rattle.charset.proofs.class_of.Goals as goal

pub class_table-table-requires : goal.class_table-table-requires
class_table-table-requires c = search telling

pub class_by-requires : goal.class_by-requires
class_by-requires c = search telling

pub returns : goal.returns
returns c = search telling

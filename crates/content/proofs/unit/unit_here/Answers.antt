use Rattle.content.proofs.Units.{units}
use Rattle.content.proofs.unit.unit_here.Goals as goal

pub part_of-requires : goal.part_of-requires
part_of-requires c = search units

pub unit_in-requires : goal.unit_in-requires
unit_in-requires c = search units

pub overflow_add-start : goal.overflow_add-start
overflow_add-start c = search units

pub overflow_add-unit : goal.overflow_add-unit
overflow_add-unit c = search units

pub overflow_sub-left : goal.overflow_sub-left
overflow_sub-left c = search units

pub moved-requires : goal.moved-requires
moved-requires c = search units

pub returns-in_default : goal.returns-in_default
returns-in_default c = search units

pub returns : goal.returns
returns c = search units

pub overflow_add-start-2 : goal.overflow_add-start-2
overflow_add-start-2 c = search units

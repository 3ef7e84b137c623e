use Rattle.content.proofs.Measures.{measures}
use Rattle.content.proofs.measuring.measure_units.Goals as goal

pub returns-then-w-eq0 : goal.returns-then-w-eq0
returns-then-w-eq0 c = search measures

pub returns-then-not-is_inside : goal.returns-then-not-is_inside
returns-then-not-is_inside c = search measures

pub unit_from-requires : goal.unit_from-requires
unit_from-requires c = search measures

pub returns-in_default : goal.returns-in_default
returns-in_default c = search measures

pub returns-then-most-first : goal.returns-then-most-first
returns-then-most-first c = search measures

pub returns-then-first-eq0 : goal.returns-then-first-eq0
returns-then-first-eq0 c = search measures

pub returns-then-first-ne1 : goal.returns-then-first-ne1
returns-then-first-ne1 c = search measures

pub rest_length-requires : goal.rest_length-requires
rest_length-requires c = search measures

pub returns-in_default-rest_length : goal.returns-in_default-rest_length
returns-in_default-rest_length c = search measures

pub overflow_add-result : goal.overflow_add-result
overflow_add-result c = search measures

pub returns : goal.returns
returns c = search measures

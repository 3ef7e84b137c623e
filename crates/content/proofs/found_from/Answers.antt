use Rattle.content.proofs.Founds.{founds}
use Rattle.content.proofs.found_from.Goals as goal

pub answer-requires : goal.answer-requires
answer-requires c = search founds

pub returns-then-r-eq0 : goal.returns-then-r-eq0
returns-then-r-eq0 c = search founds

pub overflow_sub-r : goal.overflow_sub-r
overflow_sub-r c = search founds

pub pass-requires : goal.pass-requires
pass-requires c = search founds

pub found_in-requires : goal.found_in-requires
found_in-requires c = search founds

pub shape_of-join : goal.shape_of-join
shape_of-join c = search founds

pub returns : goal.returns
returns c = search founds

pub returns-in-Err : goal.returns-in-Err
returns-in-Err c = search founds

use Rattle.content.proofs.Founds.{founds}
use Rattle.content.proofs.found_in.Goals as goal

pub returns-in-None-clause-value : goal.returns-in-None-clause-value
returns-in-None-clause-value c = search founds

pub returns-in-None-clause-join_after : goal.returns-in-None-clause-join_after
returns-in-None-clause-join_after c = search founds

pub returns-in-Some-clause-value : goal.returns-in-Some-clause-value
returns-in-Some-clause-value c = search founds

pub returns-in-Some-clause-join_after : goal.returns-in-Some-clause-join_after
returns-in-Some-clause-join_after c = search founds

use Rattle.content.proofs.Founds.{founds}
use Rattle.content.proofs.record.Goals as goal

pub returns-clause-said : goal.returns-clause-said
returns-clause-said c = search founds

pub returns-clause-join_after : goal.returns-clause-join_after
returns-clause-join_after c = search founds

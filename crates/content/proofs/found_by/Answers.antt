use Rattle.content.proofs.Founds.{founds}
use Rattle.content.proofs.found_by.Goals as goal

pub returns-in-Ok : goal.returns-in-Ok
returns-in-Ok c = search founds

pub returns-in-Err : goal.returns-in-Err
returns-in-Err c = search founds

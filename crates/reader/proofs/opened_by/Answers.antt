use Rattle.reader.proofs.Places.{places}
use Rattle.reader.proofs.opened_by.Goals as goal

pub returns-in-Ok : goal.returns-in-Ok
returns-in-Ok c = search places

pub returns-in-Err : goal.returns-in-Err
returns-in-Err c = search places

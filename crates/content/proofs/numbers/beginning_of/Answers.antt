use Rattle.content.proofs.Cases.{cases}
use Rattle.content.proofs.numbers.beginning_of.Goals as goal

pub returns-in-Ok : goal.returns-in-Ok
returns-in-Ok c = search cases

pub returns-in-Err : goal.returns-in-Err
returns-in-Err c = search cases

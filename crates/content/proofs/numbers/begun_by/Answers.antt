use Rattle.content.proofs.Cases.{cases}
use Rattle.content.proofs.numbers.begun_by.Goals as goal

pub returns-in-Some : goal.returns-in-Some
returns-in-Some c = search cases

pub returns-in-None : goal.returns-in-None
returns-in-None c = search cases

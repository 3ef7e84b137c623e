use Rattle.content.proofs.Cases.{cases}
use Rattle.content.proofs.numbers.record_of.Goals as goal

pub returns-in-InImage : goal.returns-in-InImage
returns-in-InImage c = search cases

pub returns-in-Joined : goal.returns-in-Joined
returns-in-Joined c = search cases

pub returns-in-Err : goal.returns-in-Err
returns-in-Err c = search cases

use Rattle.base.proofs.Rules.{ifs}
use Rattle.volume.proofs.after.files_after.Goals as goal

pub returns-then-continues : goal.returns-then-continues
returns-then-continues c = search ifs

pub returns-then-is : goal.returns-then-is
returns-then-is c = search ifs

pub returns : goal.returns
returns c = search ifs

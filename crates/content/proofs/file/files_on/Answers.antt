use Rattle.content.proofs.Files.{goings}
use Rattle.content.proofs.file.files_on.Goals as goal

pub returns-in_default : goal.returns-in_default
returns-in_default c = search goings

pub loop-left-preserved : goal.loop-left-preserved
loop-left-preserved c = search goings

pub returns : goal.returns
returns c = search goings

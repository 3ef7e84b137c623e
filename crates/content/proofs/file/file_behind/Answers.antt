use Rattle.content.proofs.Files.{follows}
use Rattle.content.proofs.file.file_behind.Goals as goal

pub returns : goal.returns
returns c = search follows

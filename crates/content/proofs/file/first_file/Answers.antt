use Rattle.content.proofs.Files.{follows}
use Rattle.content.proofs.file.first_file.Goals as goal

pub returns : goal.returns
returns c = search follows

use Rattle.writer.proofs.Files.{tails}
use Rattle.writer.proofs.file.put_end.Goals as goal

pub overflow_add-pen : goal.overflow_add-pen
overflow_add-pen c = search tails

pub returns-else-lay : goal.returns-else-lay
returns-else-lay c = search tails

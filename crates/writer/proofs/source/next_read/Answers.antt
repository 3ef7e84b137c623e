use Rattle.writer.proofs.Sources.{read}
use Rattle.writer.proofs.source.next_read.Goals as goal

pub returns : goal.returns
returns c = search read

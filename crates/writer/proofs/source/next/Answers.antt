use Rattle.writer.proofs.Sources.{listed}
use Rattle.writer.proofs.source.next.Goals as goal

pub returns-then-left-eq0 : goal.returns-then-left-eq0
returns-then-left-eq0 c = search listed

pub returns : goal.returns
returns c = search listed

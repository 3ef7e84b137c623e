use Rattle.writer.proofs.Pens.{closing}
use Rattle.writer.proofs.pen.close.Goals as goal

pub returns-then-lay : goal.returns-then-lay
returns-then-lay c = search closing

pub returns-else-lay : goal.returns-else-lay
returns-else-lay c = search closing

pub returns : goal.returns
returns c = search closing

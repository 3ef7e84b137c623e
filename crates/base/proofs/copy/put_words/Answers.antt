use Rattle.base.proofs.Copies.{chunks}
use Rattle.base.proofs.copy.put_words.Goals as goal

pub loop-i-preserved : goal.loop-i-preserved
loop-i-preserved c = search chunks

pub returns : goal.returns
returns c = search chunks

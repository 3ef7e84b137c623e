use Rattle.block.proofs.Rooms.{indicators}
use Rattle.block.proofs.room.indicator.Goals as goal

pub returns-then-begun-eq0 : goal.returns-then-begun-eq0
returns-then-begun-eq0 c = search indicators

pub returns-then-k-n : goal.returns-then-k-n
returns-then-k-n c = search indicators

pub returns-then-begun-eq0-2 : goal.returns-then-begun-eq0-2
returns-then-begun-eq0-2 c = search indicators

pub returns : goal.returns
returns c = search indicators

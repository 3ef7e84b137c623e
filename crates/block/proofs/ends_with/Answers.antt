use Rattle.block.proofs.Helds.{endings}
use Rattle.block.proofs.ends_with.Goals as goal

-- src/lib.rt:576:9
pub returns-then-digit-eq49 : goal.returns-then-digit-eq49
returns-then-digit-eq49 c = search endings

-- src/lib.rt:579:9
pub returns-then-digit-eq50 : goal.returns-then-digit-eq50
returns-then-digit-eq50 c = search endings

-- src/lib.rt:572:1
pub returns : goal.returns
returns c = search endings

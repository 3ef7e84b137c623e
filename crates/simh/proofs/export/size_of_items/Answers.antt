use Rattle.simh.proofs.Sizing.{sizes}
use Rattle.simh.proofs.export.size_of_items.Goals as goal

pub loop-at-init : goal.loop-at-init
loop-at-init c = search sizes

pub returns-then-files-eq-MOST_REELS : goal.returns-then-files-eq-MOST_REELS
returns-then-files-eq-MOST_REELS c = search sizes

pub overflow_add-len : goal.overflow_add-len
overflow_add-len c = search sizes

pub loop-at-preserved-in-Block : goal.loop-at-preserved-in-Block
loop-at-preserved-in-Block c = search sizes

pub loop-at-preserved-in-Mark : goal.loop-at-preserved-in-Mark
loop-at-preserved-in-Mark c = search sizes

pub loop-at-preserved : goal.loop-at-preserved
loop-at-preserved c = search sizes

pub returns-in-Broken : goal.returns-in-Broken
returns-in-Broken c = search sizes

pub returns-then-closed : goal.returns-then-closed
returns-then-closed c = search sizes

pub returns : goal.returns
returns c = search sizes

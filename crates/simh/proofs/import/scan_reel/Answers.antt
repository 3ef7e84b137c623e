use Rattle.simh.proofs.Scanning.{scans}
use Rattle.simh.proofs.import.scan_reel.Goals as goal

pub span-at-requires : goal.span-at-requires
span-at-requires c = search scans

pub overflow_add-at : goal.overflow_add-at
overflow_add-at c = search scans

pub overflow_add-len-in-Block : goal.overflow_add-len-in-Block
overflow_add-len-in-Block c = search scans

pub loop-at-preserved-in-Block : goal.loop-at-preserved-in-Block
loop-at-preserved-in-Block c = search scans

pub loop-at-preserved : goal.loop-at-preserved
loop-at-preserved c = search scans

pub returns-then-at-reel : goal.returns-then-at-reel
returns-then-at-reel c = search scans

pub returns-in-ReelEnd : goal.returns-in-ReelEnd
returns-in-ReelEnd c = search scans

pub returns-in-Broken : goal.returns-in-Broken
returns-in-Broken c = search scans

pub returns : goal.returns
returns c = search scans

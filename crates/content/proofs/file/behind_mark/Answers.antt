use Rattle.content.proofs.Files.{markings}
use Rattle.content.proofs.file.behind_mark.Goals as goal

pub overflow_add-at : goal.overflow_add-at
overflow_add-at c = search markings

pub overflow_add-at-in-Block : goal.overflow_add-at-in-Block
overflow_add-at-in-Block c = search markings

pub loop-n-smaller : goal.loop-n-smaller
loop-n-smaller c = search markings

pub loop-n-preserved : goal.loop-n-preserved
loop-n-preserved c = search markings

pub overflow_add-result : goal.overflow_add-result
overflow_add-result c = search markings

pub returns-in-Mark : goal.returns-in-Mark
returns-in-Mark c = search markings

pub returns-in-ReelEnd : goal.returns-in-ReelEnd
returns-in-ReelEnd c = search markings

pub returns-in-Broken : goal.returns-in-Broken
returns-in-Broken c = search markings

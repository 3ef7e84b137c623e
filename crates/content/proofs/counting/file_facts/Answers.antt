use Rattle.content.proofs.Numbered.{counts}
use Rattle.content.proofs.counting.file_facts.Goals as goal

pub overflow_add-records : goal.overflow_add-records
overflow_add-records c = search counts

pub overflow_sub-bytes : goal.overflow_sub-bytes
overflow_sub-bytes c = search counts

pub overflow_add-bytes : goal.overflow_add-bytes
overflow_add-bytes c = search counts

pub overflow_add-v : goal.overflow_add-v
overflow_add-v c = search counts

pub overflow_sub-v : goal.overflow_sub-v
overflow_sub-v c = search counts

pub loop-w-smaller-then-k-ne0 : goal.loop-w-smaller-then-k-ne0
loop-w-smaller-then-k-ne0 c = search counts

pub loop-w-preserved-then-k-ne0 : goal.loop-w-preserved-then-k-ne0
loop-w-preserved-then-k-ne0 c = search counts

pub returns-in_default : goal.returns-in_default
returns-in_default c = search counts

pub overflow_add-records-in-Whole : goal.overflow_add-records-in-Whole
overflow_add-records-in-Whole c = search counts

pub overflow_add-bytes-in-Whole : goal.overflow_add-bytes-in-Whole
overflow_add-bytes-in-Whole c = search counts

pub loop-w-smaller-in-Whole : goal.loop-w-smaller-in-Whole
loop-w-smaller-in-Whole c = search counts

pub loop-w-preserved-in-Whole : goal.loop-w-preserved-in-Whole
loop-w-preserved-in-Whole c = search counts

pub overflow_add-records-in-Split : goal.overflow_add-records-in-Split
overflow_add-records-in-Split c = search counts

pub overflow_add-bytes-in-Split : goal.overflow_add-bytes-in-Split
overflow_add-bytes-in-Split c = search counts

pub loop-w-smaller : goal.loop-w-smaller
loop-w-smaller c = search counts

pub loop-w-preserved : goal.loop-w-preserved
loop-w-preserved c = search counts

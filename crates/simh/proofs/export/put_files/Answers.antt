use Rattle.simh.proofs.Laying.{lays}
use Rattle.simh.proofs.export.put_files.Goals as goal

pub loop-at-init : goal.loop-at-init
loop-at-init c = search lays

pub overflow_add-end : goal.overflow_add-end
overflow_add-end c = search lays

pub slice_bounds-put_record-end : goal.slice_bounds-put_record-end
slice_bounds-put_record-end c = search lays

pub put_record-requires-clause-s_in_bounds : goal.put_record-requires-clause-s_in_bounds
put_record-requires-clause-s_in_bounds c = search lays

pub overflow_add-to : goal.overflow_add-to
overflow_add-to c = search lays

pub loop-at-preserved-in-Block : goal.loop-at-preserved-in-Block
loop-at-preserved-in-Block c = search lays

pub put_four-requires-clause-at_in_bounds : goal.put_four-requires-clause-at_in_bounds
put_four-requires-clause-at_in_bounds c = search lays

pub loop-at-preserved-in-Mark : goal.loop-at-preserved-in-Mark
loop-at-preserved-in-Mark c = search lays

pub bounds-lengths-file : goal.bounds-lengths-file
bounds-lengths-file c = search lays

pub loop-at-preserved : goal.loop-at-preserved
loop-at-preserved c = search lays

pub put_four-requires-in-ReelEnd-clause-at_in_bounds : goal.put_four-requires-in-ReelEnd-clause-at_in_bounds
put_four-requires-in-ReelEnd-clause-at_in_bounds c = search lays

use Rattle.simh.proofs.Measuring.{measured_torn, measures}
use Rattle.simh.proofs.import.measure_reels.Goals as goal

pub loop-n-init : goal.loop-n-init
loop-n-init c = search measures

pub overflow_add-end : goal.overflow_add-end
overflow_add-end c = search measures

pub slice_bounds-scan_reel-end : goal.slice_bounds-scan_reel-end
slice_bounds-scan_reel-end c = search measures

pub returns-in-Err : goal.returns-in-Err
returns-in-Err c = measured_torn _ _ _ _ _ _ c.loop-n.invariant c.loop-n-test.true _ c.in-Err.ensures

pub loop-n-preserved : goal.loop-n-preserved
loop-n-preserved c = search (measures, c.in-Ok.ensures)

pub returns : goal.returns
returns c = search measures

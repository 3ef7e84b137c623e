use Rattle.label.proofs.Setting.{counting}
use Rattle.label.proofs.made.with_number.Goals as goal

pub loop-i-init : goal.loop-i-init
loop-i-init c = search counting

pub overflow_sub-i : goal.overflow_sub-i
overflow_sub-i c = search counting

pub overflow_cast-made : goal.overflow_cast-made
overflow_cast-made c = search counting

pub overflow_add-made : goal.overflow_add-made
overflow_add-made c = search counting

pub overflow_add-made-in-loop-i : goal.overflow_add-made-in-loop-i
overflow_add-made-in-loop-i c = search counting

pub bounds-made-at : goal.bounds-made-at
bounds-made-at c = search counting

pub loop-i-smaller : goal.loop-i-smaller
loop-i-smaller c = search counting

pub loop-i-preserved : goal.loop-i-preserved
loop-i-preserved c = search counting

pub returns : goal.returns
returns c = search counting

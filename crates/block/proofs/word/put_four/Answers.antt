use native.Mathlib.Omega.{arith}
use lib.ListN.{length-set}
use Rattle.block.proofs.Rooms.{digitwise}
use Rattle.block.proofs.word.put_four.Goals as goal

pub bounds-d-0 : goal.bounds-d-0
bounds-d-0 c = search digitwise

pub bounds-out-at : goal.bounds-out-at
bounds-out-at c = search digitwise

pub bounds-d-1 : goal.bounds-d-1
bounds-d-1 c = search digitwise

pub overflow_add-out : goal.overflow_add-out
overflow_add-out c = search digitwise

pub bounds-out-at-2 : goal.bounds-out-at-2
bounds-out-at-2 c = simp length-set (omega arith)

pub bounds-d-2 : goal.bounds-d-2
bounds-d-2 c = search digitwise

pub overflow_add-out-2 : goal.overflow_add-out-2
overflow_add-out-2 c = search digitwise

pub bounds-out-at-3 : goal.bounds-out-at-3
bounds-out-at-3 c = simp length-set (omega arith)

pub bounds-d-3 : goal.bounds-d-3
bounds-d-3 c = search digitwise

pub overflow_add-out-3 : goal.overflow_add-out-3
overflow_add-out-3 c = search digitwise

pub bounds-out-at-4 : goal.bounds-out-at-4
bounds-out-at-4 c = simp length-set (omega arith)

pub shape_of-out : goal.shape_of-out
shape_of-out c = search digitwise

pub returns : goal.returns
returns c = search digitwise

use Rattle.block.proofs.Counts.{tallies}
use Rattle.block.proofs.fixed_held.Goals as goal

pub loop-record_length-init : goal.loop-record_length-init
loop-record_length-init c = search tallies

pub fixed_length-n-requires : goal.fixed_length-n-requires
fixed_length-n-requires c = search tallies

pub held_up_to-requires : goal.held_up_to-requires
held_up_to-requires c = search tallies

pub returns-then-n-eq0 : goal.returns-then-n-eq0
returns-then-n-eq0 c = search tallies

pub overflow_add-units : goal.overflow_add-units
overflow_add-units c = search tallies

pub overflow_add-at : goal.overflow_add-at
overflow_add-at c = search tallies

pub loop-record_length-smaller : goal.loop-record_length-smaller
loop-record_length-smaller c = search tallies

pub loop-record_length-preserved : goal.loop-record_length-preserved
loop-record_length-preserved c = search tallies

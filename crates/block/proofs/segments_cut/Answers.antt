use Rattle.block.proofs.Loops.{cuttings}
use Rattle.block.proofs.segments_cut.Goals as goal

pub loop-record_length-init : goal.loop-record_length-init
loop-record_length-init c = search cuttings

pub segment_length-n-requires : goal.segment_length-n-requires
segment_length-n-requires c = search cuttings

pub returns-then-at-from : goal.returns-then-at-from
returns-then-at-from c = search cuttings

pub padding_from-requires : goal.padding_from-requires
padding_from-requires c = search cuttings

pub returns-then-n-eq0 : goal.returns-then-n-eq0
returns-then-n-eq0 c = search cuttings

pub overflow_add-at : goal.overflow_add-at
overflow_add-at c = search cuttings

pub loop-record_length-smaller : goal.loop-record_length-smaller
loop-record_length-smaller c = search cuttings

pub loop-record_length-preserved : goal.loop-record_length-preserved
loop-record_length-preserved c = search cuttings

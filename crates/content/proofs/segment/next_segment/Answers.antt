use Rattle.content.proofs.Units.{segments}
use Rattle.content.proofs.segment.next_segment.Goals as goal

pub unit_next-requires : goal.unit_next-requires
unit_next-requires c = search segments

pub returns-then-is_inside : goal.returns-then-is_inside
returns-then-is_inside c = search segments

pub returns : goal.returns
returns c = search segments

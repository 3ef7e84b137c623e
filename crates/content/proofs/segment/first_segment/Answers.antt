use Rattle.content.proofs.Units.{segments}
use Rattle.content.proofs.segment.first_segment.Goals as goal

pub unit_from-requires : goal.unit_from-requires
unit_from-requires c = search segments

pub returns-then-is_inside : goal.returns-then-is_inside
returns-then-is_inside c = search segments

pub returns : goal.returns
returns c = search segments

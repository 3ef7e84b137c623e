use Rattle.volume.proofs.Faults.{pieces}
use Rattle.volume.proofs.among.is_among.Goals as goal

pub returns-then-is_name_at : goal.returns-then-is_name_at
returns-then-is_name_at c = search pieces

pub loop-i-preserved : goal.loop-i-preserved
loop-i-preserved c = search pieces

pub returns : goal.returns
returns c = search pieces

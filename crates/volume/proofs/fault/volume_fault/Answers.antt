use Rattle.base.specs.Answer.{fault}
use Rattle.volume.proofs.Faults.{volumes}
use Rattle.volume.proofs.fault.volume_fault.Goals as goal

pub returns-then-volumes-ge-REELS : goal.returns-then-volumes-ge-REELS
unfolding fault
returns-then-volumes-ge-REELS c = search volumes

pub volume_of-requires : goal.volume_of-requires
volume_of-requires c = search volumes

pub is_among-requires : goal.is_among-requires
is_among-requires c = search volumes

pub returns-then-is_among : goal.returns-then-is_among
unfolding fault
returns-then-is_among c = search volumes

pub returns : goal.returns
unfolding fault
returns c = search volumes

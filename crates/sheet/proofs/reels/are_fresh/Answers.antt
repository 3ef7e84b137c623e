use Rattle.sheet.proofs.Names.{freshes}
use Rattle.sheet.proofs.reels.are_fresh.Goals as goal

pub loop-i-init : goal.loop-i-init
loop-i-init c = search freshes

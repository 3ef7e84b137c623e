use Rattle.simh.proofs.Storing.{fills}
use Rattle.simh.proofs.import.put_reel.Goals as goal

pub loop-at-init : goal.loop-at-init
loop-at-init c = search fills

pub loop-at-preserved-then-n-eq0 : goal.loop-at-preserved-then-n-eq0
loop-at-preserved-then-n-eq0 c = search fills

pub loop-at-preserved-then-n-eq-END_WORD : goal.loop-at-preserved-then-n-eq-END_WORD
loop-at-preserved-then-n-eq-END_WORD c = search fills

pub span-at-requires : goal.span-at-requires
span-at-requires c = search fills

pub loop-at-preserved : goal.loop-at-preserved
loop-at-preserved c = search fills

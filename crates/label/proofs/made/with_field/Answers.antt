use Rattle.label.proofs.Setting.{setting}
use Rattle.label.proofs.made.with_field.Goals as goal

pub loop-i-init : goal.loop-i-init
loop-i-init c = search setting

pub loop-i-preserved : goal.loop-i-preserved
loop-i-preserved c = search setting

pub returns : goal.returns
returns c = search setting

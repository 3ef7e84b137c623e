use Rattle.label.proofs.Filled.{filling}
use Rattle.label.proofs.field.all_are.Goals as goal

pub loop-x-init : goal.loop-x-init
loop-x-init c = search filling

pub returns-then-x-b : goal.returns-then-x-b
returns-then-x-b c = search filling

pub loop-x-preserved : goal.loop-x-preserved
loop-x-preserved c = search filling

pub returns : goal.returns
returns c = search filling

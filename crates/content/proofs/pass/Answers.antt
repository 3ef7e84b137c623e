use Rattle.content.proofs.Founds.{passes}
use Rattle.content.proofs.pass.Goals as goal

pub returns-in_default : goal.returns-in_default
returns-in_default c = search passes

pub loop-left-preserved-in-Whole : goal.loop-left-preserved-in-Whole
loop-left-preserved-in-Whole c = search passes

pub loop-left-preserved : goal.loop-left-preserved
loop-left-preserved c = search passes

pub returns : goal.returns
returns c = search passes

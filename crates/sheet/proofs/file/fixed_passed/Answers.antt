use Rattle.sheet.proofs.Records.{cuts}
use Rattle.sheet.proofs.file.fixed_passed.Goals as goal

pub loop-n-preserved : goal.loop-n-preserved
loop-n-preserved c = search cuts

use Rattle.sheet.proofs.Records.{cuts}
use Rattle.sheet.proofs.file.lengths_passed.Goals as goal

pub loop-length-preserved : goal.loop-length-preserved
loop-length-preserved c = search cuts

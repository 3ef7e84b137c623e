use Rattle.label.proofs.Composed.{composed}
use Rattle.label.specs.Judged.{label_fault}
use Rattle.label.proofs.judged.label_fault.Goals as goal

pub returns : goal.returns
unfolding label_fault
returns c = search composed

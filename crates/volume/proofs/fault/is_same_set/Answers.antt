use Rattle.volume.proofs.Composed.{composed}
use Rattle.volume.proofs.Faults.{is_else}
use Rattle.base.proofs.Rules.{ifs}
use Rattle.volume.proofs.fault.is_same_set.Goals as goal

pub returns-then-files-eq0 : goal.returns-then-files-eq0
returns-then-files-eq0 c = search ifs

pub returns : goal.returns
returns c = is_else _ _ _ _ (search ifs) (search composed)

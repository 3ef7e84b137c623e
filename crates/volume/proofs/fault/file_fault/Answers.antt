use Rattle.volume.specs.Fault.{file_fault}
use Rattle.base.proofs.Rules.{ifs}
use Rattle.base.specs.Answer.{fault}
use Rattle.volume.proofs.fault.file_fault.Goals as goal

pub returns-then-files-ge-FILES : goal.returns-then-files-ge-FILES
unfolding file_fault fault
returns-then-files-ge-FILES c = search ifs

pub returns : goal.returns
unfolding file_fault fault
returns c = search ifs

use Rattle.content.proofs.Files.{Going}
use Rattle.content.proofs.file.files_on.Given as goal

abbrev pub invariant-loop-left : goal.invariant-loop-left
invariant-loop-left l = Going l.image l.initial.f l.files l.left l.f

abbrev pub decreases-loop-left : goal.decreases-loop-left
decreases-loop-left l = l.left

use Rattle.label.proofs.Setting.{DigitsSet}
use Rattle.label.proofs.made.with_number.Given as goal

abbrev pub invariant-loop-i : goal.invariant-loop-i
invariant-loop-i l = DigitsSet l.initial.made l.at l.w l.n l.made l.left l.i

abbrev pub decreases-loop-i : goal.decreases-loop-i
decreases-loop-i l = l.i

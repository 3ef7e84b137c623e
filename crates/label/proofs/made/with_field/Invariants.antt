use Rattle.label.proofs.Setting.{Setting}
use Rattle.label.proofs.made.with_field.Given as goal

abbrev pub invariant-loop-i : goal.invariant-loop-i
invariant-loop-i l = Setting l.initial.made l.at l.w l.f l.made l.i

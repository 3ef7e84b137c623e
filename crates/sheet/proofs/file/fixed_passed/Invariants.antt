use Rattle.sheet.proofs.Records.{Cut}
use Rattle.sheet.proofs.file.fixed_passed.Given as goal

abbrev pub invariant-loop-n : goal.invariant-loop-n
invariant-loop-n l = Cut 70 l.record_length l.lengths l.bytes l.from l.at l.n-index

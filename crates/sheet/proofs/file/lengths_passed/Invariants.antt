use Rattle.sheet.proofs.Records.{Cut}
use Rattle.sheet.proofs.file.lengths_passed.Given as goal

abbrev pub invariant-loop-length : goal.invariant-loop-length
invariant-loop-length l = Cut l.format l.record_length l.lengths l.bytes l.from l.at l.length-index

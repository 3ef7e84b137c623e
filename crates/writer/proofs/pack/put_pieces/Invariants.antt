use Rattle.writer.proofs.PackLoops.{Packing, turns_left}
use lib.ListN.{length}
use Rattle.writer.specs.Code.Pass.{job_of}
use Rattle.writer.proofs.pack.put_pieces.Given as goal

abbrev pub invariant-loop-s : goal.invariant-loop-s
invariant-loop-s l = Packing l.lay l.f l.b (job_of l.job) l.piece l.initial.s l.initial.out l.out l.s

abbrev pub decreases-loop-s : goal.decreases-loop-s
decreases-loop-s l = turns_left l.f l.b (length l.piece) l.s

use Prim.Native.Nat.{◌-◌}
use lib.ListN.{length}
use Rattle.writer.specs.Code.Pass.{job_of}
use Rattle.writer.proofs.Splits.{Splits}
use Rattle.writer.proofs.split.put_split.Given as goal

abbrev pub invariant-loop-c : goal.invariant-loop-c
invariant-loop-c l = Splits l.lay l.f l.b (job_of l.job) l.bytes l.c l.initial.s.pen l.initial.out l.g l.s l.out

abbrev pub decreases-loop-c : goal.decreases-loop-c
decreases-loop-c l = length l.bytes - l.g.at

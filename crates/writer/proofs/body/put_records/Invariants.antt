use Rattle.writer.proofs.Bodies.{Writing}
use lib.ListN.{length}
use Rattle.writer.specs.Code.Pass.{job_of}
use Rattle.writer.specs.Code.Source.{records_of}
use Rattle.writer.proofs.body.put_records.Given as goal

abbrev pub invariant-loop-r : goal.invariant-loop-r
invariant-loop-r l =
    Writing l.lay l.form.format l.form.block (job_of l.job) l.lengths l.bytes l.initial.c l.initial.pen l.initial.out l.out l.pen l.c

abbrev pub decreases-loop-r : goal.decreases-loop-r
decreases-loop-r l = length (records_of l.lengths l.bytes l.c)

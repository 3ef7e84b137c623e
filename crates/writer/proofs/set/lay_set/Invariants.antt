use Rattle.writer.specs.Code.Sets.{origin_in, task_of}
use Rattle.writer.proofs.Filing.{files_on, Along}
use Rattle.writer.proofs.set.lay_set.Given as goal

abbrev pub invariant-loop-g : goal.invariant-loop-g
invariant-loop-g l =
    Along l.lay (task_of l.input l.labels l.rooms) l.initial.g l.initial.pen l.initial.out l.out (record { place = l.g; pen = l.pen })

abbrev pub decreases-loop-g : goal.decreases-loop-g
decreases-loop-g l = files_on (origin_in l.input) l.input.bytes.now l.g

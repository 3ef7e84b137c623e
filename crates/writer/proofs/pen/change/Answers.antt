use Rattle.writer.proofs.ReelChanges.{changing}
use Rattle.writer.proofs.pen.change.Goals as goal

pub returns-then-rooms-next : goal.returns-then-rooms-next
returns-then-rooms-next c = search changing

pub returns-else-lay : goal.returns-else-lay
returns-else-lay c = search changing

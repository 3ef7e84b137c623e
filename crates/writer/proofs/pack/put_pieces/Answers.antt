use Rattle.writer.proofs.PackLoops.{packing}
use Rattle.writer.proofs.pack.put_pieces.Goals as goal

pub loop-s-smaller : goal.loop-s-smaller
loop-s-smaller c = search packing

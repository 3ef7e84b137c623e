use Rattle.block.proofs.Padding.{Looked}
use Rattle.block.proofs.chunk_is_padding.Given as goal

abbrev pub invariant-loop-b : goal.invariant-loop-b
invariant-loop-b l = Looked 94 l.s l.all l.b-index

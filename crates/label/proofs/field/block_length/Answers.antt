use Rattle.label.proofs.Composed.{composed}
use Rattle.label.specs.Field.{block_length_of}
use Rattle.label.proofs.field.block_length.Goals as goal

pub returns : goal.returns
unfolding block_length_of
returns c = search composed

use Rattle.label.proofs.Composed.{composed}
use Rattle.label.specs.Field.{format_of}
use Rattle.label.proofs.field.format_of.Goals as goal

pub returns : goal.returns
unfolding format_of
returns c = search composed

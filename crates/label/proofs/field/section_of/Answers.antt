use Rattle.label.proofs.Composed.{composed}
use Rattle.label.specs.Field.{section_of}
use Rattle.label.proofs.field.section_of.Goals as goal

pub returns : goal.returns
unfolding section_of
returns c = search composed

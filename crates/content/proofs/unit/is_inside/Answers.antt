use Rattle.content.proofs.Units.{insides}
use Rattle.content.proofs.unit.is_inside.Goals as goal

pub returns-then-image-at : goal.returns-then-image-at
returns-then-image-at c = search insides

pub returns : goal.returns
returns c = search insides

use Rattle.image.specs.declared.Shape.{Shape}
use Rattle.image.proofs.Items.{by_word}
use Rattle.image.proofs.shape_at.Goals as goal

pub returns : goal.returns
returns c = by_word (λ (p : Shape). p) _ _ _ c.at_word.ensures.cut c.at_word.ensures.led

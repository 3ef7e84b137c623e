use Rattle.image.specs.Item.{block_length}
use Rattle.image.proofs.Items.{by_word}
use Rattle.image.proofs.block_length_at.Goals as goal

pub returns : goal.returns
unfolding block_length
returns c = by_word block_length _ _ _ c.at_word.ensures.cut c.at_word.ensures.led

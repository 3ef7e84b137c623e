use Rattle.image.proofs.Items.{word_low, word_whole}
use Rattle.image.proofs.at_word.Goals as goal

pub returns-then-s-at-eq0-clause-led : goal.returns-then-s-at-eq0-clause-led
returns-then-s-at-eq0-clause-led g c =
    λ _. rw (word_low _ _ _ _ c.if-s-at-eq0.true c.wide.ensures.0 c.wide-2.ensures.0) c.led.ensures

pub returns-clause-led : goal.returns-clause-led
returns-clause-led g c =
    λ _. rw (word_whole _ _ _ _ _ c.wide-3.ensures.0 c.wide.ensures.0 c.wide-2.ensures.0) c.led-2.ensures

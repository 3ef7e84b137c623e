use Rattle.base.proofs.Copies.{chunked_over}
use Rattle.base.proofs.copy.copy_many.Goals as goal

pub returns : goal.returns
returns c = chunked_over _ _ _ _ _ _ c.put_first-from.ensures c.put_words.ensures

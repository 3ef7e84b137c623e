use Rattle.content.proofs.Founds.{begins}
use Rattle.content.proofs.begin.Goals as goal

pub returns-then-v-ne0 : goal.returns-then-v-ne0
returns-then-v-ne0 c = search begins

pub returns : goal.returns
returns c = search begins

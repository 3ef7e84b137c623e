use Rattle.base.specs.Answer.{verdict}
use Rattle.base.proofs.Rules.{ifs}
use Rattle.content.proofs.answer.Goals as goal

pub returns : goal.returns
unfolding verdict
returns c = search ifs

use Rattle.base.proofs.Rules.{ifs}
use Rattle.label.specs.Name.{numbered}
use Rattle.label.proofs.name.numbered.Goals as goal

pub returns-then-d-lt49 : goal.returns-then-d-lt49
unfolding numbered
returns-then-d-lt49 c = search ifs

pub returns-then-d-gt57 : goal.returns-then-d-gt57
unfolding numbered
returns-then-d-gt57 c = search ifs

pub returns : goal.returns
unfolding numbered
returns c = search ifs

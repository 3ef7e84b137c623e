use Rattle.base.proofs.Rules.{ifs}
use Rattle.label.specs.Judged.{agree_at}
use Rattle.label.proofs.rows.agree_at.Goals as goal

pub returns-then-n-scope : goal.returns-then-n-scope
unfolding agree_at
returns-then-n-scope c = search ifs

pub returns : goal.returns
unfolding agree_at
returns c = search ifs

use Rattle.base.proofs.Rules.{ifs}
use Rattle.label.specs.Judged.{ends_before}
use Rattle.label.proofs.rows.ends_before.Goals as goal

pub returns : goal.returns
unfolding ends_before
returns c = search ifs

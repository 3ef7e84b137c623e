use Rattle.base.proofs.Rules.{ifs}
use Rattle.charset.specs.Date.{is_century}
use Rattle.charset.proofs.is_century.Goals as goal

pub returns-then-b-eq32 : goal.returns-then-b-eq32
unfolding is_century
returns-then-b-eq32 c = search ifs

pub returns : goal.returns
unfolding is_century
returns c = search ifs

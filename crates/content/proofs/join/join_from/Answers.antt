use Rattle.content.proofs.Joins.{joins_from}
use Rattle.content.proofs.join.join_from.Goals as goal

pub returns : goal.returns
returns c = search joins_from

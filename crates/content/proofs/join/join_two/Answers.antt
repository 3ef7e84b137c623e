use Rattle.content.proofs.Joins.{joins_two}
use Rattle.content.proofs.join.join_two.Goals as goal

pub returns : goal.returns
returns c = search joins_two

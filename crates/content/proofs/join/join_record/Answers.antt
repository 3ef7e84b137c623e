use Rattle.content.proofs.Joins.{joins}
use Rattle.content.proofs.join.join_record.Goals as goal

pub join_from-requires-clause-n_in_bounds : goal.join_from-requires-clause-n_in_bounds
join_from-requires-clause-n_in_bounds c = search joins

pub join_from-requires-clause-rest_fits : goal.join_from-requires-clause-rest_fits
join_from-requires-clause-rest_fits c = search joins

pub returns-in-Some : goal.returns-in-Some
returns-in-Some c = search joins

pub returns-in_default : goal.returns-in_default
returns-in_default c = search joins

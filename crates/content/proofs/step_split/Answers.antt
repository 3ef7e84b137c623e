use Rattle.content.proofs.Stepping.{step_splits}
use Rattle.content.proofs.step_split.Goals as goal

pub step_begun-requires : goal.step_begun-requires
step_begun-requires c = search step_splits

pub returns-clause-value : goal.returns-clause-value
returns-clause-value c = search step_splits

pub returns-clause-join_after : goal.returns-clause-join_after
returns-clause-join_after c = search step_splits

use Rattle.content.proofs.Stepping.{steps}
use Rattle.content.proofs.Walk.step.Goals as goal

pub overflow_add-v : goal.overflow_add-v
overflow_add-v c = search steps

pub overflow_sub-v : goal.overflow_sub-v
overflow_sub-v c = search steps

pub overflow_add-result : goal.overflow_add-result
overflow_add-result c = search steps

pub overflow_sub-result : goal.overflow_sub-result
overflow_sub-result c = search steps

pub returns-then-k-ne0-clause-said : goal.returns-then-k-ne0-clause-said
returns-then-k-ne0-clause-said c = search steps

pub returns-then-k-ne0-clause-join_after : goal.returns-then-k-ne0-clause-join_after
returns-then-k-ne0-clause-join_after c = search steps

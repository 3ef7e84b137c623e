use Rattle.content.proofs.Pairs.{steps_two}
use Rattle.content.proofs.step_two.Goals as goal

pub overflow_sub-n : goal.overflow_sub-n
overflow_sub-n c = search steps_two

pub overflow_sub-m : goal.overflow_sub-m
overflow_sub-m c = search steps_two

pub overflow_add-total : goal.overflow_add-total
overflow_add-total c = search steps_two

pub returns-then-join-total-clause-value : goal.returns-then-join-total-clause-value
returns-then-join-total-clause-value c = search steps_two

pub returns-then-join-total-clause-join_after : goal.returns-then-join-total-clause-join_after
returns-then-join-total-clause-join_after c = search steps_two

pub overflow_add-v : goal.overflow_add-v
overflow_add-v c = search steps_two

pub overflow_add-h : goal.overflow_add-h
overflow_add-h c = search steps_two

pub join_two-requires-clause-n_in_bounds : goal.join_two-requires-clause-n_in_bounds
join_two-requires-clause-n_in_bounds c = search steps_two

pub join_two-requires-clause-m_in_bounds : goal.join_two-requires-clause-m_in_bounds
join_two-requires-clause-m_in_bounds c = search steps_two

pub overflow_add-h-2 : goal.overflow_add-h-2
overflow_add-h-2 c = search steps_two

pub overflow_sub-h : goal.overflow_sub-h
overflow_sub-h c = search steps_two

pub returns-clause-value : goal.returns-clause-value
returns-clause-value c = search steps_two

pub returns-clause-join_after : goal.returns-clause-join_after
returns-clause-join_after c = search steps_two

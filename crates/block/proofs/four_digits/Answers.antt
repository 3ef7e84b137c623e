use Rattle.block.proofs.Places.{four}
use Rattle.block.proofs.four_digits.Goals as goal

pub is_digit-requires : goal.is_digit-requires
is_digit-requires c = search four

pub is_digit-requires-then-is_digit : goal.is_digit-requires-then-is_digit
is_digit-requires-then-is_digit c = search four

pub is_digit-requires-then-is_digit-2 : goal.is_digit-requires-then-is_digit-2
is_digit-requires-then-is_digit-2 c = search four

pub is_digit-requires-then-is_digit-3 : goal.is_digit-requires-then-is_digit-3
is_digit-requires-then-is_digit-3 c = search four

pub code_of-requires : goal.code_of-requires
code_of-requires c = search four

pub overflow_mul-high : goal.overflow_mul-high
overflow_mul-high c = search four

pub code_of-requires-then-is_digit-4 : goal.code_of-requires-then-is_digit-4
code_of-requires-then-is_digit-4 c = search four

pub overflow_mul-high-then-is_digit-4 : goal.overflow_mul-high-then-is_digit-4
overflow_mul-high-then-is_digit-4 c = search four

pub overflow_add-high : goal.overflow_add-high
overflow_add-high c = search four

pub code_of-requires-then-is_digit-4-2 : goal.code_of-requires-then-is_digit-4-2
code_of-requires-then-is_digit-4-2 c = search four

pub overflow_mul-sum : goal.overflow_mul-sum
overflow_mul-sum c = search four

pub value_of-requires : goal.value_of-requires
value_of-requires c = search four

pub overflow_add-sum : goal.overflow_add-sum
overflow_add-sum c = search four

pub overflow_add-sum-then-is_digit-4 : goal.overflow_add-sum-then-is_digit-4
overflow_add-sum-then-is_digit-4 c = search four

pub overflow_sub-result : goal.overflow_sub-result
overflow_sub-result c = search four

pub returns-then-is_digit-4 : goal.returns-then-is_digit-4
returns-then-is_digit-4 c = search four

pub returns-else-is_digit-4 : goal.returns-else-is_digit-4
returns-else-is_digit-4 c = search four

pub returns-else-is_digit-3 : goal.returns-else-is_digit-3
returns-else-is_digit-3 c = search four

pub returns-else-is_digit-2 : goal.returns-else-is_digit-2
returns-else-is_digit-2 c = search four

pub returns-else-is_digit : goal.returns-else-is_digit
returns-else-is_digit c = search four

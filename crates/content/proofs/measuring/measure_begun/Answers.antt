use Rattle.content.proofs.Stepping.{measures_begun}
use Rattle.content.proofs.measuring.measure_begun.Goals as goal

pub overflow_sub-n : goal.overflow_sub-n
overflow_sub-n c = search measures_begun

pub overflow_add-v : goal.overflow_add-v
overflow_add-v c = search measures_begun

pub overflow_sub-v : goal.overflow_sub-v
overflow_sub-v c = search measures_begun

pub overflow_sub-most : goal.overflow_sub-most
overflow_sub-most c = search measures_begun

pub rest_length-requires : goal.rest_length-requires
rest_length-requires c = search measures_begun

pub returns-in_default : goal.returns-in_default
returns-in_default c = search measures_begun

pub overflow_add-result : goal.overflow_add-result
overflow_add-result c = search measures_begun

pub returns : goal.returns
returns c = search measures_begun

use Rattle.base.proofs.Rules.{ifs}
use Rattle.block.specs.Unit.{word_of}
use Rattle.block.proofs.word_of.Goals as goal

pub overflow_cast-t-2 : goal.overflow_cast-t-2
overflow_cast-t-2 c = search ifs

pub returns-then-format : goal.returns-then-format
unfolding word_of
returns-then-format c = search ifs

pub overflow_cast-t-2-2 : goal.overflow_cast-t-2-2
overflow_cast-t-2-2 c = search ifs

pub returns-then-format-2 : goal.returns-then-format-2
unfolding word_of
returns-then-format-2 c = search ifs

pub returns : goal.returns
unfolding word_of
returns c = search ifs

use Rattle.base.specs.If.{if_b}
use Rattle.base.specs.Digits.{is_digit}
use Rattle.charset.specs.Class.{is_a, class_of}
use Rattle.charset.proofs.Table.{right}
use Rattle.charset.proofs.class_table.Goals as goal

-- The table of the code is what `class_of` says of the 256 bytes, which is computed here.
pub returns : goal.returns
unfolding class_of is_a is_digit if_b
returns c = right

use Rattle.content.proofs.Wholes.{numbers}
use Rattle.content.proofs.measuring.whole_at.Goals as goal

pub returns-then-record_length-eq0 : goal.returns-then-record_length-eq0
returns-then-record_length-eq0 c = search numbers

pub returns-then-image-at : goal.returns-then-image-at
returns-then-image-at c = search numbers

pub returns-then-image-at-2 : goal.returns-then-image-at-2
returns-then-image-at-2 c = search numbers

pub returns-then-format-ge256 : goal.returns-then-format-ge256
returns-then-format-ge256 c = search numbers

pub returns : goal.returns
returns c = search numbers

use Rattle.content.proofs.Segments.{segment_numbers}
use Rattle.content.proofs.measuring.segment_in.Goals as goal

pub returns-then-before-ne0 : goal.returns-then-before-ne0
returns-then-before-ne0 c = search segment_numbers

pub returns-then-format : goal.returns-then-format
returns-then-format c = search segment_numbers

pub returns-then-image-at : goal.returns-then-image-at
returns-then-image-at c = search segment_numbers

pub returns-then-image-at-2 : goal.returns-then-image-at-2
returns-then-image-at-2 c = search segment_numbers

pub returns : goal.returns
returns c = search segment_numbers

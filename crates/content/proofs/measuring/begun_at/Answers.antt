use Rattle.content.proofs.Segments.{begun_numbers}
use Rattle.content.proofs.measuring.begun_at.Goals as goal

pub returns-then-record_length-eq0 : goal.returns-then-record_length-eq0
returns-then-record_length-eq0 c = search begun_numbers

pub returns : goal.returns
returns c = search begun_numbers

use Rattle.content.proofs.Rows.{wholes_from}
use Rattle.content.proofs.row.whole_from.Goals as goal

pub returns-then-k-ne0 : goal.returns-then-k-ne0
returns-then-k-ne0 c = search wholes_from

pub returns-in_default-measured : goal.returns-in_default-measured
returns-in_default-measured c = search wholes_from

pub returns-in_default : goal.returns-in_default
returns-in_default c = search wholes_from

pub returns : goal.returns
returns c = search wholes_from

use Rattle.list.proofs.Inputs.{inputs}
use Rattle.list.proofs.text_on.Goals as goal

pub returns-then-input-gt-MOST : goal.returns-then-input-gt-MOST
returns-then-input-gt-MOST c = search inputs

pub returns : goal.returns
returns c = search inputs

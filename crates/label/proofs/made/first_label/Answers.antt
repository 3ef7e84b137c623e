use Rattle.label.proofs.Making.{first_made}
use Rattle.label.proofs.made.first_label.Goals as goal

pub returns : goal.returns
returns c = search first_made

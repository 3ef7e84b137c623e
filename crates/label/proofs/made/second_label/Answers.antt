use Rattle.label.proofs.Making.{second_made}
use Rattle.label.proofs.made.second_label.Goals as goal

pub returns : goal.returns
returns c = search second_made

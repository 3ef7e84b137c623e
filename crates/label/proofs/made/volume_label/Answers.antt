use Rattle.label.proofs.Making.{volume_made}
use Rattle.label.proofs.made.volume_label.Goals as goal

pub returns : goal.returns
returns c = search volume_made

use Rattle.label.proofs.Walk.{asking}
use Rattle.label.proofs.rows.holds.Goals as goal

pub returns-in-Suits : goal.returns-in-Suits
returns-in-Suits c = search asking

pub returns-in-Agrees : goal.returns-in-Agrees
returns-in-Agrees c = search asking

pub returns-in-Ends : goal.returns-in-Ends
returns-in-Ends c = search asking

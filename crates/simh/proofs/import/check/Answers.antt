use Rattle.simh.proofs.Measuring.{checks}
use Rattle.simh.proofs.import.check.Goals as goal

pub returns-then-not-is_few : goal.returns-then-not-is_few
returns-then-not-is_few c = search (checks, c.in-Ok.ensures)

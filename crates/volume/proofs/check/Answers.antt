use Rattle.volume.proofs.WholeWalks.{verdicts}
use Rattle.volume.proofs.check.Goals as goal

pub walk-requires-clause-in_bounds : goal.walk-requires-clause-in_bounds
walk-requires-clause-in_bounds c = search verdicts

pub walk-requires-clause-image_len_bound : goal.walk-requires-clause-image_len_bound
walk-requires-clause-image_len_bound c = search verdicts

pub returns-then-opens : goal.returns-then-opens
returns-then-opens c = search verdicts

pub returns : goal.returns
returns c = search verdicts

use Rattle.content.proofs.Stepping.{measures_far}
use Rattle.content.proofs.measuring.measure_far.Goals as goal

pub measure_begun-requires : goal.measure_begun-requires
measure_begun-requires c = search measures_far

pub returns : goal.returns
returns c = search measures_far

use Rattle.content.specs.declared.measuring.Measured.TheVariants.{Whole, Split}
use Rattle.std.specs.Prelude.{Some}
use Rattle.std.proofs.Common.{◌∙◌, ◌≡◌, ap}
use Rattle.writer.proofs.Sources.{far}
use Rattle.writer.proofs.source.next_far.Goals as goal

pub returns-in-Whole : goal.returns-in-Whole
returns-in-Whole c =
    let e : c.measure_far.result ≡ Some (Whole c.in-Whole.from c.in-Whole.len c.in-Whole.v) = c.in-Some.is ∙ ap Some c.in-Whole.is in search far

pub returns-in-Split : goal.returns-in-Split
returns-in-Split c =
    let e : c.measure_far.result ≡ Some (Split c.in-Split.len c.in-Split.v) = c.in-Some.is ∙ ap Some c.in-Split.is in search far

pub returns-in_default : goal.returns-in_default
returns-in_default c = search far

pub walk_of-requires : goal.walk_of-requires
walk_of-requires c = search far

pub measure_far-requires : goal.measure_far-requires
measure_far-requires c = search far

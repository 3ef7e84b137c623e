use Rattle.content.specs.declared.measuring.Measured.TheVariants.{Split}
use Rattle.std.specs.Prelude.{Some}
use Rattle.std.proofs.Common.{ap, ◌≡◌, ◌∙◌}
use Rattle.content.proofs.Stepping.{step_units_lem}
use Rattle.content.proofs.step_units.Goals as goal

pub measure_units-requires : goal.measure_units-requires
measure_units-requires c = search step_units_lem

pub returns-then-join-n : goal.returns-then-join-n
returns-then-join-n c =
    let e : c.measure_units.result ≡ Some (Split c.in-Split.n c.in-Split.v) = c.in-Some.is ∙ ap Some c.in-Split.is in
    record { value = search step_units_lem; join_after = search step_units_lem }

pub join_record-requires : goal.join_record-requires
join_record-requires c =
    let e : c.measure_units.result ≡ Some (Split c.in-Split.n c.in-Split.v) = c.in-Some.is ∙ ap Some c.in-Split.is in search step_units_lem

pub shape_of-join : goal.shape_of-join
shape_of-join c = search step_units_lem

pub returns-else-join-n : goal.returns-else-join-n
returns-else-join-n c =
    let e : c.measure_units.result ≡ Some (Split c.in-Split.n c.in-Split.v) = c.in-Some.is ∙ ap Some c.in-Split.is in
    record { value = search step_units_lem; join_after = search step_units_lem }

pub returns-in-Whole : goal.returns-in-Whole
returns-in-Whole c = search step_units_lem

pub returns-in_default : goal.returns-in_default
returns-in_default c = search step_units_lem

-- A record by its numbers: what is told of it before a byte is joined. And its bytes, where it is split.
use Rattle.std.specs.Prelude.{length, Option, Some, None}
use Rattle.content.specs.declared.measuring.Measured.{Measured}
use Rattle.content.specs.Walk.{Record, whole, split, nothing}
use Rattle.content.specs.declared.measuring.Measured.TheVariants.{Whole, Split}

-- ---- the record

unfoldable pub measured_by : Record → Option Measured
measured_by (whole start n v) = Some (Whole start n v)
measured_by (split bs v) = Some (Split (length bs) v)
measured_by nothing = None

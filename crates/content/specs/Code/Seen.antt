-- What the search sees at a place.
use Rattle.std.specs.Prelude.{List, ℕ, Option}
use Rattle.order.specs.Kind.{data_block}
use Rattle.order.specs.Due.{due_after}
use Rattle.order.specs.declared.Phase.{Phase}
use Rattle.volume.specs.Step.{is_due}
use Rattle.content.specs.Items.{seen_at}
use Rattle.content.specs.declared.items.Seen.{Seen}

-- in a phase: where data is due, a block is data
abbrev pub seen_in : List ℕ → Phase → ℕ → Option Seen
seen_in s p at = seen_at s at (is_due (due_after p data_block))

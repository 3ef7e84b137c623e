use Rattle.content.proofs.Parts.{searchings}
use Rattle.content.proofs.part.search.Goals as goal

pub returns-in_default : goal.returns-in_default
returns-in_default c = search searchings

pub returns-in_default-led_to : goal.returns-in_default-led_to
returns-in_default-led_to c = search searchings

pub overflow_add-here : goal.overflow_add-here
overflow_add-here c = search searchings

pub position_behind-behind-requires : goal.position_behind-behind-requires
position_behind-behind-requires c = search searchings

pub position_behind-here-requires : goal.position_behind-here-requires
position_behind-here-requires c = search searchings

pub returns-then-is_wanted : goal.returns-then-is_wanted
returns-then-is_wanted c = search searchings

pub loop-seen-smaller : goal.loop-seen-smaller
loop-seen-smaller c = search searchings

pub loop-seen-preserved : goal.loop-seen-preserved
loop-seen-preserved c = search searchings

use Rattle.content.specs.Part.{led_to}
use Rattle.base.proofs.Rules.{ifs}
use Rattle.content.proofs.part.led_to.Goals as goal

pub begins_file-requires : goal.begins_file-requires
begins_file-requires c = search ifs

pub returns-then-begins_file : goal.returns-then-begins_file
unfolding led_to
returns-then-begins_file c = search ifs

pub due_after-requires : goal.due_after-requires
due_after-requires c = search ifs

pub returns : goal.returns
unfolding led_to
returns c = search ifs

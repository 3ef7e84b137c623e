use Rattle.charset.specs.Class.{is_a, all_a}
use Rattle.charset.proofs.Passed.{passed_other, passed_all, passing}
use Rattle.charset.proofs.all_characters_by.Goals as goal

pub loop-b-init : goal.loop-b-init
loop-b-init c = search (passed_other is_a all_a, passed_all is_a all_a, passing)

pub returns-then-not-is_character_by : goal.returns-then-not-is_character_by
returns-then-not-is_character_by c = search (passed_other is_a all_a, passed_all is_a all_a, passing)

pub loop-b-preserved : goal.loop-b-preserved
loop-b-preserved c = search (passed_other is_a all_a, passed_all is_a all_a, passing)

pub returns : goal.returns
returns c = search (passed_other is_a all_a, passed_all is_a all_a, passing)

use Rattle.charset.specs.Class.{is_a, all_a}
use Rattle.charset.proofs.Passed.{passed_all, passing}
use Rattle.charset.proofs.Ranges.{passed_ranges, passed_rest}
use Rattle.charset.proofs.all_characters.Goals as goal

pub loop-i-preserved : goal.loop-i-preserved
loop-i-preserved c = search (passed_ranges, passed_rest, passed_all is_a all_a, passing)

pub returns : goal.returns
returns c = search (passed_ranges, passed_rest, passed_all is_a all_a, passing)

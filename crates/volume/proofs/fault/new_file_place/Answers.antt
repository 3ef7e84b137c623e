use Rattle.volume.specs.Fault.{new_file_place}
use Rattle.volume.proofs.Faults.{fields}
use Rattle.volume.proofs.fault.new_file_place.Goals as goal

pub returns-then-says-2 : goal.returns-then-says-2
unfolding new_file_place
returns-then-says-2 c = search fields

pub returns-then-says : goal.returns-then-says
unfolding new_file_place
returns-then-says c = search fields

pub returns-then-is_same_set : goal.returns-then-is_same_set
unfolding new_file_place
returns-then-is_same_set c = search fields

pub returns : goal.returns
unfolding new_file_place
returns c = search fields

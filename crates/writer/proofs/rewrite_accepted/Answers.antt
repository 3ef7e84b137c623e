use Rattle.writer.proofs.FromImage.{images}
use Rattle.writer.proofs.rewrite_accepted.Goals as goal

pub write_quota-requires : goal.write_quota-requires
write_quota-requires c = search images

pub returns-in_default : goal.returns-in_default
returns-in_default c = search images

pub returns : goal.returns
returns c = search images

pub refusal-requires : goal.refusal-requires
refusal-requires c = search images

pub part_of-requires : goal.part_of-requires
part_of-requires c = search images

pub first_file-requires : goal.first_file-requires
first_file-requires c = search images

pub set_of-set-requires : goal.set_of-set-requires
set_of-set-requires c = search images

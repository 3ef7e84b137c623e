use Rattle.content.proofs.Files.{numbereds}
use Rattle.content.proofs.file.file_numbered.Goals as goal

pub returns-then-n-eq0 : goal.returns-then-n-eq0
returns-then-n-eq0 c = search numbereds

pub first_file-requires : goal.first_file-requires
first_file-requires c = search numbereds

pub overflow_sub-n : goal.overflow_sub-n
overflow_sub-n c = search numbereds

pub files_on-requires : goal.files_on-requires
files_on-requires c = search numbereds

pub returns-in_default : goal.returns-in_default
returns-in_default c = search numbereds

pub returns : goal.returns
returns c = search numbereds

use Rattle.content.proofs.Files.{follows}
use Rattle.content.proofs.file.next_file.Goals as goal

pub returns-then-image-hdr2 : goal.returns-then-image-hdr2
returns-then-image-hdr2 c = search follows

pub returns-then-image-hdr2-lt80 : goal.returns-then-image-hdr2-lt80
returns-then-image-hdr2-lt80 c = search follows

pub returns : goal.returns
returns c = search follows

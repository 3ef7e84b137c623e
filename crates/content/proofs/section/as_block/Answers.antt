use Rattle.content.proofs.Sections.{blocks}
use Rattle.content.proofs.section.as_block.Goals as goal

pub returns-in_default-found : goal.returns-in_default-found
returns-in_default-found c = search blocks

pub returns-in_default : goal.returns-in_default
returns-in_default c = search blocks

pub returns : goal.returns
returns c = search blocks

use Rattle.content.proofs.Parts.{wants}
use Rattle.content.proofs.part.is_wanted.Goals as goal

pub returns-in_default : goal.returns-in_default
returns-in_default c = search wants

pub returns-in-File : goal.returns-in-File
returns-in-File c = search wants

pub returns-in-Section : goal.returns-in-Section
returns-in-Section c = search wants

pub returns-in-Block : goal.returns-in-Block
returns-in-Block c = search wants

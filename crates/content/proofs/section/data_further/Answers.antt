use Rattle.content.proofs.Sections.{firsts}
use Rattle.content.proofs.section.data_further.Goals as goal

pub returns : goal.returns
returns c = search firsts

use Rattle.content.proofs.Sections.{firsts}
use Rattle.content.proofs.section.next_data.Goals as goal

pub overflow_add-result : goal.overflow_add-result
overflow_add-result c = search firsts

pub returns-in-Block : goal.returns-in-Block
returns-in-Block c = search firsts

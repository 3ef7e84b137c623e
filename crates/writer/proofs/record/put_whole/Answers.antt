use borrow.Author.Rules.{rules}
use Rattle.writer.proofs.Records.{whole_laid, whole_measured, whole_kept}
use Rattle.writer.proofs.record.put_whole.Goals as goal

pub shape_of-out : goal.shape_of-out
shape_of-out c = search (whole_kept, rules)

pub returns-then-lay : goal.returns-then-lay
returns-then-lay c = search (whole_laid, rules)

pub returns-else-lay : goal.returns-else-lay
returns-else-lay c = search (whole_measured, rules)

use borrow.Author.Rules.{rules}
use Rattle.writer.proofs.LabelParts.{parts_put_in}
use Rattle.writer.proofs.set.with_part.Goals as goal

pub slice_bounds-put_in-end : goal.slice_bounds-put_in-end
slice_bounds-put_in-end c = search (parts_put_in, rules)

pub put_in-requires : goal.put_in-requires
put_in-requires c = search (parts_put_in, rules)

pub returns : goal.returns
returns c = search (parts_put_in, rules)

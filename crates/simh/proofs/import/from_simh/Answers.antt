use Rattle.simh.proofs.Answering.{froms}
use Rattle.simh.proofs.import.from_simh.Goals as goal

pub returns-in-Err : goal.returns-in-Err
returns-in-Err c = search (froms, c.in-Err.ensures)

pub returns-then-behind-gt-MOST_BEHIND : goal.returns-then-behind-gt-MOST_BEHIND
returns-then-behind-gt-MOST_BEHIND c = search (froms, c.in-Ok.ensures)

pub returns-then-out-len : goal.returns-then-out-len
returns-then-out-len c = search (froms, c.in-Ok.ensures)

pub put_reels-requires : goal.put_reels-requires
put_reels-requires c = search (froms, c.in-Ok.ensures)

pub returns : goal.returns
returns c = search (froms, c.in-Ok.ensures)

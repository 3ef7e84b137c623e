use Rattle.simh.proofs.Answering.{tos}
use Rattle.simh.proofs.export.to_simh.Goals as goal

pub returns-in-Err : goal.returns-in-Err
returns-in-Err c = search (tos, c.in-Err.ensures)

pub returns-then-out-size : goal.returns-then-out-size
returns-then-out-size c = search (tos, c.in-Ok.ensures)

pub returns-then-lengths-size : goal.returns-then-lengths-size
returns-then-lengths-size c = search (tos, c.in-Ok.ensures)

pub put_files-requires : goal.put_files-requires
put_files-requires c = search (tos, c.in-Ok.ensures)

pub returns : goal.returns
returns c = search (tos, c.in-Ok.ensures)

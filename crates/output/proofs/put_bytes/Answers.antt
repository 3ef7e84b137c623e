use Rattle.output.proofs.Writing.{put_below_lem}
use Rattle.output.proofs.put_bytes.Goals as goal

pub returns-then-end-most : goal.returns-then-end-most
returns-then-end-most c = put_below_lem _ _ _ _ _ c.behind-end.ensures c.if-end-most.true c.put_in.ensures

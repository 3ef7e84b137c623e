use Rattle.writer.proofs.RecordBlocks.{slows}
use Rattle.writer.proofs.record.put_slow.Goals as goal

pub put_pieces-s-requires-clause-can_pack : goal.put_pieces-s-requires-clause-can_pack
put_pieces-s-requires-clause-can_pack c = search slows

pub returns : goal.returns
returns c = search slows

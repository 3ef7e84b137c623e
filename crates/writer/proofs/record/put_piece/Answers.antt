use Rattle.writer.proofs.RecordBlocks.{placing, record_wholable, record_whole}
use Rattle.writer.proofs.record.put_piece.Goals as goal

pub put_whole-requires : goal.put_whole-requires
put_whole-requires c = record_wholable _ _ _ _ _ _ _ _ _ c.requires _ _ c.in-Some.ensures

pub returns-in-Some : goal.returns-in-Some
returns-in-Some c = record_whole _ _ _ _ _ _ _ _ _ c.requires _ _ c.in-Some.ensures _ _ c.put_whole.ensures

pub quick_block-requires : goal.quick_block-requires
quick_block-requires c = search placing

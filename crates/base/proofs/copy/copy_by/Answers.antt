use Rattle.base.proofs.Copies.{put_both}
use Rattle.base.proofs.copy.copy_by.Goals as goal

pub returns : goal.returns
returns g c = put_both _ _ _ _ _ c.requires.short c.requires.s_in_bounds _ _ c.put_part.ensures c.put_part-2.ensures

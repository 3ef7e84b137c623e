use mathlib.Core.Path.{refl}
use Rattle.base.proofs.Parts.{counted}
use Rattle.writer.proofs.Quotas.{quota_within, parts_writable, parts_answers}
use Rattle.writer.proofs.write_quota.Goals as goal

pub slice_bounds-write_set-end : goal.slice_bounds-write_set-end
slice_bounds-write_set-end c =
    counted _ _ (quota_within _ _ _ _ _ _ _ _ _
    c.requires _ refl)

pub write_set-requires : goal.write_set-requires
write_set-requires c =
    parts_writable _ _ _ _ _ _ _ _ _
    c.requires _ refl _ _ _ refl
    c.with_part-titled.ensures c.with_part-labels.ensures

pub returns : goal.returns
returns c =
    parts_answers _ _ _ _ _ _ _ _ _
    c.requires _ refl _ _ _ refl c.with_part-titled.ensures c.with_part-labels.ensures _ _ _ c.write_set.ensures

use Rattle.base.proofs.Copies.{kept_in}
use Rattle.writer.proofs.Units.{spell_from, spell_less, spell_seg, spell_more, spell_at_fits, spell_fits, spell_laid, spell_measured}
use Rattle.writer.proofs.pack.spell.Goals as goal

pub overflow_sub-piece : goal.overflow_sub-piece
overflow_sub-piece c =
    spell_from _ _ _ _ c.requires

pub more-pen-requires : goal.more-pen-requires
more-pen-requires c =
    spell_more _ _ _ _ c.requires _ c.smaller-m.ensures

pub overflow_sub-r : goal.overflow_sub-r
overflow_sub-r c =
    spell_less _ _ _ _ c.requires _ c.smaller-m.ensures

pub overflow_sub-r-2 : goal.overflow_sub-r-2
overflow_sub-r-2 c =
    spell_seg _ _ _ _ c.requires _
    c.smaller-m.ensures

pub overflow_add-p : goal.overflow_add-p
overflow_add-p c =
    spell_at_fits _ _ _ _ c.requires

pub overflow_add-p-then-lay : goal.overflow_add-p-then-lay
overflow_add-p-then-lay c =
    spell_fits _ _ _ _ c.requires

pub shape_of-out : goal.shape_of-out
shape_of-out c = kept_in _ _ _ _ c.put_in.ensures

pub returns-then-lay : goal.returns-then-lay
returns-then-lay c =
    spell_laid _ _ _ _ c.requires _ c.smaller-m.ensures _ c.more-pen.ensures _ c.if-lay.true c.put_in.ensures

pub returns-else-lay : goal.returns-else-lay
returns-else-lay c =
    spell_measured _ _ _ _ c.requires _
    c.smaller-m.ensures _ c.more-pen.ensures c.if-lay.false

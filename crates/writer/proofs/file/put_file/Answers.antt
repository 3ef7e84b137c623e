use Rattle.std.proofs.Common.{◌∙◌}
use Rattle.writer.proofs.WholeFiles.{filing, file_bodied, file_tailable, file_all_kept, file_put}
use Rattle.writer.proofs.file.put_file.Goals as goal

pub put_records-x-requires : goal.put_records-x-requires
put_records-x-requires c =
    let form = c.form_of-form.ensures in
    file_bodied _ _ _ _ _ _ _ c.requires _ _ c.begin_file-h.ensures _ _ _ c.part_of-entry.ensures (form.format ∙ c.format_in-f.ensures) (form.block ∙ c.block_length_in-b.ensures)

pub put_end-requires : goal.put_end-requires
put_end-requires c =
    let form = c.form_of-form.ensures in
    file_tailable _ _ _ _ _ _ _ c.requires _ _ c.begin_file-h.ensures _ _ _ c.part_of-entry.ensures (form.format ∙ c.format_in-f.ensures) (form.block ∙ c.block_length_in-b.ensures) _ _ c.put_records-x.ensures

pub shape_of-out : goal.shape_of-out
shape_of-out c =
    let form = c.form_of-form.ensures in
    file_all_kept _ _ _ _ _ _ _ c.requires _ _ c.begin_file-h.ensures _ _ _ c.part_of-entry.ensures (form.format ∙ c.format_in-f.ensures) (form.block ∙ c.block_length_in-b.ensures) _ _ c.put_records-x.ensures _ _ c.put_end.ensures

pub returns : goal.returns
returns c =
    let form = c.form_of-form.ensures in
    file_put _ _ _ _ _ _ _ c.requires _ _ c.begin_file-h.ensures _ _ _ c.part_of-entry.ensures (form.format ∙ c.format_in-f.ensures) (form.block ∙ c.block_length_in-b.ensures) _ _ c.put_records-x.ensures _ _ c.put_end.ensures

pub begin_file-h-requires : goal.begin_file-h-requires
begin_file-h-requires c = search filing

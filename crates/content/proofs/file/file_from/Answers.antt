use Rattle.content.specs.declared.part.Part.TheVariants.{File}
use Rattle.std.specs.Prelude.{Some}
use Rattle.std.proofs.Common.{ap, ◌≡◌, ◌∙◌}
use Rattle.content.proofs.Files.{founds}
use Rattle.content.proofs.file.file_from.Goals as goal

pub search-found-requires : goal.search-found-requires
search-found-requires c = search founds

pub file_at-requires : goal.file_at-requires
file_at-requires c = search founds

pub returns-in_default : goal.returns-in_default
returns-in_default c = search founds

pub returns-in_default-part : goal.returns-in_default-part
returns-in_default-part c = search founds

pub returns : goal.returns
returns c =
    let e : c.search-found.result.part ≡ Some (File c.in-File.hdr1 c.in-File.hdr2) = c.in-Some.is ∙ ap Some c.in-File.is in search founds

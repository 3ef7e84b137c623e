use Rattle.content.specs.declared.Found.TheVariants.{InImage, Joined}
use Rattle.std.specs.Prelude.{Ok}
use Rattle.std.proofs.Common.{ap, ◌≡◌, ◌∙◌}
use Rattle.content.proofs.Founds.{parts}
use Rattle.content.proofs.record_part.Goals as goal

pub part_of-requires : goal.part_of-requires
part_of-requires c = search parts

pub returns-in-Err : goal.returns-in-Err
returns-in-Err c = search parts

pub part_of-requires-in-Err : goal.part_of-requires-in-Err
part_of-requires-in-Err c = search parts

pub returns-in-InImage : goal.returns-in-InImage
returns-in-InImage c =
    let e : c.args.found ≡ Ok (InImage c.in-InImage.start c.in-InImage.len) = c.in-Ok.is ∙ ap Ok c.in-InImage.is in search parts

pub returns-in-Joined : goal.returns-in-Joined
returns-in-Joined c =
    let e : c.args.found ≡ Ok (Joined c.in-Joined.len) = c.in-Ok.is ∙ ap Ok c.in-Joined.is in search parts

pub part_of-requires-in-Joined : goal.part_of-requires-in-Joined
part_of-requires-in-Joined c = search parts

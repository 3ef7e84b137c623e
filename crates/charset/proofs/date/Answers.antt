use Rattle.charset.proofs.Dates.{dating}
use Rattle.charset.proofs.date.Goals as goal

pub returns-then-s-ne6 : goal.returns-then-s-ne6
returns-then-s-ne6 c = search dating

pub returns-then-not-is_century : goal.returns-then-not-is_century
returns-then-not-is_century c = search dating

pub returns : goal.returns
returns c = search dating

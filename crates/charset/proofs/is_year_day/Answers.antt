use Rattle.charset.proofs.Dates.{dating}
use Rattle.charset.proofs.is_year_day.Goals as goal

pub returns-in_default : goal.returns-in_default
returns-in_default c = search dating

pub returns-in_default-day : goal.returns-in_default-day
returns-in_default-day c = search dating

pub returns-then-n-eq0 : goal.returns-then-n-eq0
returns-then-n-eq0 c = search dating

pub returns-then-d-lt1 : goal.returns-then-d-lt1
returns-then-d-lt1 c = search dating

pub returns : goal.returns
returns c = search dating

use Rattle.charset.proofs.Ranges.{telling}
use Rattle.charset.proofs.is_digit.Goals as goal

pub is_between-requires : goal.is_between-requires
is_between-requires c = search telling

pub returns : goal.returns
returns c = search telling

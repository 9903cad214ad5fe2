use Rattle.snap_explain_values.proofs.TwiceKeys.{two_places, twice_at}
use Rattle.snap_explain_values.proofs.laws.twice_is_at_two_places.Goals as goal

pub returns-clause-twice : goal.returns-clause-twice
returns-clause-twice c = two_places

pub returns-clause-once : goal.returns-clause-once
returns-clause-once c = twice_at

use Rattle.snap_parse_laws_json.proofs.Prelude.{refl, digits}
use Rattle.snap_parse_laws_json.proofs.laws.worked_examples.Goals as goal

pub returns-clause-tokens : goal.returns-clause-tokens
unfolding digits
returns-clause-tokens c = record {
  nothing = refl;
  quoted = refl;
  number = refl;
  empty = refl;
  pair = refl;
  table = refl;
}

pub returns-clause-bounds : goal.returns-clause-bounds
returns-clause-bounds c = record {
  deepest = refl;
  too_deep = refl;
  longest = refl;
  too_long = refl;
}

use Rattle.std.proofs.Common.{◌≡◌, ◌∷◌, [], refl}
use Rattle.std.specs.Fmt.{decimal, digits}
use Rattle.snap_print.proofs.laws.worked_examples.Goals as goal

one : decimal 1 ≡ 49 ∷ []
unfolding digits
one = refl

pub returns : goal.returns
returns c = record {
  in_a_map = rw one refl;
  saved = refl;
  kept_inside = rw one refl;
  kept_last = refl;
  kept_at_the_end = refl;
  trailing_blank = refl;
  empty_line = refl;
  dashes = refl;
  leading_blank = refl;
  without = refl;
  at_the_top = refl;
  as_a_key = refl;
}

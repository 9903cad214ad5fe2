use Rattle.std.proofs.Common.{◌≡◌, ◌∷◌, [], refl, inr}
use Rattle.std.specs.Fmt.{decimal, digits}
use Rattle.snap_parse_laws.proofs.laws.worked_examples.Goals as goal

one : 49 ∷ [] ≡ decimal 1
unfolding digits
one = refl

two : 50 ∷ [] ≡ decimal 2
unfolding digits
two = refl

seven : 55 ∷ [] ≡ decimal 7
unfolding digits
seven = refl

pub returns : goal.returns
returns c = record {
  header = refl;
  header_free = (refl, (((refl, refl), (refl, refl)), (((refl, refl), (refl, refl)), ((refl, refl), (refl, ((one, refl), ((refl, refl), (two, refl))))))));
  request = refl;
  request_free = (
    refl,
    (
      ((refl, refl), (refl, refl)),
      (((refl, refl), (refl, refl)), (((refl, refl), (seven, refl)), (((refl, refl), (refl, refl)), (((refl, refl), (refl, refl)), ((refl, refl), (refl, ((refl, refl), (one, refl)))))))),
    ),
  );
  list_text = refl;
  list_free = (refl, (((refl, refl), (refl, ((refl, ((inr refl, refl), refl)), (tt, refl)))), ((seven, refl), (refl, (refl, refl, refl)))));
  blocks_text = refl;
  blocks_laid = (refl, ((refl, refl), (refl, (refl, refl))));
}

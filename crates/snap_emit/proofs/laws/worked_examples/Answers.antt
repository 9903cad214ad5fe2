use Rattle.snap_emit.proofs.Prelude.{refl}
use Rattle.snap_emit.proofs.laws.worked_examples.Goals as goal

pub returns-clause-marked : goal.returns-clause-marked
returns-clause-marked c = record {
  hexadecimal = refl;
  small_letters = refl;
  below_zero = refl;
  largest = refl;
  smallest = refl;
  octal = refl;
  octal_behind_a_plus = refl;
  plus = refl;
  plus_and_minus = refl;
  two_pluses = refl;
}

pub returns-clause-words : goal.returns-clause-words
returns-clause-words c = record {
  tilde = refl;
  nothing = refl;
  truth = refl;
  falsehood = refl;
}

pub returns-clause-whole : goal.returns-clause-whole
returns-clause-whole c = record {
  zero = refl;
  minus_zero = refl;
  zero_ahead = refl;
  minus = refl;
  largest_short = refl;
  smallest_short = refl;
  above_short = refl;
  above_short_behind_a_plus = refl;
  largest = refl;
  smallest = refl;
}

pub returns-clause-real : goal.returns-clause-real
returns-clause-real c = record {
  too_large = refl;
  too_small = refl;
  fraction = refl;
  point_at_the_end = refl;
  point_at_the_front = refl;
  exponent = refl;
  exponent_with_a_sign = refl;
  infinite = refl;
  infinite_below_zero = refl;
  infinite_behind_a_plus = refl;
  infinite_in_any_case = refl;
  no_number = refl;
  no_number_in_capitals = refl;
  no_number_without_a_point = refl;
  no_number_with_a_sign = refl;
}

pub returns-clause-texts : goal.returns-clause-texts
returns-clause-texts c = record {
  empty = refl;
  letter = refl;
  truth_in_capitals = refl;
  falsehood_in_capitals = refl;
  nothing_in_capitals = refl;
  yes_word = refl;
  hexadecimal_without_digits = refl;
  hexadecimal_in_capitals = refl;
  hexadecimal_too_large = refl;
  minus_hexadecimal = refl;
  no_octal_digit = refl;
  two_minuses = refl;
  sign_alone = refl;
  point_alone = refl;
  two_points = refl;
  exponent_without_digits = refl;
  exponent_alone = refl;
  no_number_below_zero = refl;
  underscore = refl;
}

pub returns-clause-spelled : goal.returns-clause-spelled
returns-clause-spelled c = record {
  header = refl;
  header_keeps = refl;
  request = refl;
  request_keeps = refl;
  nested = refl;
  nested_keeps = refl;
}

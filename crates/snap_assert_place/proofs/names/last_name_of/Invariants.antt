use Rattle.snap_assert_place.proofs.Prelude.{◌≡◌, length, cond, Utf8, shadow, chars, holds_colons, last_name}
use Rattle.snap_assert_place.proofs.names.last_name_of.Given as goal

-- the last part is in what is left where that holds `::`, and else it is what was found last
abbrev pub invariant-loop-next : goal.invariant-loop-next
invariant-loop-next l = record {
  rest_text : shadow (Utf8 l.rest);
  last_text : shadow (Utf8 l.last);
  same : last_name (chars l.initial.function) ≡ cond (holds_colons (chars l.rest)) (last_name (chars l.rest)) (chars l.last);
}

abbrev pub decreases-loop-next : goal.decreases-loop-next
decreases-loop-next l = length (chars l.rest)

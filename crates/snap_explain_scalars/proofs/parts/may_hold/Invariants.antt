use Rattle.snap_explain_scalars.proofs.Prelude.{◌≡◌, length, Utf8, shadow, chars, list_any, ends_otherwise, parts_in}
use Rattle.snap_explain_scalars.proofs.parts.may_hold.Given as goal

abbrev pub invariant-loop-part : goal.invariant-loop-part
invariant-loop-part l = record {
  utf8 : shadow (Utf8 l.rest);
  left : list_any ends_otherwise (parts_in (chars l.rest)) ≡ list_any ends_otherwise (parts_in (chars l.document));
}

abbrev pub decreases-loop-part : goal.decreases-loop-part
decreases-loop-part l = length (chars l.rest)

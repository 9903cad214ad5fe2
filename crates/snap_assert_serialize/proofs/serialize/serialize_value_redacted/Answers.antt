use Rattle.std.proofs.Common.{subst}
use Rattle.snap_content.specs.View.{tree}
use Rattle.snap_assert_settings.specs.Redactions.{redactions_of, RedactedBy}
use Rattle.snap_assert_serialize.proofs.Ends.{weaker_end}
use Rattle.snap_assert_serialize.proofs.serialize.serialize_value_redacted.Goals as goal

pub returns : goal.returns
returns g c =
    weaker_end c.args.format c.args.literal _ _ c.serialize_content.result
    (λ out h. record {
      first = tree c.in_ok-redacted.redacted;
      redacted = subst (λ x. RedactedBy (λ v p. (goal.Redactor-dyn g (v, p)).allows p) (redactions_of c.args.redactions.now) x (tree c.in_ok-redacted.redacted)) c.in_ok-content.ensures
          c.in_ok-redacted.ensures;
      printed = h;
    })
    c.serialize_content.ensures

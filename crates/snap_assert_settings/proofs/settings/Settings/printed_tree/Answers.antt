use Rattle.snap_assert_settings.proofs.Prelude.{subst, tree, RedactedBy, redactions_in}
use Rattle.std.proofs.lemmas.Result.{IfOk-weaker}
use Rattle.snap_assert_settings.proofs.settings.Settings.printed_tree.Goals as goal

pub returns : goal.returns
returns g c = record {
  printed = IfOk-weaker c.apply.result _ _ (λ made h. record { redacted = subst (λ x. RedactedBy (λ v p. (goal.Redactor-dyn g (v, p)).allows p) (redactions_in c.args.self.now) x (tree made)) c.in_ok-content.ensures h }) c.apply.ensures;
}

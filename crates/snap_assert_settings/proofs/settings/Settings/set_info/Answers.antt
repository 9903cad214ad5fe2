use Rattle.snap_assert_settings.proofs.Prelude.{subst, tree, RedactedBy, redactions_in}
use Rattle.snap_assert_settings.proofs.settings.Settings.set_info.Goals as goal

pub returns-clause-ok : goal.returns-clause-ok
returns-clause-ok g c = (
  tree c.in_ok-info.info,
  subst (λ x. RedactedBy (λ v p. (goal.Redactor-dyn g (v, p)).allows p) (redactions_in c.args.self.now) x (tree c.in_ok-info.info)) c.in_ok-content.ensures c.in_ok-info.ensures,
  c.put_info.ensures.settings,
)

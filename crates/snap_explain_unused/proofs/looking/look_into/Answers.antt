use Rattle.snap_explain_unused.proofs.Prelude.{sym, subst, AreNames}
use Rattle.snap_explain_unused.proofs.looking.look_into.Goals as goal

pub returns-clause-looked : goal.returns-clause-looked
returns-clause-looked g c =
    record { names = c.as_slice.result.now; are = λ m told. subst (AreNames m c.args.folder.now) (sym c.as_slice.ensures) (c.in_ok-names.ensures.names m told); adds = c.in_ok-keep_names.ensures }

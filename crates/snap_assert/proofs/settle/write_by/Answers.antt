use Rattle.snap_assert.proofs.Prelude.{sym, subst, refl, NamesOwn}
use Rattle.snap_assert.specs.Kept.{KeptWith}
use Rattle.snap_assert.specs.Subjects.{extension_in}
use Rattle.snap_assert.proofs.Settling.{unwritten_with}
use Rattle.snap_io.specs.StandsAfter.{StandsAfter}
use Rattle.snap_assert.specs.Halts.{named_by}
use Rattle.snap_assert.specs.Settling.{writing}
use Rattle.snap_assert.proofs.Refusals.{err_weaker}
use Rattle.snap_assert.proofs.settle.write_by.Goals as goal

pub returns-in-InPlace-clause-kept : goal.returns-in-InPlace-clause-kept
returns-in-InPlace-clause-kept g c = λ asked prepared.
    subst (λ mode. KeptWith (extension_in asked.subject) mode asked.path (g.S.Store.files c.args.store.now) (g.S.Store.files c.update.new.store)) (sym c.in-InPlace.is) (c.update.ensures.kept asked prepared)

pub returns-in-InPlace-clause-named : goal.returns-in-InPlace-clause-named
returns-in-InPlace-clause-named g c = λ asked prepared. subst (λ mode. NamesOwn mode asked.path c.update.result) (sym c.in-InPlace.is) (c.update.ensures.named asked prepared)

pub returns-in-NewFile-clause-kept : goal.returns-in-NewFile-clause-kept
returns-in-NewFile-clause-kept g c = λ asked prepared.
    subst (λ mode. KeptWith (extension_in asked.subject) mode asked.path (g.S.Store.files c.args.store.now) (g.S.Store.files c.postpone.new.store)) (sym c.in-NewFile.is) (c.postpone.ensures.kept asked prepared)

pub returns-in-NewFile-clause-named : goal.returns-in-NewFile-clause-named
returns-in-NewFile-clause-named g c = λ asked prepared. subst (λ mode. NamesOwn mode asked.path c.postpone.result) (sym c.in-NewFile.is) (c.postpone.ensures.named asked prepared)

pub returns-in-NoUpdate-clause-kept : goal.returns-in-NoUpdate-clause-kept
returns-in-NoUpdate-clause-kept g c = λ asked prepared. unwritten_with (extension_in asked.subject) c.args.mode asked.path _ _ refl

pub returns-in-InPlace-clause-halted : goal.returns-in-InPlace-clause-halted
returns-in-InPlace-clause-halted g c =
    err_weaker c.update.result (λ e h asked prepared. subst (λ mode. StandsAfter (writing mode asked) (named_by e) (g.S.Store.files c.args.store.now) (g.S.Store.files c.update.new.store)) (sym c.in-InPlace.is) (h asked prepared)) c.update.ensures.halted

pub returns-in-NewFile-clause-halted : goal.returns-in-NewFile-clause-halted
returns-in-NewFile-clause-halted g c =
    err_weaker c.postpone.result (λ e h asked prepared. subst (λ mode. StandsAfter (writing mode asked) (named_by e) (g.S.Store.files c.args.store.now) (g.S.Store.files c.postpone.new.store)) (sym c.in-NewFile.is) (h asked prepared)) c.postpone.ensures.halted

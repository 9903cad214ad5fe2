use Rattle.snap_assert.proofs.Prelude.{◌≡◌, Ok, sym, subst, settings_of, place_of, KeptBy, NamesOwn}
use Rattle.snap_assert.specs.Names.{Named, name_step}
use Rattle.snap_assert.specs.Session.{session_of}
use Rattle.snap_assert.specs.Values.{ValueKeeps, ValueNames}
use Rattle.snap_assert_place.specs.SnapshotPath.{path_of}
use Rattle.snap_assert.specs.Assertions.{text_assertion_of}
use Rattle.snap_assert.specs.Halts.{IsHaltedBy}
use Rattle.snap_assert.specs.Relations.{asked_relation}
use Rattle.snap_assert.specs.Values.{ValueHalted}
use Rattle.snap_assert.proofs.Refusals.{err_weaker}
use Rattle.snap_assert.proofs.snapshot.assert_snapshot.Goals as goal

pub returns-in-FileText-clause-kept : goal.returns-in-FileText-clause-kept
returns-in-FileText-clause-kept g c =
    let mode = c.args.config.now.update in
    let settings = settings_of c.args.settings.now in
    let place = place_of c.args.place.now in
    let session = session_of c.args.session.now in
    let files = g.S.Store.files c.args.store.now in
    let after = g.S.Store.files c.assert_file-outcome.new.store in
    subst (λ v. ValueKeeps mode settings place v session files after) (sym c.in-FileText.is)
    (subst (λ n. (named : Named) → name_step settings place n session ≡ Ok named → KeptBy mode (path_of settings place named.name) files after) c.given_name-given.ensures
    c.assert_file-outcome.ensures.kept)

pub returns-in-FileText-clause-named : goal.returns-in-FileText-clause-named
returns-in-FileText-clause-named g c =
    let mode = c.args.config.now.update in
    let settings = settings_of c.args.settings.now in
    let place = place_of c.args.place.now in
    let session = session_of c.args.session.now in
    subst (λ v. ValueNames mode settings place v session c.assert_file-outcome.result) (sym c.in-FileText.is)
    (subst (λ n. (named : Named) → name_step settings place n session ≡ Ok named → NamesOwn mode (path_of settings place named.name) c.assert_file-outcome.result) c.given_name-given.ensures
    c.assert_file-outcome.ensures.named)

pub returns-in-FileText-clause-halted : goal.returns-in-FileText-clause-halted
returns-in-FileText-clause-halted g c =
    let relation = asked_relation (g.C.Comparator.agrees c.args.comparator.now) (g.C.Comparator.agrees_fully c.args.comparator.now) c.args.config.now.require_full_match in
    let config = c.args.config.now in
    let settings = settings_of c.args.settings.now in
    let place = place_of c.args.place.now in
    let session = session_of c.args.session.now in
    let files = g.S.Store.files c.args.store.now in
    let after = g.S.Store.files c.assert_file-outcome.new.store in
    err_weaker c.assert_file-outcome.result (λ e h. subst (λ v. ValueHalted relation config settings place v e files after session) (sym c.in-FileText.is)
    (subst (λ n. IsHaltedBy relation config (text_assertion_of settings place n c.in-FileText.content) e files after session) c.given_name-given.ensures h)) c.assert_file-outcome.ensures.halted

use Rattle.snap_assert_settings.specs.Settings.{settings_of}
use Rattle.snap_assert_place.specs.Place.{place_of}
use Rattle.snap_assert.specs.Literals.{literal_assertion_of}
use Rattle.snap_assert.specs.Session.{session_of}
use Rattle.snap_assert.proofs.LiteralRefusals.{name_stops, block_stops, stops_by}
use Rattle.snap_assert.proofs.literals.begin_literal.Goals as goal

pub returns-in-Ok-clause-stopped : goal.returns-in-Ok-clause-stopped
returns-in-Ok-clause-stopped g c =
    let a = literal_assertion_of (settings_of c.args.settings.now) (place_of c.args.place.now) c.args.reference.now c.args.content in
    stops_by c.literals_named.result (λ e refused same. block_stops a (session_of c.args.session.now) (session_of c.take_literal_name.new.session) _ c.in-Ok.name e c.in-Ok.ensures.ok refused same)
    c.literals_named.ensures.err c.literals_named.ensures.same

pub returns-in-Err-clause-stopped : goal.returns-in-Err-clause-stopped
returns-in-Err-clause-stopped g c =
    let a = literal_assertion_of (settings_of c.args.settings.now) (place_of c.args.place.now) c.args.reference.now c.args.content in
    name_stops a (session_of c.args.session.now) (session_of c.take_literal_name.new.session) c.in-Err.error c.in-Err.ensures.err c.in-Err.ensures.same

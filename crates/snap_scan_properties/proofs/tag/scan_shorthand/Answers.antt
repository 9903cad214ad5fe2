use Rattle.snap_scan_properties.proofs.Prelude.{◌∙◌, chars, local, shorthand}
use Rattle.snap_scan_properties.proofs.Answered.{reads-same}
use Rattle.snap_scan_properties.proofs.Names.{shorthand-local}
use Rattle.snap_scan_properties.proofs.Uris.{headed-name}
use Rattle.snap_scan_properties.proofs.tag.scan_shorthand.Goals as goal

pub returns-clause-value : goal.returns-clause-value
returns-clause-value c =
    reads-same (local c.args.cursor.now) (shorthand c.args.cursor.now) c.scan_local.result c.scan_local.new.cursor
    (shorthand-local c.args.cursor.now c.take_run-name.new.cursor c.take_run-name.ensures.place (λ e. c.if-ch-eq33.false (c.ch.ensures ∙ e)))
    (c.scan_local.ensures.value c.args.cursor.now
    (headed-name c.args.cursor.now c.take_run-name.new.cursor (chars c.take_run-name.result.now) c.take_run-name.ensures.text c.take_run-name.ensures.place))

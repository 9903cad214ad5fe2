use Rattle.snap_select.proofs.Prelude.{[], sym, ◌∙◌, arith, chars, ready, first_dot}
use Rattle.snap_select.proofs.Readers.{led_part, part_read}
use Rattle.snap_select.proofs.parts.read_led.Goals as goal

pub returns-then-begins_with : goal.returns-then-begins_with
returns-then-begins_with c =
    let text = chars c.args.text.now in
    let k = c.read_segments.ensures in
    let w = part_read first_dot (λ ps. ready ps []) text text c.read_segments.result (λ ps. led_part ps text c.requires (sym c.begins_with.ensures ∙ c.if-begins_with.true)) (omega arith) (k.ok, k.stop, k.within) in
    record { ok = w.0; stop = w.1; within = w.2 }

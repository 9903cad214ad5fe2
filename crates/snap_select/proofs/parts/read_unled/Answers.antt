use Rattle.snap_select.proofs.Prelude.{[], sym, ◌∙◌, arith, chars, ready, before_part}
use Rattle.snap_select.proofs.Readers.{unled_part, part_read}
use Rattle.snap_select.proofs.parts.read_unled.Goals as goal

pub returns-then-begins_segment : goal.returns-then-begins_segment
returns-then-begins_segment c =
    let text = chars c.args.text.now in
    let k = c.read_segments.ensures in
    let w = part_read before_part (λ ps. ready ps []) text text c.read_segments.result (λ ps. unled_part ps text (sym c.begins_segment.ensures ∙ c.if-begins_segment.true) c.requires.dotted) (omega arith) (k.ok, k.stop, k.within) in
    record { ok = w.0; stop = w.1; within = w.2 }

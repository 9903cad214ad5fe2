use Rattle.snap_select.proofs.Prelude.{◌∷◌, length, ap, sym, ◌∙◌, arith, chars, is_blank, first_dot, before_part}
use Rattle.snap_select.proofs.PieceFacts.{past_ends}
use Rattle.snap_select.proofs.Readers.{past_shorter, past_within, start_at, part_read}
use Rattle.snap_select.proofs.parts.read_part.Goals as goal

pub read_unled-requires-clause-no_blank : goal.read_unled-requires-clause-no_blank
read_unled-requires-clause-no_blank c = past_ends is_blank (chars c.args.text.now) (chars c.past_blanks-text.result.now) c.past_blanks-text.ensures

pub returns-in-Some : goal.returns-in-Some
returns-in-Some c =
    let text = chars c.args.text.now in
    let body = chars c.in-Some.body.now in
    let e = c.past_blanks-text.ensures in
    let k = c.read_led.ensures in
    let w = part_read before_part first_dot text body c.read_led.result (λ ps. start_at ps text (46 ∷ body) (sym e ∙ c.in-Some.ensures))
    (omega (arith, past_shorter is_blank text, ap length (sym e ∙ c.in-Some.ensures))) (k.ok, k.stop, k.within) in
    record { ok = w.0; stop = w.1; within = w.2 }

pub returns-in_default : goal.returns-in_default
returns-in_default c =
    let text = chars c.args.text.now in
    let t = chars c.past_blanks-text.result.now in
    let e = c.past_blanks-text.ensures in
    let k = c.read_unled.ensures in
    let w = part_read before_part before_part text t c.read_unled.result (λ ps. start_at ps text t (sym e)) (past_within is_blank text t e) (k.ok, k.stop, k.within) in
    record { ok = w.0; stop = w.1; within = w.2 }

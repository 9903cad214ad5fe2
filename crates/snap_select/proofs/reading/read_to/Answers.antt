use Rattle.snap_select.proofs.Prelude.{length, refl, ap, sym, ◌∙◌, arith, chars, is_blank, colon}
use Rattle.snap_select.proofs.PieceFacts.{past_ends}
use Rattle.snap_select.proofs.Readers.{to_closed, past_shorter, past_within, colon_at, read_on}
use Rattle.snap_select.proofs.reading.read_to.Goals as goal

pub returns-in-Some-clause-ok : goal.returns-in-Some-clause-ok
returns-in-Some-clause-ok c = (refl, to_closed c.args.from (chars c.args.text.now) (chars c.in-Some.rest.now) (sym c.past_blanks-text.ensures ∙ c.in-Some.ensures))

pub returns-in-Some-clause-shorter : goal.returns-in-Some-clause-shorter
returns-in-Some-clause-shorter c = omega (arith, past_shorter is_blank (chars c.args.text.now), ap length (sym c.past_blanks-text.ensures ∙ c.in-Some.ensures))

pub read_second-requires-clause-no_blank : goal.read_second-requires-clause-no_blank
read_second-requires-clause-no_blank c = past_ends is_blank (chars c.args.text.now) (chars c.past_blanks-text.result.now) c.past_blanks-text.ensures

pub returns-in-None : goal.returns-in-None
returns-in-None c =
    let text = chars c.args.text.now in
    let t = chars c.past_blanks-text.result.now in
    let e = c.past_blanks-text.ensures in
    let k = c.read_second.ensures in
    let w = read_on (colon c.args.from) (colon c.args.from) text t c.read_second.result (colon_at c.args.from text t e) (past_within is_blank text t e) (k.ok, k.stop, k.shorter) in
    record { ok = w.0; stop = w.1; shorter = w.2 }

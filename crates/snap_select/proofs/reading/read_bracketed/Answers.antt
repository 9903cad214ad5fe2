use Rattle.snap_select.proofs.Prelude.{[], length, ap, ◌∙◌, arith, chars, is_blank, outcome, inside, bracket, in_quotes}
use Rattle.snap_select.proofs.PieceFacts.{past_ends}
use Rattle.snap_select.proofs.Readers.{past_within, bracket_at, read_on}
use Rattle.snap_select.proofs.reading.read_bracketed.Goals as goal

pub read_numbers-requires-clause-no_blank : goal.read_numbers-requires-clause-no_blank
read_numbers-requires-clause-no_blank c = past_ends is_blank (chars c.args.text.now) (chars c.past_blanks-text.result.now) c.past_blanks-text.ensures

pub returns-in-None : goal.returns-in-None
returns-in-None c =
    let text = chars c.args.text.now in
    let t = chars c.past_blanks-text.result.now in
    let e = c.past_blanks-text.ensures in
    let k = c.read_numbers.ensures in
    let w = read_on bracket bracket text t c.read_numbers.result (bracket_at text t e) (past_within is_blank text t e) (k.ok, k.stop, k.shorter) in
    record { ok = w.0; stop = w.1; shorter = w.2 }

pub returns-in-Some : goal.returns-in-Some
returns-in-Some c =
    let text = chars c.args.text.now in
    let t = chars c.past_blanks-text.result.now in
    let e = c.past_blanks-text.ensures in
    let k = c.read_key.ensures in
    let w = read_on (in_quotes []) bracket text (chars c.in-Some.inside.now) c.read_key.result (λ ps ss. bracket_at text t e ps ss ∙ ap (outcome (inside ps ss bracket)) c.in-Some.ensures)
    (omega (arith, past_within is_blank text t e, ap length c.in-Some.ensures)) (k.ok, k.stop, k.shorter) in
    record { ok = w.0; stop = w.1; shorter = w.2 }

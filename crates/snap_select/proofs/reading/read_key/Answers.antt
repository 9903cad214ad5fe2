use Rattle.snap_select.proofs.Prelude.{◌≡◌, ◌<◌, [], length, refl, ap, ◌∙◌, List, sym, arith, chars-nil, chars, Parts, outcome, inside, in_quotes, closing, refuses, BadToken, Segment, Key}
use Rattle.snap_select.proofs.Readers.{closing_read}
use Rattle.snap_select.proofs.reading.read_key.Goals as goal

pub returns-in-None-clause-stop : goal.returns-in-None-clause-stop
returns-in-None-clause-stop c = λ ps ss. (rw c.in-None.is at (c.in_ok-read_quoted.ensures.key ps ss)) ∙ ap (λ x. refuses BadToken (length x)) (sym chars-nil)

pub returns-in-Some : goal.returns-in-Some
returns-in-Some c =
    let text = chars c.args.text.now in
    let key = c.in-Some.key in
    let rest = chars c.in-Some.rest.now in
    let h : (ps : Parts) (ss : List Segment) → outcome (inside ps ss (in_quotes [])) text ≡ outcome (inside ps ss (closing (Key key))) rest = λ ps ss. rw c.in-Some.is at (c.in_ok-read_quoted.ensures.key ps ss) in
    let n : length rest < length text = rw c.in-Some.is at c.in_ok-read_quoted.ensures.shorter in
    let w = closing_read (in_quotes []) text (Key key) (Key key) rest c.closed.result refl refl h (omega (arith, n)) c.closed.ensures.ok c.closed.ensures.stop in
    record { ok = w.0; stop = w.1; shorter = w.2 }

use Rattle.snap_select.proofs.Prelude.{Some, refl, ap, ◌∙◌, chars, number_value, colon, Range}
use Rattle.snap_select.proofs.Readers.{to_far, to_near, closing_read, number_longer, same_near}
use Rattle.snap_select.proofs.PieceFacts.{kept_bound}
use Rattle.snap_select.proofs.reading.read_second.Goals as goal

pub returns-in-None-bound_of-clause-stop : goal.returns-in-None-bound_of-clause-stop
returns-in-None-bound_of-clause-stop c =
    let h = c.in-Some.ensures in to_far c.args.from (chars c.args.text.now) (chars c.in-Some.number.now) (chars c.in-Some.rest.now) h (c.in-None-bound_of.ensures h.numeral)

pub returns-in-Some-bound_of : goal.returns-in-Some-bound_of
returns-in-Some-bound_of c =
    let text = chars c.args.text.now in
    let num = chars c.in-Some.number.now in
    let rest = chars c.in-Some.rest.now in
    let h = c.in-Some.ensures in
    let v = c.in-Some-bound_of.bound in
    let bound = c.in-Some-bound_of.ensures h.numeral in
    let from = c.args.from in
    let goes = to_near from text num rest h (same_near v (number_value num) bound.0 bound.1) in
    let w = closing_read (colon from) text _ (Range from (Some (number_value num))) rest c.closed.result (ap (λ x. Range from (Some x)) (kept_bound v bound.1 ∙ bound.0)) refl goes (number_longer text num rest h.is)
    c.closed.ensures.ok c.closed.ensures.stop in
    record { ok = w.0; stop = w.1; shorter = w.2 }

use Rattle.snap_select.proofs.Prelude.{w64, to_z, of_z, Some, length, ap, sym, ◌∙◌, arith, chars, is_blank, bracket, colon}
use Rattle.snap_select.proofs.Bounds.{number_colon}
use Rattle.snap_select.proofs.Readers.{colon_far, read_on, number_longer, past_shorter}
use Rattle.snap_select.proofs.reading.read_number.Goals as goal

pub returns-in-None-bound_of-clause-stop : goal.returns-in-None-bound_of-clause-stop
returns-in-None-bound_of-clause-stop c =
    let h = c.in-Some.ensures in
    let e = sym c.past_blanks-rest.ensures ∙ c.in-Some-after_character.ensures in
    colon_far (chars c.args.text.now) (chars c.in-Some.number.now) (chars c.in-Some.rest.now) (chars c.in-Some-after_character.later.now) h e (c.in-None-bound_of.ensures h.numeral)

pub returns-in-Some-bound_of : goal.returns-in-Some-bound_of
returns-in-Some-bound_of c =
    let text = chars c.args.text.now in
    let num = chars c.in-Some.number.now in
    let after = chars c.in-Some.rest.now in
    let later = chars c.in-Some-after_character.later.now in
    let h = c.in-Some.ensures in
    let e = sym c.past_blanks-rest.ensures ∙ c.in-Some-after_character.ensures in
    let bound = c.in-Some-bound_of.ensures h.numeral in
    let v = c.in-Some-bound_of.bound in
    let k = c.read_to.ensures in
    let w = read_on (colon (Some (to_z w64 (of_z w64 v)))) bracket text later c.read_to.result (number_colon text num after later v h e bound.0 bound.1)
    (omega (arith, number_longer text num after h.is, past_shorter is_blank after, ap length e)) (k.ok, k.stop, k.shorter) in
    record { ok = w.0; stop = w.1; shorter = w.2 }

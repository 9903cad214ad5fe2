use Rattle.snap_select.proofs.Prelude.{◌∷◌, sym, ◌∙◌, chars, front, is_decimal, signed}
use Rattle.snap_content.specs.Front.{begins}
use Rattle.snap_select.proofs.PieceFacts.{number_cut, number_then}
use Rattle.snap_select.proofs.pieces.split_number.Goals as goal

pub before_rest-requires : goal.before_rest-requires
before_rest-requires c =
    let text = chars c.args.text.now in
    let more = chars c.in-Some.more.now in
    (signed (begins 45 text) (c.in-Some.c ∷ front is_decimal more), number_cut text more (chars c.past_digits-rest.result.now) c.in-Some.c (sym c.unsigned.ensures ∙ c.in-Some.ensures) c.past_digits-rest.ensures)

pub returns-in-Some : goal.returns-in-Some
returns-in-Some c =
    let text = chars c.args.text.now in
    let more = chars c.in-Some.more.now in
    let rest = chars c.past_digits-rest.result.now in
    let cut = sym c.unsigned.ensures ∙ c.in-Some.ensures in
    let number = signed (begins 45 text) (c.in-Some.c ∷ front is_decimal more) in
    number_then text more rest (chars c.before_rest.result.now) c.in-Some.c cut c.past_digits-rest.ensures (sym c.is_decimal.ensures ∙ c.if-is_decimal.true)
    (c.before_rest.ensures number (number_cut text more rest c.in-Some.c cut c.past_digits-rest.ensures))

use Rattle.snap_select.proofs.Prelude.{refl, sym, ◌∙◌, chars, bracket, Index, number_value}
use Rattle.snap_select.proofs.Readers.{minus_far, minus_near, index_large, index_goes, plain_numeral, closing_read, behind_longer, same_near}
use Rattle.snap_select.proofs.reading.read_index.Goals as goal

pub returns-in-None-clause-stop : goal.returns-in-None-clause-stop
returns-in-None-clause-stop c =
    let h = c.requires.number in
    minus_far (chars c.args.text.now) (chars c.args.number.now) (chars c.args.rest.now) h (sym c.begins_with.ensures ∙ c.if-begins_with.true) (c.in-None.ensures h.numeral)

pub returns-in-Some-clause-stop : goal.returns-in-Some-clause-stop
returns-in-Some-clause-stop c =
    let h = c.requires.number in
    let num = chars c.args.number.now in
    let bound = c.in-Some.ensures h.numeral in
    minus_near (chars c.args.text.now) num (chars c.args.rest.now) h (sym c.begins_with.ensures ∙ c.if-begins_with.true) (same_near c.in-Some.field-0 (number_value num) bound.0 bound.1) c.requires.no_colon

pub returns-in-None-index_of-clause-stop : goal.returns-in-None-index_of-clause-stop
returns-in-None-index_of-clause-stop c =
    let h = c.requires.number in
    let num = chars c.args.number.now in
    let numeral = plain_numeral num h.numeral (sym c.begins_with.ensures ∙ c.if-begins_with.false) in
    index_large (chars c.args.text.now) num (chars c.args.rest.now) h numeral (c.in-None-index_of.ensures.number numeral)

pub returns-in-Some-index_of : goal.returns-in-Some-index_of
returns-in-Some-index_of c =
    let h = c.requires.number in
    let num = chars c.args.number.now in
    let text = chars c.args.text.now in
    let rest = chars c.args.rest.now in
    let numeral = plain_numeral num h.numeral (sym c.begins_with.ensures ∙ c.if-begins_with.false) in
    let i = c.in-Some-index_of in
    let goes = index_goes text num rest i.index h numeral (i.ensures.number numeral) i.ensures.small c.requires.no_colon in
    let w = closing_read bracket text (Index i.index) (Index i.index) rest c.closed.result refl refl goes (behind_longer text num rest h) c.closed.ensures.ok c.closed.ensures.stop in
    record { ok = w.0; stop = w.1; shorter = w.2 }

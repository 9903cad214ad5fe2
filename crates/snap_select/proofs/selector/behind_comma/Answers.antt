use Rattle.snap_select.proofs.Prelude.{[], ◌∷◌, length, ap, sym, ◌∙◌, arith, chars, is_blank}
use Rattle.snap_select.proofs.Readers.{behind_at, no_comma, none_left, some_left, past_shorter}
use Rattle.snap_select.proofs.selector.behind_comma.Goals as goal

pub returns-in-Some-clause-ok : goal.returns-in-Some-clause-ok
returns-in-Some-clause-ok c = λ ps. behind_at ps (chars c.args.text.now) (44 ∷ chars c.in-Some.later.now) (sym c.past_blanks-rest.ensures ∙ c.in-Some.ensures)

pub returns-in-Some-clause-shorter : goal.returns-in-Some-clause-shorter
returns-in-Some-clause-shorter c = omega (arith, past_shorter is_blank (chars c.args.text.now), ap length (sym c.past_blanks-rest.ensures ∙ c.in-Some.ensures))

pub returns-in-None-clause-ok : goal.returns-in-None-clause-ok
returns-in-None-clause-ok c =
    let none = none_left c.split_first.result (chars c.past_blanks-rest.result.now) _ c.is_none.result c.split_first.ensures c.is_none.ensures c.if-is_none.true in
    λ ps. behind_at ps (chars c.args.text.now) [] (sym c.past_blanks-rest.ensures ∙ none)

pub returns-in-None-2-clause-stop : goal.returns-in-None-2-clause-stop
returns-in-None-2-clause-stop c =
    let t = chars c.past_blanks-rest.result.now in
    λ ps. no_comma ps (chars c.args.text.now) t c.past_blanks-rest.ensures c.in-None-2.ensures (some_left c.split_first.result t c.is_none.result c.split_first.ensures c.is_none.ensures c.if-is_none.false)

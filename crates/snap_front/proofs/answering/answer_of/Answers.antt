use Rattle.snap_front.proofs.Prelude.{rules, ap, chars, Some, subst}
use Rattle.std.specs.Str.{IsUtf8}
use Rattle.snap_front.specs.Wanted.{IsRequest, wanted_in}
use Rattle.snap_front.proofs.OneDocument.{wanted-of, bytes-answer, bytes-refusal}
use Rattle.snap_front.proofs.answering.answer_of.Goals as goal

pub returns-in-Ok-clause-ok : goal.returns-in-Ok-clause-ok
returns-in-Ok-clause-ok c = λ words is.
    let w = wanted-of (wanted_in words) c.args.request is in
    let utf8 : IsUtf8 c.args.document.now = search rules in
    bytes-answer words c.args.document.now (chars c.in-Ok.text.now) w.0 c.answered.result c.bytes_or.result w.1 utf8 (ap chars c.in-Ok.ensures.cases.0)
    (c.answered.ensures w.0 (subst (λ o. IsRequest o (Some c.args.request)) w.1 is)) c.bytes_or.ensures

pub returns-in-Ok-clause-err : goal.returns-in-Ok-clause-err
returns-in-Ok-clause-err c = λ words is.
    let w = wanted-of (wanted_in words) c.args.request is in
    let utf8 : IsUtf8 c.args.document.now = search rules in
    bytes-refusal words c.args.document.now (chars c.in-Ok.text.now) w.0 c.answered.result c.bytes_or.result w.1 utf8 (ap chars c.in-Ok.ensures.cases.0)
    (c.answered.ensures w.0 (subst (λ o. IsRequest o (Some c.args.request)) w.1 is)) c.bytes_or.ensures

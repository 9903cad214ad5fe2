use Rattle.snap_str.proofs.Prelude.{length, sym, ◌∙◌, eqb-true, eqb-false, chars}
use Rattle.snap_str.proofs.LineTexts.{next_line_is, last_line_is, last_shorter, some_bytes, no_bytes}
use Rattle.snap_str.proofs.lines.next_line.Goals as goal

pub returns-in-Some-clause-line : goal.returns-in-Some-clause-line
returns-in-Some-clause-line c =
    next_line_is (chars c.args.text.now) (chars c.in-Some.line.now) (chars c.in-Some.rest.now) (chars c.without_return.result.now) c.in-Some.ensures.cut c.without_return.ensures

pub returns-in-None-clause-line : goal.returns-in-None-clause-line
returns-in-None-clause-line c = no_bytes c.args.text.now (eqb-true (length c.args.text.now) 0 (sym c.is_empty.ensures ∙ c.if-is_empty.true))

pub returns-in-None-2-clause-line : goal.returns-in-None-2-clause-line
returns-in-None-2-clause-line c =
    last_line_is (chars c.args.text.now) (some_bytes c.args.text.now (eqb-false (length c.args.text.now) 0 (sym c.is_empty.ensures ∙ c.if-is_empty.false)) c.utf8.text) c.in-None-2.ensures.cut

pub returns-in-None-2-clause-shorter : goal.returns-in-None-2-clause-shorter
returns-in-None-2-clause-shorter c =
    last_shorter (chars c.args.text.now) (some_bytes c.args.text.now (eqb-false (length c.args.text.now) 0 (sym c.is_empty.ensures ∙ c.if-is_empty.false)) c.utf8.text)

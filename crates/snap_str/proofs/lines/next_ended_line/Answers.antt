use Rattle.snap_str.proofs.Prelude.{length, sym, ◌∙◌, eqb-true, eqb-false, chars}
use Rattle.snap_str.proofs.Cuts.{lacks}
use Rattle.snap_str.proofs.LineTexts.{SplitsLine, splits_line, last_ended_is, last_shorter, some_bytes, no_bytes}
use Rattle.snap_str.proofs.lines.next_ended_line.Goals as goal

pub returns-in-Some-clause-line : goal.returns-in-Some-clause-line
returns-in-Some-clause-line c =
    let s : SplitsLine c.args.text.now c.split_at.result.0.now c.split_at.result.1.now =
    splits_line c.args.text.now c.split_at.result.0.now c.split_at.result.1.now c.in-Some.at c.utf8.text c.in-Some.ensures c.split_at.ensures.front c.split_at.ensures.back in
    s.cut

pub returns-in-Some-clause-shorter : goal.returns-in-Some-clause-shorter
returns-in-Some-clause-shorter c =
    let s : SplitsLine c.args.text.now c.split_at.result.0.now c.split_at.result.1.now =
    splits_line c.args.text.now c.split_at.result.0.now c.split_at.result.1.now c.in-Some.at c.utf8.text c.in-Some.ensures c.split_at.ensures.front c.split_at.ensures.back in
    s.shorter

pub returns-in-None-clause-line : goal.returns-in-None-clause-line
returns-in-None-clause-line c = no_bytes c.args.text.now (eqb-true (length c.args.text.now) 0 (sym c.is_empty.ensures ∙ c.if-is_empty.true))

pub returns-in-None-2-clause-line : goal.returns-in-None-2-clause-line
returns-in-None-2-clause-line c =
    last_ended_is (chars c.args.text.now) (some_bytes c.args.text.now (eqb-false (length c.args.text.now) 0 (sym c.is_empty.ensures ∙ c.if-is_empty.false)) c.utf8.text)
    (lacks 10 c.args.text.now c.utf8.text c.in-None-2.ensures)

pub returns-in-None-2-clause-shorter : goal.returns-in-None-2-clause-shorter
returns-in-None-2-clause-shorter c =
    last_shorter (chars c.args.text.now) (some_bytes c.args.text.now (eqb-false (length c.args.text.now) 0 (sym c.is_empty.ensures ∙ c.if-is_empty.false)) c.utf8.text)

use Rattle.snap_pending.proofs.Prelude.{length, sym, ◌∙◌, subst, eqb-true, eqb-false, chars, Error, some_bytes, no_bytes, LineRefused}
use Rattle.snap_pending.proofs.LinesRead.{empty_is_unspelled, empty_is_no_json, parse_refused, line_end}
use Rattle.snap_pending.proofs.lines.read_line.Goals as goal

pub returns-then-is_empty : goal.returns-then-is_empty
returns-then-is_empty c =
    let none = no_bytes c.args.line.now (eqb-true (length c.args.line.now) 0 (sym c.is_empty.ensures ∙ c.if-is_empty.true)) in
    (c.in_ok-try_clone.ensures, empty_is_unspelled (chars c.args.line.now) none, empty_is_no_json (chars c.args.line.now) none)

pub returns-in-Ok : goal.returns-in-Ok
returns-in-Ok c =
    line_end c.args.path.now (chars c.args.line.now) c.in-Ok.content c.read_record.result
    (some_bytes c.args.line.now (eqb-false (length c.args.line.now) 0 (sym c.is_empty.ensures ∙ c.if-is_empty.false)) c.utf8.line)
    c.in-Ok.ensures.end c.in-Ok.ensures.json c.read_record.ensures

pub returns-in-Err : goal.returns-in-Err
returns-in-Err c =
    let P : Error → Type 0 = λ e. LineRefused c.args.path.now (chars c.args.line.now) e in
    subst P (sym c.parsing_error.ensures)
    (parse_refused c.args.path.now (chars c.args.line.now) c.in-Err.error c.in-Err.ensures.end c.in-Err.ensures.json_memory)

use Rattle.snap_emit_values.proofs.Prelude.{◌++◌, ap, ◌∙◌, on_ok_weaker, is_ascii, list_all}
use Rattle.snap_emit_values.proofs.Spaces.{front_line, ascii_line}
use Rattle.snap_emit_values.proofs.blanks.push_line.Goals as goal

pub push_ascii-requires : goal.push_ascii-requires
push_ascii-requires c = ap (list_all is_ascii) c.front.ensures ∙ ascii_line c.args.column c.requires

pub returns-clause-ok : goal.returns-clause-ok
returns-clause-ok c =
    on_ok_weaker c.push_ascii.result (λ h. h ∙ ap (λ x. c.args.out.now ++ x) (c.front.ensures ∙ front_line c.args.column c.requires)) c.push_ascii.ensures.ok

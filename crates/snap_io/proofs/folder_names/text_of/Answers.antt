use Rattle.snap_io.proofs.Prelude.{false_from_ne_true, is_utf8-from_IsUtf8, IsUtf8-from_is_utf8}
use Rattle.snap_io.proofs.folder_names.text_of.Goals as goal

pub returns-in-Ok : goal.returns-in-Ok
returns-in-Ok c = (c.in-Ok.ensures.cases.0, is_utf8-from_IsUtf8 c.args.name.now c.in-Ok.ensures.cases.1)

pub returns-in-Err : goal.returns-in-Err
returns-in-Err c = false_from_ne_true _ (λ text. c.in-Err.ensures.cases.0 (IsUtf8-from_is_utf8 c.args.name.now text))

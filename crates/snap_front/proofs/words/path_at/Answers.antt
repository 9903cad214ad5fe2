use Rattle.snap_front.proofs.Prelude.{chars, sym, ap, ◌∙◌, steps_of}
use Rattle.snap_front.specs.Wanted.{path_read}
use Rattle.snap_front.proofs.PathWords.{path-is-read, other-is-none, refused-is-none}
use Rattle.snap_front.proofs.words.path_at.Goals as goal

pub returns-in-Ok : goal.returns-in-Ok
returns-in-Ok c = sym (path-is-read (chars c.as_str.result.now) (steps_of c.in-Ok.path) c.in-Ok.ensures.ok) ∙ ap path_read c.as_str.ensures

pub returns-in-Err-Parse : goal.returns-in-Err-Parse
returns-in-Err-Parse c = sym (refused-is-none (chars c.as_str.result.now) (rw c.in-Err-Parse.field-0-is at c.in-Err-Parse.ensures.refused).refused) ∙ ap path_read c.as_str.ensures

pub returns-in-Err-NotAPath : goal.returns-in-Err-NotAPath
returns-in-Err-NotAPath c = sym (other-is-none (chars c.as_str.result.now) (rw c.in-Err-NotAPath.field-0-is at c.in-Err-NotAPath.ensures.refused)) ∙ ap path_read c.as_str.ensures

use Rattle.snap_path.proofs.Prelude.{ap, sym, ◌∙◌, chars, components, last_of, name_of}
use Rattle.snap_path.proofs.Parts.{last_of-push}
use Rattle.snap_path.proofs.names.path_name.Goals as goal

pub returns-in-Some : goal.returns-in-Some
returns-in-Some c =
    sym (ap name_of (sym c.as_str.ensures) ∙ ap last_of c.in-Some.ensures ∙ last_of-push (components (chars c.in-Some.field-0-0.now)) (chars c.in-Some.name.now))

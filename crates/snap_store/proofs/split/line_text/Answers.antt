use Rattle.snap_store.proofs.Prelude.{[], ◌∷◌, ◌++◌, sym, ap, ◌∙◌, chars, line_of}
use Rattle.snap_store.proofs.LineEnds.{unended, ended_by_feed, ended_by_both}
use Rattle.snap_store.proofs.split.line_text.Goals as goal

pub returns-in_default : goal.returns-in_default
returns-in_default c = sym (unended (chars c.args.piece.now) c.in_default.ensures)

pub returns-in-None : goal.returns-in-None
returns-in-None c = sym (ap line_of c.in-Some.ensures ∙ ended_by_feed (chars c.in-Some.line.now) c.in-None.ensures)

pub returns-in-Some-before_character : goal.returns-in-Some-before_character
returns-in-Some-before_character c =
    sym (ap line_of (c.in-Some.ensures ∙ ap (λ l. l ++ 10 ∷ []) c.in-Some-before_character.ensures) ∙ ended_by_both (chars c.in-Some-before_character.shorter.now))

use Rattle.snap_print.proofs.Prelude.{sym, ◌∙◌}
use Rattle.snap_print.proofs.Beginnings.{two_looks}
use Rattle.snap_print.proofs.quotes.need_quotes.Goals as goal

pub returns : goal.returns
returns c =
    c.need_quotes_within.ensures
    ∙ two_looks _ _ _ c.in-Some.ensures (sym c.begins_as_word.ensures ∙ c.if-begins_as_word.false) (sym c.is_leading_char.ensures ∙ c.if-is_leading_char.false)

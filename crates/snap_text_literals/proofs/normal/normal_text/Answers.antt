use Rattle.snap_text_literals.proofs.Prelude.{◌∙◌, sym, ap, chars, unreturned}
use Rattle.std.proofs.lemmas.Result.{IfOk-weaker}
use Rattle.snap_content.proofs.Booleans.{not_true}
use Rattle.snap_text_literals.proofs.Returns.{unreturned-free}
use Rattle.snap_text_literals.proofs.normal.normal_text.Goals as goal

pub returns-then-is_free_of_returns : goal.returns-then-is_free_of_returns
returns-then-is_free_of_returns c =
    let free = unreturned-free (chars c.trimmed_text-trimmed.result.now) (not_true _ (sym c.is_free_of_returns.ensures ∙ c.if-is_free_of_returns.true)) in
    IfOk-weaker c.from_str.result _ _ (λ made h. h ∙ sym free ∙ ap unreturned c.trimmed_text-trimmed.ensures) c.from_str.ensures

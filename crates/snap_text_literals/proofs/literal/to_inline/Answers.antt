use Rattle.snap_text_literals.proofs.Prelude.{◌≡◌, ℕ, List, ◌∙◌, subst, IfOk, chars, spelled}
use Rattle.snap_text_literals.proofs.InlineLaw.{comes-back-ok}
use Rattle.snap_text_literals.proofs.literal.to_inline.Goals as goal

pub returns-clause-law : goal.returns-clause-law
returns-clause-law c =
    let P : List ℕ → Type 0 = λ n. IfOk c.spell.result (λ made. made ≡ spelled (chars c.args.indentation.now) n) in
    comes-back-ok c.spell.result (chars c.args.indentation.now) (chars c.args.text.now) (subst P (c.as_str.ensures ∙ c.in_ok-normal.ensures) c.spell.ensures)

use Rattle.snap_text.proofs.Prelude.{◌≡◌, ℕ, List, ◌∙◌, subst, IfOk, chars, spelled}
use Rattle.snap_text.proofs.InlineLaws.{law-ok}
use Rattle.snap_text.proofs.contents.TextSnapshotContents.to_inline.Goals as goal

pub returns-clause-law : goal.returns-clause-law
returns-clause-law c =
    let P : List ℕ → Type 0 = λ n. IfOk c.spell.result (λ literal. literal ≡ spelled (chars c.args.indentation.now) n) in
    law-ok c.spell.result (chars c.args.indentation.now) c.args.self.now (subst P (c.as_str.ensures ∙ c.in_ok-normal.ensures) c.spell.ensures)

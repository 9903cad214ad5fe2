-- What is written of an inline text reads back as contents that match it.
use Rattle.snap_text.proofs.Prelude.{◌≡◌, ℕ, List, Result, Ok, Err, sym, ap, ◌∙◌, subst, IfOk, inline_normal, spelled, meant, IsIndentation, Inline, raw_of, kind_of, normal_as, normal_of, MatchLatest, IsSettled, InlineLaw}
use Rattle.snap_text_literals.specs.Literal.{literal_reads}
use Rattle.snap_text_literals.specs.OfLiteral.{of_literal}
use Rattle.snap_text_literals.proofs.InlineLaw.{inline-law}
use Rattle.snap_text_literals.proofs.Meanings.{reads}
use Rattle.snap_text.specs.declared.contents.TextSnapshotContents.{TextSnapshotContents}

-- contents made of the text that was meant match
matches : (contents made : TextSnapshotContents) (indentation : List ℕ) → IsSettled contents → IsIndentation indentation → kind_of made ≡ Inline
    → raw_of made ≡ of_literal (meant indentation (normal_of contents)) → MatchLatest made contents
matches contents made indentation settled i kind is =
    ap (λ k. normal_as k (raw_of made)) kind ∙ ap inline_normal is ∙ inline-law indentation (normal_of contents) i settled.once

pub law-ok : {E : Type 0} (r : Result (List ℕ) E) (indentation : List ℕ) (contents : TextSnapshotContents) → IfOk r (λ literal. literal ≡ spelled indentation (normal_of contents))
    → IfOk r (λ literal. InlineLaw literal indentation contents)
law-ok (Ok literal) indentation contents is = λ settled i.
    let n = normal_of contents in
    (meant indentation n, subst (λ s. literal_reads s (meant indentation n)) (sym is) (reads indentation n i), λ made kind raw. matches contents made indentation settled i kind raw)
law-ok (Err e) indentation contents is = tt

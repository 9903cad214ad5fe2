-- White space inside a scalar, one character further.
use Rattle.snap_scan_tokens.proofs.Prelude.{◌≡◌, ℕ, List, [], ◌∷◌, ◌++◌, false, ◌≤◌, ◌==◌, refl, sym, ap, ◌∙◌, arith, append-nil, append_assoc, Gap, with_blank, with_break, gap_of, no_gap, is_document_indicator, Place, before, EndsIn}
use Rattle.snap_scan_tokens.specs.declared.folding.Fold.{Fold}
use Rattle.snap_scan_tokens.specs.declared.folding.Fold.TheVariants.{Inline, Broken, Escaped}
use Rattle.snap_scan_tokens.proofs.Pieces.{before-next, before-same, before-cons}

abbrev gap : Fold → List ℕ → Gap
gap fold text = record { fold = fold; text = text }

of-blank : (fold : Fold) (text all : List ℕ) (c : ℕ) (cs : List ℕ) → EndsIn all (c ∷ cs)
    → gap_of (gap fold text) (before all cs) ≡ with_blank c (gap_of (gap fold text) (before all (c ∷ cs)))
of-blank Inline text all c cs ends = ap (gap Inline) (before-next all c cs ends)
of-blank Broken text all c cs ends = refl
of-blank Escaped text all c cs ends = refl

pub gap-blank : (g : Gap) (all : List ℕ) (c : ℕ) (cs : List ℕ) → EndsIn all (c ∷ cs) → gap_of g (before all cs) ≡ with_blank c (gap_of g (before all (c ∷ cs)))
gap-blank g all c cs ends = of-blank g.fold g.text all c cs ends

of-break : (fold : Fold) (text xs ys : List ℕ) → gap_of (with_break (gap fold text)) ys ≡ with_break (gap_of (gap fold text) xs)
of-break Inline text xs ys = refl
of-break Broken text xs ys = refl
of-break Escaped text xs ys = refl

pub gap-break : (g : Gap) (xs ys : List ℕ) → gap_of (with_break g) ys ≡ with_break (gap_of g xs)
gap-break g xs ys = of-break g.fold g.text xs ys

pub gap-none : (xs : List ℕ) → gap_of no_gap (before xs xs) ≡ no_gap
gap-none xs = ap (gap Inline) (before-same xs)

pub no-more : (text xs : List ℕ) → text ++ before xs xs ≡ text
no-more text xs = let f : List ℕ → List ℕ = λ l. text ++ l in ap f (before-same xs) ∙ append-nil text

pub regroup : (text : List ℕ) (c : ℕ) (cs ys : List ℕ) → EndsIn cs ys → text ++ before (c ∷ cs) ys ≡ (text ++ c ∷ []) ++ before cs ys
regroup text c cs ys ends =
    let f : List ℕ → List ℕ = λ l. text ++ l in
    ap f (before-cons c cs ys ends) ∙ sym (append_assoc text (c ∷ []) (before cs ys))

-- no document indicator stands within a line
pub mid-line : (p : Place) → 1 ≤ p.col → is_document_indicator p ≡ false
mid-line p inside = let e : (p.col == 0) ≡ false = grind arith in rw e refl

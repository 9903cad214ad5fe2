-- A text is its first line, and its further ones after blanks.
use Rattle.snap_emit_values.proofs.Prelude.{◌≡◌, ℕ, List, [], ◌∷◌, ◌++◌, refl, sym, ap, ◌∙◌, append_assoc, or_parts, list_any, ◌==◌, IsBegun, break_at, shifted}
use Rattle.snap_str.specs.Cut.{Lacks, IsCutAtFirst}

pub one-line : (k : ℕ) (line : List ℕ) → Lacks 10 line → shifted k line ≡ line
one-line k [] h = refl
one-line k (c ∷ cs) h = let two = or_parts (c == 10) (list_any (λ x. x == 10) cs) h in rw two.0 (ap (λ (x : List ℕ). c ∷ x) (one-line k cs two.1))

pub first-line : (k : ℕ) (line behind : List ℕ) → Lacks 10 line → shifted k (line ++ 10 ∷ behind) ≡ line ++ (break_at k ++ shifted k behind)
first-line k [] behind h = refl
first-line k (c ∷ cs) behind h = let two = or_parts (c == 10) (list_any (λ x. x == 10) cs) h in rw two.0 (ap (λ (x : List ℕ). c ∷ x) (first-line k cs behind two.1))

-- a line more was written
pub split-on : (k : ℕ) (text done rest line behind : List ℕ) → shifted k text ≡ done ++ shifted k rest → IsCutAtFirst 10 rest line behind
    → shifted k text ≡ done ++ (line ++ break_at k) ++ shifted k behind
split-on k text done rest line behind split cut =
    let at : List ℕ → List ℕ = λ x. done ++ shifted k x in
    let after : List ℕ → List ℕ = λ x. done ++ x in
    split ∙ ap at cut.is ∙ ap after (first-line k line behind cut.first) ∙ ap after (sym (append_assoc line (break_at k) (shifted k behind)))
    ∙ sym (append_assoc done (line ++ break_at k) (shifted k behind))

-- a beginning of a piece was written after what was written before
pub begun-at : (old mid new done piece rest full : List ℕ) → mid ≡ old ++ done → full ≡ done ++ piece ++ rest → IsBegun mid new piece → IsBegun old new full
begun-at old mid new done piece rest full a split h =
    let front : List ℕ → List ℕ = λ x. done ++ x ++ rest in
    let glue : done ++ (h.added ++ h.rest) ++ rest ≡ done ++ h.added ++ (h.rest ++ rest) = simp append_assoc in
    record {
      added = done ++ h.added;
      rest = h.rest ++ rest;
      whole = split ∙ ap front h.whole ∙ glue;
      is = h.is ∙ ap (λ (x : List ℕ). x ++ h.added) a ∙ append_assoc old done h.added;
    }

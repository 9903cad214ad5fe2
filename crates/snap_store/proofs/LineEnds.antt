-- A piece and its line's end.
use Rattle.snap_store.proofs.Prelude.{◌≡◌, ◌==◌, ℕ, List, [], ◌∷◌, ◌++◌, Bool, true, false, ◌&&◌, cond, refl, sym, ap, ◌∙◌, true-eqb, and_parts, is_end, line_of}

-- a line's end ends in LF
end_feeds : (text : List ℕ) → is_end text ≡ true → (cs : List ℕ) × (text ≡ cs ++ 10 ∷ [])
end_feeds [] h = absurd (cc)
end_feeds (c ∷ []) h = ([], ap (λ x. x ∷ []) (true-eqb c 10 (sym h)))
end_feeds (c ∷ d ∷ []) h = (c ∷ [], ap (λ x. c ∷ x ∷ []) (true-eqb d 10 (sym (and_parts (c == 13) (d == 10) h).1)))
end_feeds (c ∷ d ∷ e ∷ cs) h = absurd (cc)

pub unended : (piece : List ℕ) → ((cs : List ℕ) → piece ≡ cs ++ 10 ∷ [] → ⊥) → line_of piece ≡ piece
unended [] h = refl
unended (c ∷ cs) h =
    ap (λ b. cond b [] (c ∷ line_of cs)) (by (is_end (c ∷ cs)) refl) ∙ ap (λ t. c ∷ t) (unended cs (λ front e. h (c ∷ front) (ap (λ t. c ∷ t) e)))
  where
    by : (b : Bool) → is_end (c ∷ cs) ≡ b → is_end (c ∷ cs) ≡ false
    by true is = let f = end_feeds (c ∷ cs) is in absurd (h f.0 f.1)
    by false is = is

pub ended_by_feed : (line : List ℕ) → ((cs : List ℕ) → line ≡ cs ++ 13 ∷ [] → ⊥) → line_of (line ++ 10 ∷ []) ≡ line
ended_by_feed [] h = refl
ended_by_feed (c ∷ []) h = by (c == 13) refl
  where
    by : (b : Bool) → (c == 13) ≡ b → cond (c == 13 && true) [] (c ∷ []) ≡ c ∷ []
    by true is = absurd (h [] (ap (λ x. x ∷ []) (true-eqb c 13 (sym is))))
    by false is = ap (λ b. cond (b && true) [] (c ∷ [])) is
ended_by_feed (c ∷ d ∷ []) h = ap (λ t. c ∷ t) (ended_by_feed (d ∷ []) (λ front e. h (c ∷ front) (ap (λ t. c ∷ t) e)))
ended_by_feed (c ∷ d ∷ e ∷ cs) h = ap (λ t. c ∷ t) (ended_by_feed (d ∷ e ∷ cs) (λ front e. h (c ∷ front) (ap (λ t. c ∷ t) e)))

pub ended_by_both : (line : List ℕ) → line_of ((line ++ 13 ∷ []) ++ 10 ∷ []) ≡ line
ended_by_both [] = refl
ended_by_both (c ∷ []) = refl
ended_by_both (c ∷ d ∷ []) = refl
ended_by_both (c ∷ d ∷ e ∷ cs) = ap (λ t. c ∷ t) (ended_by_both (d ∷ e ∷ cs))

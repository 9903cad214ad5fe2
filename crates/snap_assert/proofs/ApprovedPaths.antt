-- The approved path, beside those of what waits for it.
use Rattle.snap_assert.proofs.Prelude.{◌≡◌, ℕ, Bool, false, cond, ◌||◌, ◌&&◌, List, [], ◌∷◌, ◌++◌, None, refl, ap, ◌∙◌, eq-eqb, codes, bytes_eq, past_mark, is_written, may_change, is_slashless, is_stray, pending_path, InPlace, NewFile, NoUpdate}

shorter : (path : List ℕ) (c : ℕ) (cs : List ℕ) → bytes_eq path (path ++ c ∷ cs) ≡ false
shorter [] c cs = refl
shorter (x ∷ path) c cs = ap (λ t. t && bytes_eq path (path ++ c ∷ cs)) (eq-eqb x x refl) ∙ shorter path c cs

longer : (path : List ℕ) (c : ℕ) (cs : List ℕ) → bytes_eq (path ++ c ∷ cs) path ≡ false
longer [] c cs = refl
longer (x ∷ path) c cs = ap (λ t. t && bytes_eq (path ++ c ∷ cs) path) (eq-eqb x x refl) ∙ longer path c cs

not_past : (path : List ℕ) (c : ℕ) (cs : List ℕ) → past_mark (path ++ c ∷ cs) path ≡ None
not_past [] c cs = refl
not_past (x ∷ path) c cs = ap (λ t. cond t (past_mark (path ++ c ∷ cs) path) None) (eq-eqb x x refl) ∙ not_past path c cs

none_of : (a b c : Bool) → a ≡ false → b ≡ false → c ≡ false → (a || (b || c)) ≡ false
none_of a b c e f g = ap (λ x. x || (b || c)) e ∙ ap (λ x. x || c) f ∙ g

not_waiting : (path : List ℕ) → bytes_eq path (pending_path path) ≡ false
not_waiting path = shorter path 46 (codes "new")

not_stray : (path : List ℕ) → is_stray path path ≡ false
not_stray path = ap is_slashless (not_past path 46 (codes "new."))

pub unchanged_beside : (path : List ℕ) → may_change NewFile path path ≡ false
unchanged_beside path = none_of _ _ _ (not_waiting path) (not_waiting path) (not_stray path)

pub unchanged_without : (path : List ℕ) → may_change NoUpdate path path ≡ false
unchanged_without path = none_of false _ _ refl (not_waiting path) (not_stray path)

pub unwritten_in_place : (path : List ℕ) → is_written InPlace path (pending_path path) ≡ false
unwritten_in_place path = longer path 46 (codes "new")

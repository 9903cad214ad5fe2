-- Paths that are written step by step.
use Rattle.snap_select.proofs.Prelude.{◌≡◌, ℕ, ◌+◌, ◌<◌, List, [], ◌∷◌, ◌++◌, length, take, get_or, refl, sym, ap, ◌∙◌, append_assoc, append-nil, map-append, take_more, encodes-chars, HasWritten, map, chars, IsUtf8, Step, step_of, step_text, path_text, PathItem}
use Rattle.std.proofs.Output.{has_written_append, has_written_of_eq}
use Rattle.std.specs.declared.fmt.Formatter.{Formatter}
use lib.Utf8.{encodes}

pub shown_item : {W : Type 0} (took : W → List ℕ → W → Type 0) (f next : Formatter W) (item : PathItem) (text bytes : List ℕ) → step_text (step_of item) ≡ encodes text → chars bytes ≡ text → IsUtf8 bytes
    → HasWritten took f bytes next → HasWritten took f (step_text (step_of item)) next
shown_item took f next item text bytes is e utf8 h = has_written_of_eq took f bytes (step_text (step_of item)) next (sym (encodes-chars bytes utf8) ∙ ap encodes e ∙ sym is) h

-- one step more
path_append : (a b : List Step) → path_text (a ++ b) ≡ path_text a ++ path_text b
path_append [] b = refl
path_append (s ∷ ss) b = ap (λ x. 46 ∷ (step_text s ++ x)) (path_append ss b) ∙ ap (λ x. 46 ∷ x) (sym (append_assoc (step_text s) (path_text ss) (path_text b)))

pub path_more : (done : List Step) (step : Step) → (path_text done ++ 46 ∷ []) ++ step_text step ≡ path_text (done ++ step ∷ [])
path_more done step =
    append_assoc (path_text done) (46 ∷ []) (step_text step) ∙ ap (λ x. path_text done ++ 46 ∷ x) (sym (append-nil (step_text step))) ∙ sym (path_append done (step ∷ []))

pub shown_more : {W : Type 0} (took : W → List ℕ → W → Type 0) (f g between next : Formatter W) (done : List Step) (step : Step) (whole : List Step) → whole ≡ done ++ step ∷ []
    → HasWritten took f (path_text done) g → HasWritten took g (46 ∷ []) between → HasWritten took between (step_text step) next → HasWritten took f (path_text whole) next
shown_more took f g between next done step whole e h k m =
    has_written_of_eq took f ((path_text done ++ 46 ∷ []) ++ step_text step) (path_text whole) next (path_more done step ∙ ap path_text (sym e))
    (has_written_append took f (path_text done ++ 46 ∷ []) between (step_text step) next (has_written_append took f (path_text done) g (46 ∷ []) between h k) m)

-- one item more
pub items_more : (xs : List PathItem) (i : ℕ) (item : PathItem) → i < length xs → item ≡ get_or xs i item → map step_of (take (i + 1) xs) ≡ map step_of (take i xs) ++ step_of item ∷ []
items_more xs i item h e =
    ap (λ ys. map step_of ys) (take_more xs i item h ∙ ap (λ x. take i xs ++ x ∷ []) (sym e)) ∙ map-append step_of (take i xs) (item ∷ [])

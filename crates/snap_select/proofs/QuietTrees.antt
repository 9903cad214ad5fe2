-- A tree of which nothing is hit is redacted to itself.
use Rattle.snap_select.proofs.Prelude.{◌≡◌, ℕ, Bool, true, false, List, [], ◌∷◌, refl, Step, path_match, Parts, Allowed, IsRedacted, IsHit}
use Rattle.snap_content.specs.Tree as t
use Rattle.snap_select.proofs.OneRedacted.{agree}
use Rattle.snap_select.proofs.Reached.{same_redacted}
use Rattle.snap_select.proofs.RedactedParts.{root_hit, hit_above}

abbrev IsQuiet : Parts → List Step → t.Tree → Type 0
IsQuiet ss path c = (position : List ℕ) → ¬ IsHit ss path c position

unmatched : (ss : Parts) (path : List Step) (c : t.Tree) → IsQuiet ss path c → path_match ss path ≡ false
unmatched ss path c quiet = by (path_match ss path) refl
  where
    by : (b : Bool) → path_match ss path ≡ b → b ≡ false
    by true e = absurd (quiet [] (root_hit ss path c e))
    by false e = refl

-- no tree may be put
abbrev never : Allowed
never c steps out = ⊥

pub quiet_redacted : (ss : Parts) (allows : Allowed) (c out : t.Tree) → IsQuiet ss [] c → IsRedacted ss allows c out → out ≡ c
quiet_redacted ss allows c out quiet p =
    agree ss allows never (λ c steps x y e f. absurd f) c out c p (record {
      parts = same_redacted ss never (IsQuiet ss) (unmatched ss)
          (λ path c quiet k child at position hit. quiet (k ∷ position) (hit_above ss path c k position child (unmatched ss path c quiet) at hit)) [] c quiet;
    })

-- Blanks, some of them after others.
use Rattle.snap_json.proofs.Prelude.{◌≡◌, ℕ, zero, suc, ◌+◌, ◌-◌, ◌≤◌, List, ◌∷◌, ◌++◌, sym, ap, ◌∙◌, arith, zero-add, blanks, whole, IsAdded, IsStopped, JsonError}
use Rattle.snap_json.proofs.Behind.{stopped_first, stopped_behind, stopped_as, added_behind, added_as}

blanks-add : (i j : ℕ) → blanks (i + j) ≡ blanks i ++ blanks j
blanks-add zero j = ap blanks (zero-add j)
blanks-add (suc i) j = let e : suc i + j ≡ suc (i + j) = omega arith in ap blanks e ∙ ap (λ x. 32 ∷ x) (blanks-add i j)

split : (k i j : ℕ) → i + j ≤ k → blanks i ++ (blanks j ++ blanks (k - (i + j))) ≡ blanks k
split k i j within =
    let e : i + (j + (k - (i + j))) ≡ k = omega arith in
    ap (λ x. blanks i ++ x) (sym (blanks-add j (k - (i + j)))) ∙ sym (blanks-add i (j + (k - (i + j)))) ∙ ap blanks e

pub blanks_added : {old mid new : List ℕ} (i j : ℕ) → IsAdded old mid (whole (blanks i)) → IsAdded mid new (whole (blanks j))
    → IsAdded old new (whole (blanks (i + j)))
blanks_added i j h k = added_as (whole (blanks i ++ blanks j)) (whole (blanks (i + j))) (ap whole (sym (blanks-add i j))) (added_behind h k)

pub blanks_stopped : {e : JsonError} {old mid new : List ℕ} (k i j : ℕ) → i + j ≤ k → IsAdded old mid (whole (blanks i))
    → IsStopped e mid new (whole (blanks j)) → IsStopped e old new (whole (blanks k))
blanks_stopped k i j within h s =
    stopped_as (whole (blanks i ++ (blanks j ++ blanks (k - (i + j))))) (whole (blanks k)) (ap whole (split k i j within))
    (stopped_behind h (stopped_first (whole (blanks (k - (i + j)))) s))

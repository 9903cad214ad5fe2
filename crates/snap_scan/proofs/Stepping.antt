-- One fetch, put together from its parts.
use Rattle.snap_scan.proofs.Prelude.{◌≡◌, ℕ, Bool, true, false, Some, Result, ap, refl, ◌∙◌, mark_of, ScanError, TokenKind, any_overdue, kind_of, State, in_flow, unrolled, stale, to_next, done, Does, kind_step, at_token, token_step, step, cond-true, cond-false}
use Rattle.snap_scan.proofs.Soundness.{either}

-- the token that stands here is fetched once stale keys are given up and blocks closed
pub does-token : {T : Type 0} (s t u : State) (col : ℕ) (flow : Bool) (kind : TokenKind) (r : Result T ScanError) (new : State)
    → any_overdue (mark_of s.place) s.keys ≡ false → t ≡ stale s → col ≡ t.place.col → u ≡ unrolled (Some col) t
    → flow ≡ in_flow u → kind ≡ kind_of flow u.adjacent u.place → Does (kind_step kind u) r new → Does (token_step s) r new
does-token s t u col flow kind r new fresh stale_is column unrolled_is flow_is kind_is does =
    let column_is : col ≡ s.place.col = column ∙ ap (λ (v : State). v.place.col) stale_is in
    let at_is : u ≡ at_token s = unrolled_is ∙ ap (λ (v : State). unrolled (Some col) v) stale_is ∙ ap (λ (j : ℕ). unrolled (Some j) (stale s)) column_is in
    let kept : (at_token s).adjacent ≡ s.adjacent = either (λ v. v.adjacent ≡ s.adjacent) (in_flow (stale s)) (stale s) _ refl refl in
    let adjacent_is : u.adjacent ≡ s.adjacent = ap (λ (v : State). v.adjacent) at_is ∙ kept in
    let named : kind ≡ kind_of (in_flow u) s.adjacent u.place =
    kind_is ∙ ap (λ (b : Bool). kind_of b u.adjacent u.place) flow_is ∙ ap (λ (n : ℕ). kind_of (in_flow u) n u.place) adjacent_is in
    rw fresh (rw at_is at (rw named at does))

-- which of the three a fetch is
pub step-token : (s : State) → s.ended ≡ false → s.started ≡ true → step s ≡ token_step (to_next s.place.left s)
step-token s going begun = cond-false s.ended _ _ going ∙ cond-true s.started _ _ begun

pub step-over : (s : State) → s.ended ≡ true → step s ≡ done s
step-over s ended = cond-true s.ended _ _ ended

-- a fetch after StreamStart
pub does-step : {T : Type 0} (s t : State) (r : Result T ScanError) (new : State) → s.ended ≡ false → s.started ≡ true → t ≡ to_next s.place.left s
    → Does (token_step t) r new → Does (step s) r new
does-step s t r new going begun at does =
    rw (step-token s going begun) (rw at at does)

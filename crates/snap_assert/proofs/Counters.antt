-- Counters that are set one by one.
use Rattle.snap_assert.proofs.Prelude.{◌≡◌, ◌+◌, ◌<◌, ◌≤◌, ℕ, List, [], ◌∷◌, ◌++◌, length, take, get_or, refl, sym, ap, ◌∙◌, take_more, take_all, SessionView}
use Rattle.snap_assert.specs.Session.{Counter, with_counter, with_counters}

with_counters-push : (cs : List Counter) (c : Counter) (s : SessionView) → with_counters (cs ++ c ∷ []) s ≡ with_counter (with_counters cs s) c
with_counters-push [] c s = refl
with_counters-push (x ∷ cs) c s = with_counters-push cs c (with_counter s x)

pub one_more : (cs : List Counter) (i : ℕ) (c : Counter) (s now next : SessionView) → i < length cs → c ≡ get_or cs i c → now ≡ with_counters (take i cs) s → next ≡ with_counter now c
    → next ≡ with_counters (take (i + 1) cs) s
one_more cs i c s now next h is so then =
    then ∙ ap (λ t. with_counter t c) so ∙ sym (with_counters-push (take i cs) c s)
    ∙ sym (ap (λ t. with_counters t s) (take_more cs i c h ∙ ap (λ x. take i cs ++ x ∷ []) (sym is)))

pub all_set : (cs : List Counter) (i : ℕ) (s now : SessionView) → length cs ≤ i → now ≡ with_counters (take i cs) s → now ≡ with_counters cs s
all_set cs i s now h so = so ∙ ap (λ t. with_counters t s) (take_all i cs h)

-- The turns of a demonstration, by what passed in each.
use Rattle.snap_demo_laws.proofs.Prelude.{◌≡◌, refl, ap, ◌∙◌, subst, arith, ℕ, zero, suc, ◌+◌, ◌^◌, ◌<◌, List, [], ◌∷◌, length, Bool, false, Files, InPlace, next_of, demo_request, empty_session, step, Answer, demo_run, requests_of, step_by, files_after, AreAllowed}
use Rattle.snap_demo.specs.Stream.{requests_from, SpellEach}
use Rattle.snap_run_requests.proofs.Requesting.{only_spelled}
use Rattle.snap_run_requests.specs.Requests.{RequestView, Reads}
use Rattle.snap_demo_laws.proofs.Asked.{asked_at, May_at, may_at, remembered_at, step_at}

abbrev pub AreTurns : ℕ → ℕ → List Bool → Files → Type 0
AreTurns i x [] m = Unit {0}
AreTurns i x (b ∷ bs) m = May_at i x b m × AreTurns (i + 1) (next_of x) bs (step InPlace false (asked_at i x) b m)

abbrev pub after : ℕ → ℕ → List Bool → Files → Files
after i x [] m = m
after i x (b ∷ bs) m = after (i + 1) (next_of x) bs (step InPlace false (asked_at i x) b m)

abbrev pub answers_from : ℕ → ℕ → List Bool → List Answer
answers_from i x [] = []
answers_from i x (b ∷ bs) = record { request = demo_request i x; passed = b } ∷ answers_from (i + 1) (next_of x) bs

-- the answers of a run are those of its requests

pub record AreAnswers (i x n : ℕ) (answers : List Answer) : Type 0 where
  pub bools : List Bool
  pub are : answers ≡ answers_from i x bools
  pub many : length bools ≡ n

pub answers_are : (i x n : ℕ) (answers : List Answer) → requests_of answers ≡ requests_from i x n → AreAnswers i x n answers
answers_are i x zero [] e = record { bools = []; are = refl; many = refl }
answers_are i x zero (a ∷ answers) e = absurd (cc e)
answers_are i x (suc n) [] e = absurd (cc e)
answers_are i x (suc n) (a ∷ answers) e =
    let head : a.request ≡ demo_request i x = cc in
    let tail : requests_of answers ≡ requests_from (i + 1) (next_of x) n = cc in
    let r = answers_are (i + 1) (next_of x) n answers tail in
    record {
      bools = a.passed ∷ r.bools;
      are = ap (λ q. record { request = q; passed = a.passed } ∷ answers) head ∙ ap (λ more. record { request = demo_request i x; passed = a.passed } ∷ more) r.are;
      many = ap suc r.many;
    }

pub requests_are : (docs : List (List ℕ)) (rs ss : List RequestView) → SpellEach docs rs → Reads docs ss → ss ≡ rs
requests_are [] [] [] spell reads = refl
requests_are [] [] (s ∷ ss) spell reads = absurd reads
requests_are [] (r ∷ rs) ss spell reads = absurd spell
requests_are (d ∷ docs) [] ss spell reads = absurd spell
requests_are (d ∷ docs) (r ∷ rs) [] spell reads = absurd reads
requests_are (d ∷ docs) (r ∷ rs) (s ∷ ss) spell reads =
    ap (λ q. q ∷ ss) (only_spelled d r s spell.0 reads.0) ∙ ap (λ more. r ∷ more) (requests_are docs rs ss spell.1 reads.1)

-- what is allowed of them is what is allowed of the turns, and the files are those after these

pub turns_are : (i x : ℕ) (bs : List Bool) (m : Files) → i + length bs < 2 ^ 32 → AreAllowed demo_run (answers_from i x bs) empty_session m → AreTurns i x bs m
turns_are i x [] m small h = tt
turns_are i x (b ∷ bs) m small h =
    let place : i < 2 ^ 64 = omega (arith, small) in
    let more : (i + 1) + length bs < 2 ^ 32 = omega (arith, small) in
    let one = subst (λ s. AreAllowed demo_run (answers_from (i + 1) (next_of x) bs) s (step_by demo_run (demo_request i x) b empty_session m)) (remembered_at i x) h.1 in
    let two = subst (AreAllowed demo_run (answers_from (i + 1) (next_of x) bs) empty_session) (step_at i x b m) one in
    (may_at i x b m place h.0, turns_are (i + 1) (next_of x) bs (step InPlace false (asked_at i x) b m) more two)

pub files_are : (i x : ℕ) (bs : List Bool) (m : Files) → files_after demo_run (answers_from i x bs) empty_session m ≡ after i x bs m
files_are i x [] m = refl
files_are i x (b ∷ bs) m =
    ap (λ s. files_after demo_run (answers_from (i + 1) (next_of x) bs) s (step_by demo_run (demo_request i x) b empty_session m)) (remembered_at i x)
    ∙ ap (files_after demo_run (answers_from (i + 1) (next_of x) bs) empty_session) (step_at i x b m) ∙ files_are (i + 1) (next_of x) bs (step InPlace false (asked_at i x) b m)

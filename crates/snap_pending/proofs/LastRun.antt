-- The records of the last run.
use Rattle.snap_pending.proofs.Prelude.{◌≡◌, ℕ, suc, ◌-◌, Bool, true, false, cond, List, [], ◌∷◌, length, map, Some, refl, ap, sym, ◌∙◌, filter, slice_get, bytes_eq, last_run, is_of_run, batch_of, pending_of, PendingInlineSnapshot}
use Rattle.std.proofs.Math.Numerals.{sub-one}

-- what passes is seen as what passes of what is seen
filter_seen : {X Y : Type 0} (f : X → Y) (test : Y → Bool) (xs : List X) → map f (filter (λ x. test (f x)) xs) ≡ filter test (map f xs)
filter_seen f test [] = refl
filter_seen {X} {Y} f test (x ∷ xs) = both (test (f x)) (filter_seen f test xs)
  where
    both : (b : Bool) → map f (filter (λ y. test (f y)) xs) ≡ filter test (map f xs)
        → map f (cond b (x ∷ filter (λ y. test (f y)) xs) (filter (λ y. test (f y)) xs)) ≡ cond b (f x ∷ filter test (map f xs)) (filter test (map f xs))
    both true same = ap (λ ys. f x ∷ ys) same
    both false same = same

-- the last of more than one is the last of the others
one_back : (y z : PendingInlineSnapshot) (zs : List PendingInlineSnapshot)
    → slice_get (y ∷ z ∷ zs) (length (y ∷ z ∷ zs) - 1) ≡ slice_get (z ∷ zs) (length (z ∷ zs) - 1)
one_back y z zs =
    ap (slice_get (y ∷ z ∷ zs)) (sub-one (suc (suc (length zs)))) ∙ sym (ap (slice_get (z ∷ zs)) (sub-one (suc (length zs))))

-- the run of the last record
run_of_last : (xs : List PendingInlineSnapshot) (x : PendingInlineSnapshot) → slice_get xs (length xs - 1) ≡ Some x
    → last_run (map pending_of xs) ≡ Some (pending_of x).run_id
run_of_last [] x h = absurd (cc)
run_of_last (y ∷ []) x h = let same : y ≡ x = cc in ap (λ z. Some (pending_of z).run_id) same
run_of_last (y ∷ z ∷ zs) x h = run_of_last (z ∷ zs) x (sym (one_back y z zs) ∙ h)

pub kept : (xs : List PendingInlineSnapshot) (x : PendingInlineSnapshot) (run : List ℕ) → Some x ≡ slice_get xs (length xs - 1) → run ≡ (pending_of x).run_id
    → map pending_of (filter (λ y. bytes_eq (pending_of y).run_id run) xs) ≡ batch_of (map pending_of xs)
kept xs x run h is =
    filter_seen pending_of (λ p. bytes_eq p.run_id run) xs
    ∙ ap (λ r. filter (is_of_run r) (map pending_of xs)) (ap Some is ∙ sym (run_of_last xs x (sym h)))

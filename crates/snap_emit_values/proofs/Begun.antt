-- What a text has after some steps, and what being out of memory leaves of it.
use Rattle.snap_emit_values.proofs.Prelude.{◌≡◌, ℕ, List, [], ◌++◌, refl, sym, ap, ◌∙◌, append_assoc, Result, Ok, Err, OnErr, OnOk, append-nil, IsBegun}

-- nothing was added
pub unmoved : (old new full : List ℕ) → new ≡ old → IsBegun old new full
unmoved old new full same = record { added = []; rest = full; whole = refl; is = same ∙ sym (append-nil old) }

-- what was added in two steps
pub added_twice : (old mid new a b : List ℕ) → mid ≡ old ++ a → new ≡ mid ++ b → new ≡ old ++ (a ++ b)
added_twice old mid new a b first second = second ∙ ap (λ x. x ++ b) first ∙ append_assoc old a b

-- the first of two parts was begun
pub begun_first : (old new a b : List ℕ) → IsBegun old new a → IsBegun old new (a ++ b)
begun_first old new a b h =
    record { added = h.added; rest = h.rest ++ b; whole = ap (λ x. x ++ b) h.whole ∙ append_assoc h.added h.rest b; is = h.is }

-- the first of two parts was added, the second begun
pub begun_then : (old mid new a b : List ℕ) → mid ≡ old ++ a → IsBegun mid new b → IsBegun old new (a ++ b)
begun_then old mid new a b done h =
    record {
      added = a ++ h.added;
      rest = h.rest;
      whole = ap (λ x. a ++ x) h.whole ∙ sym (append_assoc a h.added h.rest);
      is = h.is ∙ ap (λ x. x ++ h.added) done ∙ append_assoc old a h.added;
    }

pub begun_as : (old new a b : List ℕ) → a ≡ b → IsBegun old new a → IsBegun old new b
begun_as old new a b same h = record { added = h.added; rest = h.rest; whole = sym same ∙ h.whole; is = h.is }

-- under an error, and with none
pub on_err : {E : Type 0} (r : Result (Unit {0}) E) (P : Type 0) → P → OnErr r P
on_err (Ok _) P h = tt
on_err (Err _) P h = h

-- what holds where a value was made holds at a success
pub on_ok : {E : Type 0} (r : Result (Unit {0}) E) (P : Type 0) → P → OnOk r P
on_ok (Ok _) P h = h
on_ok (Err _) P h = tt

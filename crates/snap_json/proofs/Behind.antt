-- What is written in two steps, and what an error leaves in either.
use Rattle.snap_json.proofs.Prelude.{◌≡◌, ℕ, List, [], ◌++◌, refl, sym, ap, ◌∙◌, append_assoc, Result, Ok, Err, IsErrAnd, append-nil, Written, whole, stopped, characters, behind, IsAdded, IsStopped, IsBegun, Wrote, JsonError, JsonKey, OutOfMemory}

pub never_whole : (s u : List ℕ) → stopped s ≡ whole u → ⊥
never_whole s u h = cc

pub never_stopped : (s u : List ℕ) → whole s ≡ stopped u → ⊥
never_stopped s u h = cc

never_key : OutOfMemory ≡ JsonKey → ⊥
never_key h = cc

pub same_whole : (s u : List ℕ) → whole s ≡ whole u → s ≡ u
same_whole s u h = cc

-- what stands after a whole text
characters-behind : (s : List ℕ) (b : Written) → characters (behind (whole s) b) ≡ s ++ characters b
characters-behind s (whole u) = refl
characters-behind s (stopped u) = refl

-- both steps were done
pub added_behind : {old mid new : List ℕ} {a b : Written} → IsAdded old mid a → IsAdded mid new b → IsAdded old new (behind a b)
added_behind {old} {mid} {new} {a} {b} h k = record {
  added = h.added ++ k.added;
  is_whole = ap (λ x. behind x b) h.is_whole ∙ ap (behind (whole h.added)) k.is_whole;
  is_new = k.is_new ∙ ap (λ x. x ++ k.added) h.is_new ∙ append_assoc old h.added k.added;
}

first_stopped : (e : JsonError) (old new : List ℕ) (a b : Written) → IsStopped e old new a → IsStopped e old new (behind a b)
first_stopped e old new (whole s) b h = record {
  added = h.added;
  rest = h.rest ++ characters b;
  is_full = characters-behind s b ∙ ap (λ x. x ++ characters b) h.is_full ∙ append_assoc h.added h.rest (characters b);
  is_new = h.is_new;
  at_key = λ key. absurd (never_stopped s h.added (h.at_key key));
}
first_stopped e old new (stopped s) b h = h

second_stopped : (e : JsonError) (old mid new : List ℕ) (a b : Written) → IsAdded old mid a → IsStopped e mid new b → IsStopped e old new (behind a b)
second_stopped e old mid new (whole s) b h k =
    let same : s ≡ h.added = same_whole s h.added h.is_whole in
    record {
      added = s ++ k.added;
      rest = k.rest;
      is_full = characters-behind s b ∙ ap (λ x. s ++ x) k.is_full ∙ sym (append_assoc s k.added k.rest);
      is_new = k.is_new ∙ ap (λ x. x ++ k.added) (h.is_new ∙ ap (λ x. old ++ x) (sym same)) ∙ append_assoc old s k.added;
      at_key = λ key. ap (behind (whole s)) (k.at_key key);
    }
second_stopped e old mid new (stopped s) b h k = absurd (never_whole s h.added h.is_whole)

-- the first step failed, and nothing of the second was written
pub stopped_first : {e : JsonError} {old new : List ℕ} {a : Written} (b : Written) → IsStopped e old new a → IsStopped e old new (behind a b)
stopped_first {e} {old} {new} {a} b h = first_stopped e old new a b h

-- the second failed
pub stopped_behind : {e : JsonError} {old mid new : List ℕ} {a b : Written} → IsAdded old mid a → IsStopped e mid new b → IsStopped e old new (behind a b)
stopped_behind {e} {old} {mid} {new} {a} {b} h k = second_stopped e old mid new a b h k

-- an error that a `?` hands on
pub on_exit : {old new : List ℕ} {w : Written} {e : JsonError} (r : Result (Unit {0}) JsonError) → IsErrAnd r (λ x. x ≡ e) → IsStopped e old new w
    → Wrote r old new w
on_exit {w = w} (Ok x) is h = absurd is
on_exit {old} {new} {w} {e} (Err x) is h = rw is h

-- the second step is the last
last_behind : (r : Result (Unit {0}) JsonError) (old mid new : List ℕ) (a b : Written) → IsAdded old mid a → Wrote r mid new b
    → Wrote r old new (behind a b)
last_behind (Ok x) old mid new a b h k = added_behind h k
last_behind (Err e) old mid new a b h k = stopped_behind h k

pub wrote_behind : {old mid : List ℕ} {a : Written} (r : Result (Unit {0}) JsonError) (new : List ℕ) (b : Written) → IsAdded old mid a → Wrote r mid new b
    → Wrote r old new (behind a b)
wrote_behind {old} {mid} {a} r new b h k = last_behind r old mid new a b h k

-- the same by another name
pub stopped_as : {e : JsonError} {old new : List ℕ} (w v : Written) → w ≡ v → IsStopped e old new w → IsStopped e old new v
stopped_as {e} {old} {new} w v same h = rw same at h

pub added_as : {old new : List ℕ} (w v : Written) → w ≡ v → IsAdded old new w → IsAdded old new v
added_as {old} {new} w v same h = rw same at h

pub wrote_as : (r : Result (Unit {0}) JsonError) (old new : List ℕ) (w v : Written) → w ≡ v → Wrote r old new w → Wrote r old new v
wrote_as r old new w v same h = rw same at h

-- nothing yet
pub added_none : (old : List ℕ) → IsAdded old old (whole [])
added_none old = record { added = []; is_whole = refl; is_new = sym (append-nil old) }

pub behind-assoc : (a b c : Written) → behind (behind a b) c ≡ behind a (behind b c)
behind-assoc (whole s) (whole u) (whole v) = ap whole (append_assoc s u v)
behind-assoc (whole s) (whole u) (stopped v) = ap stopped (append_assoc s u v)
behind-assoc (whole s) (stopped u) c = refl
behind-assoc (stopped s) b c = refl

pub behind-none : (a : Written) → behind (whole []) a ≡ a
behind-none (whole s) = refl
behind-none (stopped s) = refl

pub behind-end : (a : Written) → behind a (whole []) ≡ a
behind-end (whole s) = ap whole (append-nil s)
behind-end (stopped s) = refl

-- out of memory before anything was added
pub out_of_memory : (old : List ℕ) (w : Written) → IsStopped OutOfMemory old old w
out_of_memory old w = record { added = []; rest = characters w; is_full = refl; is_new = sym (append-nil old); at_key = λ key. absurd (never_key key) }

-- a text that out of memory left with a beginning of what was to be added
pub stopped_begun : (old new s : List ℕ) → IsBegun old new s → IsStopped OutOfMemory old new (whole s)
stopped_begun old new s h =
    record { added = h.added; rest = h.rest; is_full = h.whole; is_new = h.is; at_key = λ key. absurd (never_key key) }

-- the same with another column
pub stopped_at : {e : JsonError} {old new : List ℕ} (made : ℕ → Written) (inner k : ℕ) → inner ≡ k → IsStopped e old new (made inner)
    → IsStopped e old new (made k)
stopped_at made inner k same h = stopped_as (made inner) (made k) (ap made same) h

pub wrote_at : (r : Result (Unit {0}) JsonError) (old new : List ℕ) (made : ℕ → Written) (inner k : ℕ) → inner ≡ k → Wrote r old new (made inner)
    → Wrote r old new (made k)
wrote_at r old new made inner k same h = wrote_as r old new (made inner) (made k) (ap made same) h

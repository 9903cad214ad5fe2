-- The names after the front that a folder's files share.
use Rattle.snap_io.proofs.Prelude.{◌≡◌, ◌≢◌, ◌==◌, ℕ, Bool, true, false, not, cond, ◌&&◌, ◌||◌, List, [], ◌∷◌, ◌++◌, Option, None, Some, refl, sym, ◌∙◌, ap, subst, eq-eqb, arith, append_assoc, append-nil, eqb-true, false_from_ne_true, nat_list_cmp_total, tied_itself, sorted_head, sorted_tail, All, AllPairs, is_some, list_any, filter_map, cons_option, AllByRecursion, IsStrictlySortedBy, lookup, keys_of, is_at, bytes_eq, nat_cmp, Less, slice_cmp, get, from_entries, is_component, IsName, front_of, AreNames, joined-name}
use Rattle.std.proofs.lemmas.List.Elements.{All-cons}
use Rattle.std.proofs.lemmas.List.Kept.{AllPairs-cons}
use Rattle.std.proofs.lemmas.Map.Text.{is_eq-slice_cmp}
use Rattle.std.proofs.lemmas.Slice.Eq.{bytes_eq-Decides}
use Rattle.snap_io.proofs.Entries.{get-entries}
use Rattle.snap_io.proofs.Joined.{has_slash, name_from_tests, tests_from_name}

-- the text, where it's a name
abbrev named : List ℕ → Option (List ℕ)
named n = cond (is_component n && not (has_slash n)) (Some n) None

-- what follows the front, where it's a name
abbrev pub name_after : List ℕ → List ℕ → Option (List ℕ)
name_after [] path = named path
name_after (c ∷ front) [] = None
name_after (c ∷ front) (d ∷ path) = cond (c == d) (name_after front path) None

-- the names after the front, in the order of the entries
abbrev pub names_after : List ℕ → List (List ℕ × List ℕ) → List (List ℕ)
names_after front es = filter_map (λ e. name_after front e.0) es

named-name : (n : List ℕ) → IsName n → named n ≡ Some n
named-name n is =
    let tests = tests_from_name n is in
    ap (λ b. cond (b && not (has_slash n)) (Some n) None) tests.0 ∙ ap (λ b. cond (not b) (Some n) None) tests.1

name_named : (path n : List ℕ) → named path ≡ Some n → IsName n × (path ≡ n)
name_named path n = by (is_component path) (has_slash path) refl refl
  where
    by : (a b : Bool) → is_component path ≡ a → has_slash path ≡ b → cond (a && not b) (Some path) None ≡ Some n → IsName n × (path ≡ n)
    by true true p q e = absurd (cc)
    by true false p q e = let same : path ≡ n = cc in (name_from_tests n (ap is_component (sym same) ∙ p) (ap has_slash (sym same) ∙ q), same)
    by false b p q e = absurd (cc)

after_front : (front n : List ℕ) → IsName n → name_after front (front ++ n) ≡ Some n
after_front [] n is = named-name n is
after_front (c ∷ front) n is = ap (λ b. cond b (name_after front (front ++ n)) None) (eq-eqb c c refl) ∙ after_front front n is

from_name_after : (front path n : List ℕ) → name_after front path ≡ Some n → IsName n × (path ≡ front ++ n)
from_name_after [] path n e = name_named path n e
from_name_after (c ∷ front) [] n e = absurd (cc)
from_name_after (c ∷ front) (d ∷ path) n e =
    elim (c == d) as (λ b. (c == d) ≡ b → cond b (name_after front path) None ≡ Some n → IsName n × (d ∷ path ≡ (c ∷ front) ++ n)) [
      | true ↦ λ t f.
          let rest = from_name_after front path n f in
          let same : c ≡ d = eqb-true c d t in
          let tail : path ≡ front ++ n = rest.1 in
          (rest.0, cc)
      | false ↦ λ t f. absurd (cc)
    ] refl e

pub name_found : (front path n : List ℕ) → IsName n → path ≡ front ++ n → name_after front path ≡ Some n
name_found front path n is at = ap (name_after front) at ∙ after_front front n is

pub name_missed : (front path : List ℕ) → ((n : List ℕ) → IsName n → path ≢ front ++ n) → name_after front path ≡ None
name_missed front path other = by (name_after front path) refl
  where
    by : (o : Option (List ℕ)) → name_after front path ≡ o → name_after front path ≡ None
    by None e = e
    by (Some n) e = let there = from_name_after front path n e in absurd (other n there.0 there.1)

only_names : (front : List ℕ) (es : List (List ℕ × List ℕ)) → All IsName (names_after front es)
only_names front [] = λ k d h. absurd (omega arith)
only_names front (e ∷ es) =
    elim (name_after front e.0) as (λ o. name_after front e.0 ≡ o → All IsName (cons_option o (names_after front es))) [
      | None ↦ λ t. only_names front es
      | Some n ↦ λ t. All-cons IsName n (names_after front es) (from_name_after front e.0 n t).0 (only_names front es)
    ] refl

same_name : (front n x : List ℕ) → bytes_eq (front ++ n) (front ++ x) ≡ bytes_eq n x
same_name [] n x = refl
same_name (c ∷ front) n x = ap (λ t. t && bytes_eq (front ++ n) (front ++ x)) (eq-eqb c c refl) ∙ same_name front n x

chosen : {A : Type 0} (b : Bool) (v : A) (o : Option A) → is_some (cond b (Some v) o) ≡ (b || is_some o)
chosen true v o = refl
chosen false v o = refl

-- a name is among them where its path is among the entries
each_name : (front n : List ℕ) (es : List (List ℕ × List ℕ)) → IsName n → list_any (bytes_eq n) (names_after front es) ≡ is_some (lookup (is_at (slice_cmp nat_cmp (front ++ n))) es)
each_name front n [] is = refl
each_name front n (e ∷ es) is =
    let more = is_some (lookup (is_at (slice_cmp nat_cmp (front ++ n))) es) in
    elim (name_after front e.0) as (λ o. name_after front e.0 ≡ o → list_any (bytes_eq n) (cons_option o (names_after front es)) ≡ (bytes_eq (front ++ n) e.0 || more)) [
      | None ↦ λ t.
          let other : bytes_eq (front ++ n) e.0 ≡ false =
          false_from_ne_true _ (λ same. let there = sym t ∙ name_found front e.0 n is (sym ((bytes_eq-Decides (front ++ n) e.0).0 same)) in cc) in
          each_name front n es is ∙ ap (λ b. b || more) (sym other)
      | Some x ↦ λ t.
          let same : bytes_eq (front ++ n) e.0 ≡ bytes_eq n x = ap (bytes_eq (front ++ n)) (from_name_after front e.0 x t).1 ∙ same_name front n x in
          ap (λ b. bytes_eq n x || b) (each_name front n es is) ∙ ap (λ b. b || more) (sym same)
    ] refl
    ∙ ap (λ b. b || more) (sym (is_eq-slice_cmp (front ++ n) e.0))
    ∙ sym (chosen (is_at (slice_cmp nat_cmp (front ++ n)) e.0) e.1 (lookup (is_at (slice_cmp nat_cmp (front ++ n))) es))

-- this path comes before all others
abbrev Below : List ℕ → List (List ℕ × List ℕ) → Type 0
Below path es = AllByRecursion (λ y. slice_cmp nat_cmp path y ≡ Less) (keys_of es)

not_tied : (front n x path : List ℕ) → path ≡ front ++ x → slice_cmp nat_cmp (front ++ n) path ≡ Less → n ≢ x
not_tied front n x path at below same =
    let tie : slice_cmp nat_cmp (front ++ n) path ≡ slice_cmp nat_cmp (front ++ n) (front ++ n) = ap (slice_cmp nat_cmp (front ++ n)) (at ∙ ap (λ y. front ++ y) (sym same)) in
    let equal = tied_itself nat_list_cmp_total (front ++ n) in
    cc (tie, below, equal)

-- a name whose path comes before all others isn't among theirs
apart : (front n : List ℕ) (es : List (List ℕ × List ℕ)) → Below (front ++ n) es → All (λ b. n ≢ b) (names_after front es)
apart front n [] below = λ k d h. absurd (omega arith)
apart front n (e ∷ es) below =
    elim (name_after front e.0) as (λ o. name_after front e.0 ≡ o → All (λ b. n ≢ b) (cons_option o (names_after front es))) [
      | None ↦ λ t. apart front n es below.1
      | Some x ↦ λ t. All-cons (λ b. n ≢ b) x (names_after front es) (not_tied front n x e.0 (from_name_after front e.0 x t).1 below.0) (apart front n es below.1)
    ] refl

once_each : (front : List ℕ) (es : List (List ℕ × List ℕ)) → IsStrictlySortedBy (slice_cmp nat_cmp) (keys_of es) → AllPairs (λ a b. a ≢ b) (names_after front es)
once_each front [] s = λ i j d h k. absurd (omega arith)
once_each front (e ∷ es) s =
    let below = sorted_head (slice_cmp nat_cmp) e.0 (keys_of es) s in
    let rest = once_each front es (sorted_tail (slice_cmp nat_cmp) e.0 (keys_of es) s) in
    elim (name_after front e.0) as (λ o. name_after front e.0 ≡ o → AllPairs (λ a b. a ≢ b) (cons_option o (names_after front es))) [
      | None ↦ λ t. rest
      | Some x ↦ λ t. AllPairs-cons (λ a b. a ≢ b) x (names_after front es) (apart front x es (subst (λ path. Below path es) (from_name_after front e.0 x t).1 below)) rest
    ] refl

-- entries in order have these names in the folder
pub are_names : (es : List (List ℕ × List ℕ)) (folder : List ℕ) → IsStrictlySortedBy (slice_cmp nat_cmp) (keys_of es) → AreNames (from_entries es) folder (names_after (front_of folder) es)
are_names es folder s = record {
  only = only_names (front_of folder) es;
  each = λ n is. each_name (front_of folder) n es is ∙ ap is_some (sym (ap (get (from_entries es)) (joined-name folder n is) ∙ get-entries es (front_of folder ++ n)));
  once = once_each (front_of folder) es s;
}

-- a turn of the loop over the entries, at a name
pub name_next : (front : List ℕ) (names next : List (List ℕ)) (e : List ℕ × List ℕ) (before rest : List (List ℕ × List ℕ)) (all : List (List ℕ)) (x made shown_path shown_front : List ℕ)
    → before ≡ e ∷ rest → shown_path ≡ e.0 → shown_front ≡ front → IsName x × (shown_path ≡ shown_front ++ x) → made ≡ x → next ≡ names ++ made ∷ []
    → names ++ names_after front before ≡ all → next ++ names_after front rest ≡ all
name_next front names next e before rest all x made shown_path shown_front is path_is front_is found same more so_far =
    let here : name_after front e.0 ≡ Some x = name_found front e.0 x found.0 (sym path_is ∙ found.1 ∙ ap (λ f. f ++ x) front_is) in
    ap (λ ns. ns ++ names_after front rest) (more ∙ ap (λ n. names ++ n ∷ []) same)
    ∙ append_assoc names (x ∷ []) (names_after front rest)
    ∙ ap (λ o. names ++ cons_option o (names_after front rest)) (sym here)
    ∙ ap (λ es. names ++ names_after front es) (sym is) ∙ so_far

-- and at a path that is no name's
pub no_next : (front : List ℕ) (names : List (List ℕ)) (e : List ℕ × List ℕ) (before rest : List (List ℕ × List ℕ)) (all : List (List ℕ)) (shown_path shown_front : List ℕ)
    → before ≡ e ∷ rest → shown_path ≡ e.0 → shown_front ≡ front → ((n : List ℕ) → IsName n → shown_path ≢ shown_front ++ n)
    → names ++ names_after front before ≡ all → names ++ names_after front rest ≡ all
no_next front names e before rest all shown_path shown_front is path_is front_is other so_far =
    let here : name_after front e.0 ≡ None = name_missed front e.0 (λ n name at. other n name (path_is ∙ at ∙ ap (λ f. f ++ n) (sym front_is))) in
    ap (λ o. names ++ cons_option o (names_after front rest)) (sym here)
    ∙ ap (λ es. names ++ names_after front es) (sym is) ∙ so_far

-- after the last entry
pub all_named : (es first before : List (List ℕ × List ℕ)) (folder front : List ℕ) (names : List (List ℕ)) → IsStrictlySortedBy (slice_cmp nat_cmp) (keys_of es)
    → front ≡ front_of folder → first ≡ es → before ≡ [] → names ++ names_after front before ≡ names_after front first → AreNames (from_entries es) folder names
all_named es first before folder front names s front_is first_is end so_far =
    let same : names_after (front_of folder) es ≡ names =
    ap (λ f. names_after f es) (sym front_is) ∙ ap (names_after front) (sym first_is) ∙ sym so_far ∙ ap (λ e. names ++ names_after front e) end ∙ append-nil names in
    subst (AreNames (from_entries es) folder) same (are_names es folder s)

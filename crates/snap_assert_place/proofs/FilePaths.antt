-- The path of a snapshot is that of a file.
use Rattle.snap_assert_place.proofs.Prelude.{◌≡◌, ◌==◌, ℕ, List, [], ◌∷◌, ◌++◌, Bool, true, false, cond, refl, sym, ap, ◌∙◌, subst, append_assoc, codes, IsSome, filter, All-append, between_slashes, is_component, components, is_absolute, path_of_parts, joined, last_of, name_of, parent_of, IsName, joined-normal, parts-components, components-names, PlaceView, file_prefix, flat_name, file_name, path_of, IsFilePath}
use Rattle.snap_str.specs.Lines.{onto}
use Rattle.snap_assert_settings.specs.Settings.{SettingsView}
use Rattle.snap_path.proofs.Parts.{last_of-push}

-- the last part has two characters at least
pub record Ends (parts : List (List ℕ)) : Type 0 where
  pub front : List (List ℕ)
  pub a : ℕ
  pub b : ℕ
  pub rest : List ℕ
  pub is : parts ≡ front ++ (a ∷ b ∷ rest) ∷ []

ends_onto : (c : ℕ) (parts : List (List ℕ)) → Ends parts → Ends (onto c parts)
ends_onto c parts e = by e.front e.is
  where
    by : (front : List (List ℕ)) → parts ≡ front ++ (e.a ∷ e.b ∷ e.rest) ∷ [] → Ends (onto c parts)
    by [] is = record { front = []; a = c; b = e.a; rest = e.b ∷ e.rest; is = ap (onto c) is }
    by (f ∷ front) is = record { front = (c ∷ f) ∷ front; a = e.a; b = e.b; rest = e.rest; is = ap (onto c) is }

ends_cut : (b : Bool) (c : ℕ) (parts : List (List ℕ)) → Ends parts → Ends (cond b ([] ∷ parts) (onto c parts))
ends_cut true c parts e = record { front = [] ∷ e.front; a = e.a; b = e.b; rest = e.rest; is = ap (λ p. [] ∷ p) e.is }
ends_cut false c parts e = ends_onto c parts e

snap_ends : (front : List ℕ) → Ends (between_slashes (front ++ codes ".snap"))
snap_ends [] = record { front = []; a = 46; b = 115; rest = codes "nap"; is = refl }
snap_ends (c ∷ front) = ends_cut (c == 47) c (between_slashes (front ++ codes ".snap")) (snap_ends front)

filter_first : (b : Bool) (x : List ℕ) (front back all : List (List ℕ)) → all ≡ front ++ back → cond b (x ∷ all) all ≡ cond b (x ∷ front) front ++ back
filter_first true x front back all h = ap (λ t. x ∷ t) h
filter_first false x front back all h = h

filter-append : (xs ys : List (List ℕ)) → filter is_component (xs ++ ys) ≡ filter is_component xs ++ filter is_component ys
filter-append [] ys = refl
filter-append (x ∷ xs) ys = filter_first (is_component x) x (filter is_component xs) (filter is_component ys) (filter is_component (xs ++ ys)) (filter-append xs ys)

pub record HasLast (parts : List (List ℕ)) : Type 0 where
  pub front : List (List ℕ)
  pub part : List ℕ
  pub is : parts ≡ front ++ part ∷ []

components_last : (text : List ℕ) → Ends (between_slashes text) → HasLast (components text)
components_last text e = record {
  front = filter is_component e.front;
  part = e.a ∷ e.b ∷ e.rest;
  is = ap (filter is_component) e.is ∙ filter-append e.front ((e.a ∷ e.b ∷ e.rest) ∷ []);
}

last_behind : (base parts : List (List ℕ)) → HasLast parts → HasLast (base ++ parts)
last_behind base parts h = record { front = base ++ h.front; part = h.part; is = ap (λ p. base ++ p) h.is ∙ sym (append_assoc base h.front (h.part ∷ [])) }

some_last : (parts : List (List ℕ)) → HasLast parts → IsSome (last_of parts)
some_last parts h = subst IsSome (sym (ap last_of h.is ∙ last_of-push h.front h.part)) refl

-- a path whose tail has a last component has one
joined_named : (base tail : List ℕ) → HasLast (components tail) → IsSome (name_of (joined base tail))
joined_named base tail h = by (is_absolute tail)
  where
    by : (b : Bool) → IsSome (name_of (cond b (path_of_parts true (components tail)) (path_of_parts (is_absolute base) (components base ++ components tail))))
    by true = subst (λ p. IsSome (last_of p)) (sym (parts-components true (components tail) (components-names tail))) (some_last (components tail) h)
    by false = subst (λ p. IsSome (last_of p))
        (sym (parts-components (is_absolute base) (components base ++ components tail) (All-append IsName (components base) (components tail) (components-names base) (components-names tail))))
        (some_last (components base ++ components tail) (last_behind (components base) (components tail) h))

pub path_of-file : (settings : SettingsView) (place : PlaceView) (name : List ℕ) → IsFilePath (path_of settings place name)
path_of-file settings place name =
    let folder = joined (joined place.workspace (parent_of place.file)) settings.snapshot_path in
    record {
      normal = joined-normal folder (file_name settings place name);
      named = joined_named folder (file_name settings place name) (components_last (file_name settings place name) (snap_ends (file_prefix settings place ++ flat_name name)));
    }

-- A folder's path, and those of its files.
use Rattle.snap_explain_unused.proofs.Prelude.{◌≡◌, ℕ, List, [], ◌∷◌, ◌++◌, Option, None, Some, refl, sym, ap, ◌∙◌, true, is_some, All, All-nil, All-cons, All-head, All-tail, All-append, joined, parent_of, name_of, last_of, all_but_last, components, is_absolute, path_of_parts, IsName, IsFilePath}
use Rattle.snap_path.proofs.Joining.{IsNormal, joined-name, joined-normal, parted, name_of-name, parts-components, parts-absolute, parts-normal, components-names, front-push}

last_of-append : (xs : List (List ℕ)) (x : List ℕ) → last_of (xs ++ x ∷ []) ≡ Some x
last_of-append [] x = refl
last_of-append (a ∷ []) x = refl
last_of-append (a ∷ b ∷ xs) x = last_of-append (b ∷ xs) x

all_but_last-append : (xs : List (List ℕ)) (x : List ℕ) → all_but_last (xs ++ x ∷ []) ≡ xs
all_but_last-append [] x = refl
all_but_last-append (a ∷ []) x = refl
all_but_last-append (a ∷ b ∷ xs) x = ap (λ t. a ∷ t) (all_but_last-append (b ∷ xs) x)

all_but_last-names : (parts : List (List ℕ)) → All IsName parts → All IsName (all_but_last parts)
all_but_last-names [] h = h
all_but_last-names (part ∷ []) h = All-nil IsName
all_but_last-names (part ∷ next ∷ parts) h =
    All-cons IsName part (all_but_last (next ∷ parts)) (All-head IsName part (next ∷ parts) h) (all_but_last-names (next ∷ parts) (All-tail IsName part (next ∷ parts) h))

-- a parent is made of its own components
pub parent-normal : (path : List ℕ) → IsNormal (parent_of path)
parent-normal path = parts-normal (is_absolute path) (all_but_last (components path)) (all_but_last-names (components path) (components-names path))

parts_all : (folder name : List ℕ) → IsName name → All IsName (components folder ++ name ∷ [])
parts_all folder name h = All-append IsName (components folder) (name ∷ []) (components-names folder) (All-cons IsName name [] h (All-nil IsName))

joined_parts : (folder name : List ℕ) → IsName name → joined folder name ≡ path_of_parts (is_absolute folder) (components folder ++ name ∷ [])
joined_parts folder name h = joined-name folder name h ∙ sym (front-push (is_absolute folder) (components folder) name)

joined_components : (folder name : List ℕ) → IsName name → components (joined folder name) ≡ components folder ++ name ∷ []
joined_components folder name h = ap components (joined_parts folder name h) ∙ parts-components (is_absolute folder) (components folder ++ name ∷ []) (parts_all folder name h)

-- the path of a name in a folder is that of a file in it
pub joined-file : (folder name : List ℕ) → IsName name → IsFilePath (joined folder name)
joined-file folder name h =
    record { normal = joined-normal folder name; named = ap is_some (ap last_of (joined_components folder name h) ∙ last_of-append (components folder) name) }

pub joined-parent : (folder name : List ℕ) → IsNormal folder → IsName name → parent_of (joined folder name) ≡ folder
joined-parent folder name normal h =
    ap (λ b. path_of_parts b (all_but_last (components (joined folder name))))
    (ap is_absolute (joined_parts folder name h) ∙ parts-absolute (is_absolute folder) (components folder ++ name ∷ []) (parts_all folder name h))
    ∙ ap (λ ps. path_of_parts (is_absolute folder) (all_but_last ps)) (joined_components folder name h)
    ∙ ap (path_of_parts (is_absolute folder)) (all_but_last-append (components folder) name)
    ∙ sym normal

-- a file's path is that of a name in its folder
pub record HasName (q : List ℕ) : Type 0 where
  pub name : List ℕ
  pub is_name : IsName name
  pub at : joined (parent_of q) name ≡ q

pub file_named : (q : List ℕ) → IsFilePath q → HasName q
file_named q file = by (name_of q) refl file.named
  where
    by : (found : Option (List ℕ)) → name_of q ≡ found → is_some found ≡ true → HasName q
    by None is some = absurd (cc some)
    by (Some last) is some =
        let h : IsName last = name_of-name q last is in
        record { name = last; is_name = h; at = joined-name (parent_of q) last h ∙ sym (parted q last file.normal is) }

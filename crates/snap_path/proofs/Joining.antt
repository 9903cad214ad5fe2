-- Paths that are joined, and their names.
use Rattle.snap_path.proofs.Prelude.{◌≡◌, ℕ, List, [], ◌∷◌, ◌++◌, Bool, true, false, ◌==◌, ◌||◌, cond, Some, refl, sym, ap, ◌∙◌, subst, append_assoc, filter, list_any, All, All-nil, All-cons, All-head, All-tail, All-append, All-filter, filter_passes, All-same, between_slashes, is_component, components, is_absolute, slashed, path_of_parts, joined, all_but_last, last_of, parent_of, name_of, IsName, front_behind, front_of, onto, or_left, or_right}
use Rattle.snap_content.specs.Front.{begins}

abbrev pub is_slash : ℕ → Bool
is_slash c = c == 47

abbrev pub Unbroken : List ℕ → Type 0
Unbroken text = list_any is_slash text ≡ false

-- what makes a text a name: it is a component, and holds no slash
pub record NameParts (name : List ℕ) : Type 0 where
  pub component : is_component name ≡ true
  pub unbroken : list_any is_slash name ≡ false

-- a text without a slash is one part, and in front of a slash it is the first
first_part : (part rest : List ℕ) → list_any is_slash part ≡ false → between_slashes (part ++ 47 ∷ rest) ≡ part ∷ between_slashes rest
first_part [] rest h = refl
first_part (c ∷ cs) rest h =
    ap (λ b. cond b ([] ∷ between_slashes (cs ++ 47 ∷ rest)) (onto c (between_slashes (cs ++ 47 ∷ rest)))) (or_left (is_slash c) (list_any is_slash cs) h)
    ∙ ap (onto c) (first_part cs rest (or_right (is_slash c) (list_any is_slash cs) h))

one_part : (part : List ℕ) → list_any is_slash part ≡ false → between_slashes part ≡ part ∷ []
one_part [] h = refl
one_part (c ∷ cs) h =
    ap (λ b. cond b ([] ∷ between_slashes cs) (onto c (between_slashes cs))) (or_left (is_slash c) (list_any is_slash cs) h)
    ∙ ap (onto c) (one_part cs (or_right (is_slash c) (list_any is_slash cs) h))

pub name-from-parts : (name : List ℕ) → NameParts name → IsName name
name-from-parts name h =
    ap (filter is_component) (one_part name h.unbroken) ∙ ap (λ b. cond b (name ∷ []) []) h.component

-- no part holds a slash
onto-unbroken : (c : ℕ) (parts : List (List ℕ)) → (c == 47) ≡ false → All Unbroken parts
    → All Unbroken (onto c parts)
onto-unbroken c [] h k = All-cons Unbroken (c ∷ []) [] (ap (λ b. b || false) h) k
onto-unbroken c (part ∷ parts) h k =
    All-cons Unbroken (c ∷ part) parts (ap (λ b. b || list_any is_slash part) h ∙ All-head Unbroken part parts k)
    (All-tail Unbroken part parts k)

unbroken_step : (c : ℕ) (parts : List (List ℕ)) (slash : Bool) → (c == 47) ≡ slash → All Unbroken parts
    → All Unbroken (cond slash ([] ∷ parts) (onto c parts))
unbroken_step c parts true is h = All-cons Unbroken [] parts refl h
unbroken_step c parts false is h = onto-unbroken c parts is h

parts-unbroken : (path : List ℕ) → All Unbroken (between_slashes path)
parts-unbroken [] = All-cons Unbroken [] [] refl (All-nil Unbroken)
parts-unbroken (c ∷ cs) = unbroken_step c (between_slashes cs) (c == 47) refl (parts-unbroken cs)

names_all : (parts : List (List ℕ)) → All Unbroken parts → All (λ part. is_component part ≡ true) parts → All IsName parts
names_all [] h k = All-nil IsName
names_all (part ∷ parts) h k =
    All-cons IsName part parts
    (name-from-parts part (record { component = All-head (λ part. is_component part ≡ true) part parts k; unbroken = All-head Unbroken part parts h }))
    (names_all parts (All-tail Unbroken part parts h) (All-tail (λ part. is_component part ≡ true) part parts k))

-- each component is a name
pub components-names : (path : List ℕ) → All IsName (components path)
components-names path =
    names_all (components path) (All-filter is_component Unbroken (between_slashes path) (parts-unbroken path))
    (filter_passes is_component (between_slashes path))

pub name-parts : (name : List ℕ) → IsName name → NameParts name
name-parts name h = record {
  component = All-head (λ part. is_component part ≡ true) name []
      (All-same (λ part. is_component part ≡ true) (name ∷ []) (components name) (sym h) (filter_passes is_component (between_slashes name)));
  unbroken = All-head Unbroken name []
      (All-same Unbroken (name ∷ []) (components name) (sym h)
      (All-filter is_component Unbroken (between_slashes name) (parts-unbroken name)));
}

unbroken-append : (xs ys : List ℕ) → list_any is_slash xs ≡ false → list_any is_slash ys ≡ false → list_any is_slash (xs ++ ys) ≡ false
unbroken-append [] ys h k = k
unbroken-append (x ∷ xs) ys h k =
    ap (λ b. b || list_any is_slash (xs ++ ys)) (or_left (is_slash x) (list_any is_slash xs) h)
    ∙ unbroken-append xs ys (or_right (is_slash x) (list_any is_slash xs) h) k

component-longer : (xs ys : List ℕ) → is_component xs ≡ true → is_component (xs ++ ys) ≡ true
component-longer [] ys h = absurd (cc)
component-longer (x ∷ []) [] h = h
component-longer (x ∷ []) (y ∷ ys) h = refl
component-longer (x ∷ z ∷ xs) ys h = refl

-- a name with more characters after it is a name, where no slash is among them
pub name-longer : (name more : List ℕ) → IsName name → list_any is_slash more ≡ false → IsName (name ++ more)
name-longer name more h k =
    let parts = name-parts name h in
    name-from-parts (name ++ more) (record {
      component = component-longer name more parts.component;
      unbroken = unbroken-append name more parts.unbroken k;
    })

-- a path of names has these components
slashed-components : (part : List ℕ) (parts : List (List ℕ)) → All IsName (part ∷ parts) → filter is_component (between_slashes (slashed (part ∷ parts))) ≡ part ∷ parts
slashed-components part [] h = All-head IsName part [] h
slashed-components part (next ∷ parts) h =
    let name = name-parts part (All-head IsName part (next ∷ parts) h) in
    ap (filter is_component) (first_part part (slashed (next ∷ parts)) name.unbroken)
    ∙ ap (λ b. cond b (part ∷ components (slashed (next ∷ parts))) (components (slashed (next ∷ parts)))) name.component
    ∙ ap (λ ps. part ∷ ps) (slashed-components next parts (All-tail IsName part (next ∷ parts) h))

pub parts-components : (absolute : Bool) (parts : List (List ℕ)) → All IsName parts → components (path_of_parts absolute parts) ≡ parts
parts-components true [] h = refl
parts-components false [] h = refl
parts-components true (part ∷ parts) h = slashed-components part parts h
parts-components false (part ∷ parts) h = slashed-components part parts h

starts_no_slash : (part rest : List ℕ) → NameParts part → begins 47 (part ++ rest) ≡ false
starts_no_slash [] rest h = absurd (let c = h.component in cc (c))
starts_no_slash (c ∷ cs) rest h = or_left (is_slash c) (list_any is_slash cs) h.unbroken

slashed-relative : (parts : List (List ℕ)) → All IsName parts → begins 47 (slashed parts) ≡ false
slashed-relative [] h = refl
slashed-relative (part ∷ []) h = by part (name-parts part (All-head IsName part [] h))
  where
    by : (part : List ℕ) → NameParts part → begins 47 part ≡ false
    by [] h = refl
    by (c ∷ cs) h = or_left (is_slash c) (list_any is_slash cs) h.unbroken
slashed-relative (part ∷ next ∷ parts) h = starts_no_slash part (47 ∷ slashed (next ∷ parts)) (name-parts part (All-head IsName part (next ∷ parts) h))

pub parts-absolute : (absolute : Bool) (parts : List (List ℕ)) → All IsName parts → is_absolute (path_of_parts absolute parts) ≡ absolute
parts-absolute true parts h = refl
parts-absolute false parts h = slashed-relative parts h

pub name-relative : (name : List ℕ) → IsName name → is_absolute name ≡ false
name-relative name h = slashed-relative (name ∷ []) (All-cons IsName name [] h (All-nil IsName))

-- a path that is made of its own components
abbrev pub IsNormal : List ℕ → Type 0
IsNormal path = path ≡ path_of_parts (is_absolute path) (components path)

pub parts-normal : (absolute : Bool) (parts : List (List ℕ)) → All IsName parts → IsNormal (path_of_parts absolute parts)
parts-normal absolute parts h =
    ap (λ b. path_of_parts b parts) (sym (parts-absolute absolute parts h))
    ∙ ap (path_of_parts (is_absolute (path_of_parts absolute parts))) (sym (parts-components absolute parts h))

pub joined-normal : (base tail : List ℕ) → IsNormal (joined base tail)
joined-normal base tail = by (is_absolute tail)
  where
    by : (b : Bool) → IsNormal (cond b (path_of_parts true (components tail)) (path_of_parts (is_absolute base) (components base ++ components tail)))
    by true = parts-normal true (components tail) (components-names tail)
    by false =
        parts-normal (is_absolute base) (components base ++ components tail)
        (All-append IsName (components base) (components tail) (components-names base) (components-names tail))

-- a further part stands after what the others make, and a slash
slashed-push : (part : List ℕ) (parts : List (List ℕ)) (last : List ℕ) → slashed ((part ∷ parts) ++ last ∷ []) ≡ slashed (part ∷ parts) ++ 47 ∷ last
slashed-push part [] last = refl
slashed-push part (next ∷ parts) last =
    ap (λ s. part ++ 47 ∷ s) (slashed-push next parts last) ∙ sym (append_assoc part (47 ∷ slashed (next ∷ parts)) (47 ∷ last))

pub front-push : (absolute : Bool) (parts : List (List ℕ)) (last : List ℕ) → path_of_parts absolute (parts ++ last ∷ []) ≡ front_behind absolute parts ++ last
front-push true [] last = refl
front-push false [] last = refl
front-push true (part ∷ parts) last =
    ap (λ s. 47 ∷ s) (slashed-push part parts last ∙ sym (append_assoc (slashed (part ∷ parts)) (47 ∷ []) last))
front-push false (part ∷ parts) last = slashed-push part parts last ∙ sym (append_assoc (slashed (part ∷ parts)) (47 ∷ []) last)

-- a name in a folder stands after the folder's front
pub joined-name : (folder name : List ℕ) → IsName name → joined folder name ≡ front_of folder ++ name
joined-name folder name h =
    ap (λ b. cond b (path_of_parts true (components name)) (path_of_parts (is_absolute folder) (components folder ++ components name))) (name-relative name h)
    ∙ ap (λ parts. path_of_parts (is_absolute folder) (components folder ++ parts)) h
    ∙ front-push (is_absolute folder) (components folder) name

last_parts : (parts : List (List ℕ)) (last : List ℕ) → last_of parts ≡ Some last → parts ≡ all_but_last parts ++ last ∷ []
last_parts [] last h = absurd (cc)
last_parts (part ∷ []) last h = let same : part ≡ last = cc in ap (λ p. p ∷ []) same
last_parts (part ∷ next ∷ parts) last h = ap (λ p. part ∷ p) (last_parts (next ∷ parts) last h)

all_but_last-names : (parts : List (List ℕ)) → All IsName parts → All IsName (all_but_last parts)
all_but_last-names [] h = h
all_but_last-names (part ∷ []) h = All-nil IsName
all_but_last-names (part ∷ next ∷ parts) h =
    All-cons IsName part (all_but_last (next ∷ parts)) (All-head IsName part (next ∷ parts) h) (all_but_last-names (next ∷ parts) (All-tail IsName part (next ∷ parts) h))

front-parent : (path : List ℕ) → front_of (parent_of path) ≡ front_behind (is_absolute path) (all_but_last (components path))
front-parent path =
    let names = all_but_last-names (components path) (components-names path) in
    ap (λ b. front_behind b (components (parent_of path))) (parts-absolute (is_absolute path) (all_but_last (components path)) names)
    ∙ ap (front_behind (is_absolute path)) (parts-components (is_absolute path) (all_but_last (components path)) names)

-- a path is its last component after the front of its parent
pub parted : (path last : List ℕ) → IsNormal path → name_of path ≡ Some last → path ≡ front_of (parent_of path) ++ last
parted path last normal name =
    normal ∙ ap (path_of_parts (is_absolute path)) (last_parts (components path) last name)
    ∙ front-push (is_absolute path) (all_but_last (components path)) last
    ∙ ap (λ f. f ++ last) (sym (front-parent path))

-- the last component is a name
pub name_of-name : (path last : List ℕ) → name_of path ≡ Some last → IsName last
name_of-name path last h = by (components path) (components-names path) h
  where
    by : (parts : List (List ℕ)) → All IsName parts → last_of parts ≡ Some last → IsName last
    by [] names h = absurd (cc)
    by (part ∷ []) names h = let same : part ≡ last = cc in let P : List ℕ → Type 0 = λ n. IsName n in subst P same (All-head IsName part [] names)
    by (part ∷ next ∷ parts) names h = by (next ∷ parts) (All-tail IsName part (next ∷ parts) names) h

-- Paths below others.
use Rattle.snap_assert_place.proofs.Prelude.{◌≡◌, ℕ, List, [], ◌∷◌, ◌++◌, Bool, true, false, cond, refl, sym, ap, ◌∙◌, subst, All-append, if◌then◌else◌, bytes_eq, is_component, components, is_absolute, slashed, path_of_parts, joined, Apart, apart, from_apart, same_start, relative_from, IsName, name-from-parts, components-names, parts-components, parts-absolute, joined-normal, holds_slash}
use Rattle.std.proofs.lemmas.Slice.Eq.{bytes_eq-Decides}
use Rattle.snap_assert_place.specs.Below.{IsOfParts}

pub name : (text : List ℕ) → is_component text ≡ true → holds_slash text ≡ false → IsName text
name text part none = name-from-parts text (record { component = part; unbroken = none })

pub normal : (path base tail : List ℕ) → path ≡ joined base tail → IsOfParts path
normal path base tail is =
    let P : List ℕ → Type 0 = λ p. IsOfParts p in
    subst P (sym is) (joined-normal base tail)

same_part : (b : Bool) (inner outer : Apart) → b ≡ true → (if b then inner else outer) ≡ inner
same_part b inner outer h = ap (λ x. if x then inner else outer) h

-- of a list after another, that is left
apart-front : (xs ys : List (List ℕ)) → apart (xs ++ ys) xs ≡ record { path = ys; base = [] }
apart-front [] [] = refl
apart-front [] (y ∷ ys) = refl
apart-front (x ∷ xs) ys =
    same_part (bytes_eq x x) (apart (xs ++ ys) xs) (record { path = x ∷ (xs ++ ys); base = x ∷ xs }) ((bytes_eq-Decides x x).1 refl) ∙ apart-front xs ys

starts_same : (b : Bool) → same_start b b ≡ true
starts_same true = refl
starts_same false = refl

-- one path from another, by what both are
abbrev seen : Bool → Bool → List (List ℕ) → List (List ℕ) → List ℕ
seen absolute other parts others =
    if same_start absolute other then from_apart (apart parts others) else path_of_parts absolute parts

seen-front : (absolute : Bool) (xs ys : List (List ℕ)) → seen absolute absolute (xs ++ ys) xs ≡ slashed ys
seen-front absolute xs ys =
    ap (λ b. if b then from_apart (apart (xs ++ ys) xs) else path_of_parts absolute (xs ++ ys)) (starts_same absolute)
    ∙ ap from_apart (apart-front xs ys)

-- a path below a base is seen from there as it stands
pub seen-below : (base tail : List ℕ) → is_absolute tail ≡ false → joined [] tail ≡ relative_from (joined base tail) base
seen-below base tail relative =
    let parts = components base ++ components tail in
    let names = All-append IsName (components base) (components tail) (components-names base) (components-names tail) in
    let whole = path_of_parts (is_absolute base) parts in
    let below : joined base tail ≡ whole = ap (λ b. cond b (path_of_parts true (components tail)) whole) relative in
    let alone : joined [] tail ≡ slashed (components tail) =
    ap (λ b. cond b (path_of_parts true (components tail)) (slashed (components tail))) relative in
    alone
    ∙ sym (ap (λ p. relative_from p base) below
    ∙ ap (λ b. seen b (is_absolute base) (components whole) (components base)) (parts-absolute (is_absolute base) parts names)
    ∙ ap (λ ps. seen (is_absolute base) (is_absolute base) ps (components base)) (parts-components (is_absolute base) parts names)
    ∙ seen-front (is_absolute base) (components base) (components tail))

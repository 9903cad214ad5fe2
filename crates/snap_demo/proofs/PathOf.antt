-- The path of a demonstration's snapshot is that of the assertion.
use Rattle.snap_demo.proofs.Prelude.{◌≡◌, ℕ, ◌/◌, ◌<◌, ◌^◌, List, [], ◌∷◌, ◌++◌, Bool, true, false, ◌||◌, ◌==◌, refl, sym, ap, ◌∙◌, codes, arith, decimal, list_any, if◌then◌else◌, demo_file, demo_name}
use Rattle.std.proofs.lemmas.List.Elements.{All-cons, All-nil}
use Rattle.std.specs.List.{All}
use Rattle.snap_path.proofs.Joining.{is_slash, name-longer, parts-components, parts-absolute}
use Rattle.snap_path.specs.Paths.{IsName, components, path_of_parts, is_absolute, joined, parent_of, all_but_last}
use Rattle.snap_assert_place.specs.Place.{PlaceView}
use Rattle.snap_assert_place.specs.SnapshotPath.{flat_character, flat_name, path_of}
use Rattle.snap_assert_settings.specs.Settings.{new_settings}
use Rattle.snap_demo.specs.Paths.{demo_path, demo_place}
use Rattle.snap_demo.proofs.Apart.{lacks, no_slash, no_backslash, decimal_lacks}

joined-parts : (ps qs : List (List ℕ)) → All IsName ps → All IsName qs → joined (path_of_parts false ps) (path_of_parts false qs) ≡ path_of_parts false (ps ++ qs)
joined-parts ps qs hp hq =
    let base = path_of_parts false ps in
    let tail = path_of_parts false qs in
    ap (λ b. if b then path_of_parts true (components tail) else path_of_parts (is_absolute base) (components base ++ components tail)) (parts-absolute false qs hq)
    ∙ ap (λ b. path_of_parts b (components base ++ components tail)) (parts-absolute false ps hp)
    ∙ ap (λ c. path_of_parts false (c ++ components tail)) (parts-components false ps hp)
    ∙ ap (λ c. path_of_parts false (ps ++ c)) (parts-components false qs hq)

parent-parts : (ps : List (List ℕ)) → All IsName ps → parent_of (path_of_parts false ps) ≡ path_of_parts false (all_but_last ps)
parent-parts ps h =
    ap (λ b. path_of_parts b (all_but_last (components (path_of_parts false ps)))) (parts-absolute false ps h)
    ∙ ap (λ c. path_of_parts false (all_but_last c)) (parts-components false ps h)

-- what holds no slash and no backslash is flat
abbrev is_mark : ℕ → Bool
is_mark c = c == 47 || c == 92

flat : (n : List ℕ) → list_any is_mark n ≡ false → flat_name n ≡ n
flat [] h = refl
flat (c ∷ cs) h = by (is_mark c) refl h (λ rest. flat cs rest)
  where
    by : (b : Bool) → is_mark c ≡ b → (is_mark c || list_any is_mark cs) ≡ false → (list_any is_mark cs ≡ false → flat_name cs ≡ cs) → flat_name (c ∷ cs) ≡ c ∷ cs
    by true e k more = let t : (true || list_any is_mark cs) ≡ false = ap (λ x. x || list_any is_mark cs) (sym e) ∙ k in cc t
    by false e k more =
        let rest : list_any is_mark cs ≡ false = ap (λ x. x || list_any is_mark cs) (sym e) ∙ k in
        ap (λ b. (if b then codes "__" else c ∷ []) ++ flat_name cs) e ∙ ap (λ t. c ∷ t) (more rest)

path_of_numbers : (k n expr : List ℕ) (line : ℕ) → list_any is_slash k ≡ false → list_any is_mark n ≡ false → list_any is_slash (n ++ codes ".snap") ≡ false
    → path_of new_settings (demo_place (codes "src/d" ++ (k ++ codes "/demo.rs")) line) (codes "r" ++ n)
    ≡ codes "demo/src/d" ++ (k ++ (codes "/snapshots/demo__r" ++ (n ++ codes ".snap")))
path_of_numbers k n expr line hk hn hs =
    let folder = 100 ∷ k in
    let named : IsName folder = name-longer (codes "d") k refl hk in
    let file = codes "demo__r" ++ (n ++ codes ".snap") in
    let filed : IsName file = name-longer (codes "demo__r") (n ++ codes ".snap") refl hs in
    let source : All IsName (codes "src" ∷ folder ∷ codes "demo.rs" ∷ []) =
    All-cons IsName (codes "src") (folder ∷ codes "demo.rs" ∷ []) refl (All-cons IsName folder (codes "demo.rs" ∷ []) named (All-cons IsName (codes "demo.rs") [] refl (All-nil IsName))) in
    let above : All IsName (codes "src" ∷ folder ∷ []) = All-cons IsName (codes "src") (folder ∷ []) refl (All-cons IsName folder [] named (All-nil IsName)) in
    let one : All IsName (codes "demo" ∷ []) = All-cons IsName (codes "demo") [] refl (All-nil IsName) in
    let below : All IsName (codes "demo" ∷ codes "src" ∷ folder ∷ []) = All-cons IsName (codes "demo") (codes "src" ∷ folder ∷ []) refl above in
    let kept : All IsName (codes "snapshots" ∷ []) = All-cons IsName (codes "snapshots") [] refl (All-nil IsName) in
    let all : All IsName (codes "demo" ∷ codes "src" ∷ folder ∷ codes "snapshots" ∷ []) =
    All-cons IsName (codes "demo") (codes "src" ∷ folder ∷ codes "snapshots" ∷ []) refl (All-cons IsName (codes "src") (folder ∷ codes "snapshots" ∷ []) refl (All-cons IsName folder (codes "snapshots" ∷ []) named kept)) in
    let last : All IsName (file ∷ []) = All-cons IsName file [] filed (All-nil IsName) in
    ap (λ t. joined (joined (joined (codes "demo") t) (codes "snapshots")) ((codes "demo__" ++ flat_name (114 ∷ n)) ++ codes ".snap")) (parent-parts (codes "src" ∷ folder ∷ codes "demo.rs" ∷ []) source)
    ∙ ap (λ t. joined (joined t (codes "snapshots")) ((codes "demo__" ++ flat_name (114 ∷ n)) ++ codes ".snap")) (joined-parts (codes "demo" ∷ []) (codes "src" ∷ folder ∷ []) one above)
    ∙ ap (λ t. joined t ((codes "demo__" ++ flat_name (114 ∷ n)) ++ codes ".snap")) (joined-parts (codes "demo" ∷ codes "src" ∷ folder ∷ []) (codes "snapshots" ∷ []) below kept)
    ∙ ap (λ t. joined (path_of_parts false (codes "demo" ∷ codes "src" ∷ folder ∷ codes "snapshots" ∷ [])) (codes "demo__r" ++ (t ++ codes ".snap"))) (flat n hn)
    ∙ joined-parts (codes "demo" ∷ codes "src" ∷ folder ∷ codes "snapshots" ∷ []) (file ∷ []) all last

-- digits hold neither mark

either : (cs : List ℕ) → lacks 47 cs → lacks 92 cs → list_any is_mark cs ≡ false
either [] h k = refl
either (c ∷ cs) h k = by (c == 47) (c == 92) (list_any (λ x. x == 47) cs) (list_any (λ x. x == 92) cs) (list_any is_mark cs) h k (either cs)
  where
    by : (a b x y r : Bool) → (a || x) ≡ false → (b || y) ≡ false → (x ≡ false → y ≡ false → r ≡ false) → ((a || b) || r) ≡ false
    by true b x y r h k f = cc
    by false true x y r h k f = cc
    by false false x y r h k f = f h k

behind_lacks : (cs ds : List ℕ) → lacks 47 cs → lacks 47 ds → lacks 47 (cs ++ ds)
behind_lacks [] ds h k = k
behind_lacks (c ∷ cs) ds h k = by (c == 47) (list_any (λ x. x == 47) cs) (list_any (λ x. x == 47) (cs ++ ds)) h (λ rest. behind_lacks cs ds rest k)
  where
    by : (a b r : Bool) → (a || b) ≡ false → (b ≡ false → r ≡ false) → (a || r) ≡ false
    by true b r h f = cc
    by false b r h f = f h

pub path_is : (i line : ℕ) → i < 2 ^ 64 → path_of new_settings (demo_place (demo_file i) line) (demo_name i) ≡ demo_path i
path_is i line small =
    let wide : i < 10 ^ 64 = omega (arith, small) in
    let folder : i / 100 < 10 ^ 64 = omega (arith, small) in
    path_of_numbers (decimal (i / 100)) (decimal i) (codes "demo") line (decimal_lacks 47 (i / 100) no_slash folder)
    (either (decimal i) (decimal_lacks 47 i no_slash wide) (decimal_lacks 92 i no_backslash wide)) (behind_lacks (decimal i) (codes ".snap") (decimal_lacks 47 i no_slash wide) refl)

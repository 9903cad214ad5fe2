-- What the requests of a demonstration ask of the files, and that none touches another's file.
use Rattle.snap_demo_laws.proofs.Prelude.{◌≡◌, refl, sym, ap, ◌∙◌, subst, arith, ℕ, ◌+◌, ◌/◌, ◌^◌, ◌<◌, List, [], ◌∷◌, ◌++◌, Bool, true, false, Option, None, Some, Ok, codes, append_assoc, append-nil, encode_utf8_all, decimal, All, if◌then◌else◌, bytes_eq, get, text, dict, entry, no_entries, Files, off, file_of, header_tree, without_line, InPlace, demo_path, demo_file, demo_name, demo_value, demo_assertion, demo_request, May, may_change, empty_session, Asked, step, tree_with, demo_run, assertion_by, asked_by, remembered_by, step_by, MayPass, demo_header, demo_image}
use Rattle.std.proofs.lemmas.Bool.{false_from_ne_true}
use Rattle.std.proofs.lemmas.List.Elements.{All-cons, All-nil}
use Rattle.std.proofs.lemmas.Slice.Eq.{bytes_eq-Decides}
use Rattle.snap_assert.proofs.GivenNames.{given_course}
use Rattle.snap_assert.specs.Courses.{Course, course_of, session_after}
use Rattle.snap_assert.specs.Steps.{is_slashless, pending_path, stray_front}
use Rattle.snap_assert.specs.Subjects.{OfTree}
use Rattle.snap_content.proofs.PlainMade.{plain_made}
use Rattle.snap_demo.proofs.Apart.{paths_meet, decimal_lacks, no_slash}
use Rattle.snap_demo.proofs.PathOf.{path_is}
use Rattle.snap_path.proofs.Cuts.{past_mark-is}
use Rattle.snap_path.proofs.Joining.{name-longer, parts-components, parts-absolute}
use Rattle.snap_path.specs.Names.{past_mark}
use Rattle.snap_path.specs.Paths.{IsName, components, joined, path_of_parts, relative_from, same_start, from_apart, apart}
use Rattle.snap_run.specs.Answers.{course_files}
use Rattle.snap_demo_laws.proofs.Steps.{IsOfTree, none_of, far, writes, keeps}

abbrev pub asked_at : ℕ → ℕ → Asked
asked_at i x = asked_by demo_run (demo_assertion i x) (demo_name i)

path_at : (i x : ℕ) → i < 2 ^ 64 → (asked_at i x).path ≡ demo_path i
path_at i x small = path_is i (i + 1) small

tree_at : (i x : ℕ) → IsOfTree (asked_at i x) off (demo_value i x)
tree_at i x = record { subject = ap (tree_with off) (plain_made (demo_value i x)); kind = refl }

-- the source file is told as it is in the request

abbrev source_parts : ℕ → List (List ℕ)
source_parts i = codes "src" ∷ (100 ∷ decimal (i / 100)) ∷ codes "demo.rs" ∷ []

source_names : (i : ℕ) → i < 2 ^ 64 → All IsName (source_parts i)
source_names i small =
    let folder : i / 100 < 10 ^ 64 = omega (arith, small) in
    let named : IsName (100 ∷ decimal (i / 100)) = name-longer (codes "d") (decimal (i / 100)) refl (decimal_lacks 47 (i / 100) no_slash folder) in
    All-cons IsName (codes "src") ((100 ∷ decimal (i / 100)) ∷ codes "demo.rs" ∷ []) refl
    (All-cons IsName (100 ∷ decimal (i / 100)) (codes "demo.rs" ∷ []) named (All-cons IsName (codes "demo.rs") [] refl (All-nil IsName)))

seen_parts : (ps : List (List ℕ)) → All IsName ps → relative_from (path_of_parts false (codes "demo" ∷ ps)) (codes "demo") ≡ from_apart (apart ps [])
seen_parts ps h =
    let whole = path_of_parts false (codes "demo" ∷ ps) in
    let all : All IsName (codes "demo" ∷ ps) = All-cons IsName (codes "demo") ps refl h in
    ap (λ b. if same_start b false then from_apart (apart (components whole) (components (codes "demo"))) else path_of_parts b (components whole)) (parts-absolute false (codes "demo" ∷ ps) all)
    ∙ ap (λ c. from_apart (apart c (codes "demo" ∷ []))) (parts-components false (codes "demo" ∷ ps) all)

source_is : (i : ℕ) → i < 2 ^ 64 → relative_from (joined (codes "demo") (demo_file i)) (codes "demo") ≡ demo_file i
source_is i small =
    ap (λ c. relative_from (path_of_parts false (codes "demo" ∷ c)) (codes "demo")) (parts-components false (source_parts i) (source_names i small))
    ∙ seen_parts (source_parts i) (source_names i small)

header_at : (i x : ℕ) → i < 2 ^ 64 → header_tree (without_line (asked_at i x).meta) ≡ demo_header i
header_at i x small = ap (λ s. dict (entry (text (codes "source")) (text s) (entry (text (codes "expression")) (text (codes "demo")) no_entries))) (source_is i small)

image_at : (i x : ℕ) → i < 2 ^ 64 → encode_utf8_all (file_of (header_tree (without_line (asked_at i x).meta)) off (demo_value i x)) ≡ demo_image i x
image_at i x small = ap (λ h. encode_utf8_all (file_of h off (demo_value i x))) (header_at i x small)

-- what is remembered stays, and the assertion goes on

abbrev course_at : ℕ → Course
course_at i = record { name = demo_name i; session = empty_session }

goes : (i x : ℕ) → course_of (assertion_by demo_run (demo_assertion i x)) empty_session ≡ Ok (course_at i)
goes i x = given_course (assertion_by demo_run (demo_assertion i x)) (demo_name i) empty_session refl refl

pub remembered_at : (i x : ℕ) → remembered_by demo_run (demo_request i x) empty_session ≡ empty_session
remembered_at i x = ap session_after (goes i x)

pub step_at : (i x : ℕ) (b : Bool) (m : Files) → step_by demo_run (demo_request i x) b empty_session m ≡ step InPlace false (asked_at i x) b m
step_at i x b m = ap (λ c. course_files demo_run (demo_assertion i x) b c m) (goes i x)

-- whether it may pass is decided at its path, by its value
abbrev pub May_at : ℕ → ℕ → Bool → Files → Type 0
May_at i x b m = May b (get m (demo_path i)) off (demo_value i x)

pub may_at : (i x : ℕ) (b : Bool) (m : Files) → i < 2 ^ 64 → MayPass demo_run (demo_assertion i x) b (course_of (assertion_by demo_run (demo_assertion i x)) empty_session) m → May_at i x b m
may_at i x b m small h =
    let one = subst (λ c. MayPass demo_run (demo_assertion i x) b c m) (goes i x) h in
    let two = subst (λ p. OfTree (λ w tree. May b (get m p) w tree) (asked_at i x).subject) (path_at i x small) one in
    subst (OfTree (λ w tree. May b (get m (demo_path i)) w tree)) (tree_at i x).subject two

-- what its step leaves at its own path

pub written_at : (i x : ℕ) (m : Files) → i < 2 ^ 64 → get (step InPlace false (asked_at i x) false m) (demo_path i) ≡ Some (demo_image i x)
written_at i x m small =
    ap (get (step InPlace false (asked_at i x) false m)) (sym (path_at i x small)) ∙ writes (asked_at i x) off (demo_value i x) m (tree_at i x) ∙ ap Some (image_at i x small)

pub kept_at : (i x : ℕ) (m : Files) → i < 2 ^ 64 → get (step InPlace false (asked_at i x) true m) (demo_path i) ≡ get m (demo_path i)
kept_at i x m small =
    ap (get (step InPlace false (asked_at i x) true m)) (sym (path_at i x small)) ∙ keeps (asked_at i x) off (demo_value i x) m (tree_at i x) ∙ ap (get m) (path_at i x small)

-- and at the path of another

two_paths : (i j : ℕ) → i < 2 ^ 64 → j < 2 ^ 64 → (i ≡ j → ⊥) → may_change InPlace (demo_path i) (demo_path j) ≡ false
two_paths i j hi hj other =
    none_of _ _ (differs (demo_path i) (λ e. other (sym (paths_meet j i [] [] hj hi (ap (λ t. t ++ []) e)).0)))
    (none_of _ _ (differs (pending_path (demo_path i)) (λ e. other (sym (paths_meet j i [] (codes ".new") hj hi (append-nil (demo_path j) ∙ e)).0))) (stray (past_mark (stray_front (demo_path i)) (demo_path j)) refl))
  where
    differs : (p : List ℕ) → (demo_path j ≡ p → ⊥) → bytes_eq (demo_path j) p ≡ false
    differs p h = false_from_ne_true (bytes_eq (demo_path j) p) (λ e. h ((bytes_eq-Decides (demo_path j) p).0 e))

    stray : (o : Option (List ℕ)) → past_mark (stray_front (demo_path i)) (demo_path j) ≡ o → is_slashless (past_mark (stray_front (demo_path i)) (demo_path j)) ≡ false
    stray None is = ap is_slashless is
    stray (Some rest) is =
        absurd (other (sym (paths_meet j i [] (codes ".new." ++ rest) hj hi
        (append-nil (demo_path j) ∙ past_mark-is (stray_front (demo_path i)) (demo_path j) rest is ∙ append_assoc (demo_path i) (codes ".new.") rest)).0))

pub far_at : (i j x : ℕ) (b : Bool) (m : Files) → i < 2 ^ 64 → j < 2 ^ 64 → (i ≡ j → ⊥) → get (step InPlace false (asked_at i x) b m) (demo_path j) ≡ get m (demo_path j)
far_at i j x b m hi hj other =
    far (asked_at i x) off (demo_value i x) b m (demo_path j) (tree_at i x) (ap (λ p. may_change InPlace p (demo_path j)) (path_at i x hi) ∙ two_paths i j hi hj other)

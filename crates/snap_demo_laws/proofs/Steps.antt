-- What the step of one assertion of a tree does to the files: it writes where it did not pass, keeps the file where it passed, and leaves all far ones.
use Rattle.snap_demo_laws.proofs.Prelude.{◌≡◌, refl, ap, ◌∙◌, ℕ, List, [], ◌∷◌, ◌++◌, Bool, true, false, cond, ◌||◌, Some, None, codes, encode_utf8_all, get, insert, get-insert, bytes_eq, some_same, Plain, Files, Blocks, file_of, header_tree, without_line, InPlace, NoUpdate, may_change, Asked, step, tree_with}
use Rattle.std.proofs.lemmas.Bool.{eq-eqb, false_from_ne_true}
use Rattle.std.proofs.lemmas.Cmp.{nat_list_cmp_total}
use Rattle.std.proofs.lemmas.Map.Text.{is_eq-slice_cmp}
use Rattle.std.proofs.lemmas.Slice.Eq.{bytes_eq-Decides}
use Rattle.snap_io.specs.Changes.{all_changed}
use Rattle.snap_path.specs.Names.{past_mark}
use Rattle.snap_assert.proofs.Keeping.{step_keeps}
use Rattle.snap_assert.specs.Kept.{may_change_with}
use Rattle.snap_assert.specs.Steps.{cleared, image_bytes, is_slashless, is_stray, pending_path, saved_as}
use Rattle.snap_assert.specs.Subjects.{extension_in, kind_for}

-- a path is neither itself with more behind it, nor behind that

longer : (path : List ℕ) (c : ℕ) (cs : List ℕ) → path ≡ path ++ c ∷ cs → ⊥
longer [] c cs e = cc e
longer (x ∷ path) c cs e = let t : path ≡ path ++ c ∷ cs = cc in longer path c cs t

shorter : (path : List ℕ) (c : ℕ) (cs : List ℕ) → bytes_eq path (path ++ c ∷ cs) ≡ false
shorter path c cs = false_from_ne_true (bytes_eq path (path ++ c ∷ cs)) (λ h. longer path c cs ((bytes_eq-Decides path (path ++ c ∷ cs)).0 h))

not_past : (path : List ℕ) (c : ℕ) (cs : List ℕ) → past_mark (path ++ c ∷ cs) path ≡ None
not_past [] c cs = refl
not_past (x ∷ path) c cs = ap (λ t. cond t (past_mark (path ++ c ∷ cs) path) None) (eq-eqb x x refl) ∙ not_past path c cs

pub none_of : (a b : Bool) → a ≡ false → b ≡ false → (a || b) ≡ false
none_of a b e f = ap (λ x. x || b) e ∙ f

-- a mode that writes nothing leaves the file at the path
unchanged_without : (path : List ℕ) → may_change NoUpdate path path ≡ false
unchanged_without path = none_of (bytes_eq path (pending_path path)) (is_stray path path) (shorter path 46 (codes "new")) (ap is_slashless (not_past path 46 (codes "new.")))

-- what is asked is a tree, and its metadata say so
pub record IsOfTree (asked : Asked) (w : Blocks) (tree : Plain) : Type 0 where
  pub subject : asked.subject ≡ tree_with w tree
  pub kind : asked.meta.kind ≡ kind_for asked.subject

-- what may not be changed is left
pub far : (asked : Asked) (w : Blocks) (tree : Plain) (b : Bool) (m : Files) (q : List ℕ) → IsOfTree asked w tree → may_change InPlace asked.path q ≡ false → get (step InPlace false asked b m) q ≡ get m q
far asked w tree b m q is h =
    let k = step_keeps InPlace false asked b m (Some (step InPlace false asked b m)) is.kind refl in
    ap (λ f. get f q) (some_same (step InPlace false asked b m) k.files k.told) ∙ k.others q (ap (λ s. may_change_with (extension_in s) InPlace asked.path q) is.subject ∙ h)

insert_here : (m : Files) (k v : List ℕ) → get (insert m k v) k ≡ Some v
insert_here m k v = get-insert nat_list_cmp_total m k v k ∙ ap (λ b. cond b (Some v) (get m k)) (is_eq-slice_cmp k k ∙ (bytes_eq-Decides k k).1 refl)

-- what did not pass is written
pub writes : (asked : Asked) (w : Blocks) (tree : Plain) (m : Files) → IsOfTree asked w tree
    → get (step InPlace false asked false m) asked.path ≡ Some (encode_utf8_all (file_of (header_tree (without_line asked.meta)) w tree))
writes asked w tree m is =
    ap (λ s. get (all_changed (saved_as asked.path (without_line asked.meta) s) (cleared asked.path m)) asked.path) is.subject
    ∙ insert_here (cleared asked.path m) asked.path (image_bytes (without_line asked.meta) (tree_with w tree))

-- what passed keeps its file
pub keeps : (asked : Asked) (w : Blocks) (tree : Plain) (m : Files) → IsOfTree asked w tree → get (step InPlace false asked true m) asked.path ≡ get m asked.path
keeps asked w tree m is =
    let k = step_keeps NoUpdate false asked true m (Some (step InPlace false asked true m)) is.kind refl in
    ap (λ f. get f asked.path) (some_same (step InPlace false asked true m) k.files k.told)
    ∙ k.others asked.path (ap (λ s. may_change_with (extension_in s) NoUpdate asked.path asked.path) is.subject ∙ unchanged_without asked.path)

-- The pairs of a record and of its snapshots.
use Rattle.snap_pending.proofs.Prelude.{◌≡◌, ℕ, List, Option, ap, ◌∙◌, option_map, codes, Tree, string, u32, no_pairs, pair, Meta, text_pair, meta_tree, text_in, SnapshotContents, normal, SnapshotView, tree_or_none}

pub record_pairs : (run run' : List ℕ) (line : Tree) (line' : ℕ) (made made' stood stood' : Option SnapshotView) → run ≡ run' → line ≡ u32 line' → made ≡ made' → stood ≡ stood'
    → pair (string (codes "run_id")) (string run) (pair (string (codes "line")) line (
    pair (string (codes "new")) (tree_or_none made) (pair (string (codes "old")) (tree_or_none stood) no_pairs)))
    ≡ pair (string (codes "run_id")) (string run') (pair (string (codes "line")) (u32 line') (
    pair (string (codes "new")) (tree_or_none made') (pair (string (codes "old")) (tree_or_none stood') no_pairs)))
record_pairs run run' line line' made made' stood stood' er el en eo =
    ap (λ x. pair (string (codes "run_id")) (string x) (pair (string (codes "line")) line (pair (string (codes "new")) (tree_or_none made) (pair (string (codes "old")) (tree_or_none stood) no_pairs)))) er
    ∙ ap (λ x. pair (string (codes "run_id")) (string run') (pair (string (codes "line")) x (pair (string (codes "new")) (tree_or_none made) (pair (string (codes "old")) (tree_or_none stood) no_pairs)))) el
    ∙ ap (λ x. pair (string (codes "run_id")) (string run') (pair (string (codes "line")) (u32 line') (pair (string (codes "new")) (tree_or_none x) (pair (string (codes "old")) (tree_or_none stood) no_pairs)))) en
    ∙ ap (λ x. pair (string (codes "run_id")) (string run') (pair (string (codes "line")) (u32 line') (pair (string (codes "new")) (tree_or_none made') (pair (string (codes "old")) (tree_or_none x) no_pairs)))) eo

pub held_pairs : (own own' : List ℕ) (name name' : Option (List ℕ)) (meta : Tree) (meta' : Meta) (contents contents' : SnapshotContents)
    → own ≡ own' → name ≡ name' → meta ≡ meta_tree meta' → contents ≡ contents'
    → pair (string (codes "module_name")) (string own) (text_pair (codes "snapshot_name") name (
    pair (string (codes "metadata")) meta (text_pair (codes "snapshot") (option_map normal (text_in contents)) no_pairs)))
    ≡ pair (string (codes "module_name")) (string own') (text_pair (codes "snapshot_name") name' (
    pair (string (codes "metadata")) (meta_tree meta') (text_pair (codes "snapshot") (option_map normal (text_in contents')) no_pairs)))
held_pairs own own' name name' meta meta' contents contents' em en ed ec =
    ap (λ x. pair (string (codes "module_name")) (string x) (text_pair (codes "snapshot_name") name (pair (string (codes "metadata")) meta (text_pair (codes "snapshot") (option_map normal (text_in contents)) no_pairs)))) em
    ∙ ap (λ x. pair (string (codes "module_name")) (string own') (text_pair (codes "snapshot_name") x (pair (string (codes "metadata")) meta (text_pair (codes "snapshot") (option_map normal (text_in contents)) no_pairs)))) en
    ∙ ap (λ x. pair (string (codes "module_name")) (string own') (text_pair (codes "snapshot_name") name' (pair (string (codes "metadata")) x (text_pair (codes "snapshot") (option_map normal (text_in contents)) no_pairs)))) ed
    ∙ ap (λ x. pair (string (codes "module_name")) (string own') (text_pair (codes "snapshot_name") name' (pair (string (codes "metadata")) (meta_tree meta') (text_pair (codes "snapshot") (option_map normal (text_in x)) no_pairs)))) ec

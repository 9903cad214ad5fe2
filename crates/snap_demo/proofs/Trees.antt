-- The plain form of a request's tree, pair by pair.
use Rattle.snap_demo.proofs.Prelude.{◌≡◌, ℕ, pos, ◌+◌, ◌/◌, ◌%◌, refl, rules, codes, Plain, plain, tree, demo_file, demo_name, tags_from, demo_value, demo_tree}
use Rattle.snap_content.specs.Plain.{int, text, list}
use Rattle.snap_content.specs.Tree as t
use Rattle.snap_content.specs.declared.content.Content.{Content, U64, the_lemmas}
use Rattle.snap_demo.specs.Requests.{note_of}

pub tree-U64 : (n : ℕ) → tree (U64 n) ≡ t.u64 n
tree-U64 n = search (rules, the_lemmas)

pub value_is : (i x : ℕ) (id seed tags remark : t.Tree) → plain id ≡ int (pos i) → plain seed ≡ int (pos x) → plain tags ≡ list (tags_from 0 (x % 4)) → plain remark ≡ text (note_of (x / 4 % 4))
    → plain (t.map (t.pair (t.string (codes "id")) id (t.pair (t.string (codes "seed")) seed (t.pair (t.string (codes "tags")) tags (t.pair (t.string (codes "note")) remark t.no_pairs))))) ≡ demo_value i x
value_is i x id seed tags remark e f g h = rw (e, f, g, h) refl

pub request_is : (i x : ℕ) (own file line name expr value : t.Tree) → plain own ≡ text (codes "demo") → plain file ≡ text (demo_file i) → plain line ≡ int (pos (i + 1)) → plain name ≡ text (demo_name i)
    → plain expr ≡ text (codes "demo") → plain value ≡ demo_value i x
    → plain (t.map (t.pair (t.string (codes "module")) own (t.pair (t.string (codes "file")) file (t.pair (t.string (codes "line")) line (t.pair (t.string (codes "name")) name (
    t.pair (t.string (codes "expr")) expr (t.pair (t.string (codes "value")) value t.no_pairs))))))) ≡ demo_tree i x
request_is i x own file line name expr value e f g h k l = rw (e, f, g, h, k, l) refl

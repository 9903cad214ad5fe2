-- The pairs of a header, one by one, and their plain form.
use Rattle.snap_store.proofs.Prelude.{◌≡◌, ℕ, List, [], ◌∷◌, ◌++◌, Option, None, Some, refl, ap, sym, ◌∙◌, rules, pos, codes, plain, text, int, dict, Entries, entry, pair_entries, tree, pair_list, pair_trees, Pairs, Content, String, U32, Map, the_lemmas, tree-Map, in_front, Meta, text_field, line_field, info_field, kind_fields, header_tree, text_pair, line_pair, info_pair, kind_pairs, meta_tree, SnapshotKind, Text, Binary}
use Rattle.snap_content.specs.Tree as t

pub tree-String : (s : List ℕ) → tree (String s) ≡ t.string s
tree-String s = search (rules, the_lemmas)

pub tree-U32 : (n : ℕ) → tree (U32 n) ≡ t.u32 n
tree-U32 n = search (rules, the_lemmas)

pub in_front-push : (ps : List (Content × Content)) (p : Content × Content) (rest : t.TreePairs)
    → in_front (ps ++ p ∷ []) rest ≡ in_front ps (t.pair (tree p.0) (tree p.1) rest)
in_front-push [] p rest = refl
in_front-push (q ∷ ps) p rest = ap (t.pair (tree q.0) (tree q.1)) (in_front-push ps p rest)

-- a name's pair at the end
pub in_front-named : (before now : List (Content × Content)) (name own : List ℕ) (key value : Content) (rest : t.TreePairs)
    → now ≡ before ++ (key, value) ∷ [] → key ≡ String own → own ≡ name
    → in_front now rest ≡ in_front before (t.pair (t.string name) (tree value) rest)
in_front-named before now name own key value rest is key_is own_is =
    ap (λ ps. in_front ps rest) is ∙ in_front-push before (key, value) rest
    ∙ ap (λ k. in_front before (t.pair k (tree value) rest)) (ap tree key_is ∙ tree-String own ∙ ap t.string own_is)

all_in_front : (ps : List (Content × Content)) → pair_trees ps ≡ in_front ps t.no_pairs
all_in_front [] = refl
all_in_front (p ∷ ps) = ap (t.pair (tree p.0) (tree p.1)) (all_in_front ps)

pub tree-pairs : (pairs : Pairs) → tree (Map pairs) ≡ t.map (in_front (pair_list pairs) t.no_pairs)
tree-pairs pairs = tree-Map pairs ∙ ap t.map (all_in_front (pair_list pairs))

pub in_front-none : (ps : List (Content × Content)) (rest : t.TreePairs) → ps ≡ [] → in_front ps rest ≡ rest
in_front-none ps rest is = ap (λ l. in_front l rest) is

pub line_pushed : (before now : List (Content × Content)) (whole : Option ℕ) (line : ℕ) (rest : t.TreePairs) → whole ≡ Some line
    → in_front now rest ≡ in_front before (t.pair (t.string (codes "assertion_line")) (tree (U32 line)) rest)
    → in_front now rest ≡ in_front before (line_pair whole rest)
line_pushed before now whole line rest is e =
    e ∙ ap (λ v. in_front before (t.pair (t.string (codes "assertion_line")) v rest)) (tree-U32 line)
    ∙ ap (λ w. in_front before (line_pair w rest)) (sym is)

-- the plain form, field by field

text_plain : (name : List ℕ) (value : Option (List ℕ)) (rest : t.TreePairs) (es : Entries) → pair_entries rest ≡ es
    → pair_entries (text_pair name value rest) ≡ text_field name value es
text_plain name None rest es e = e
text_plain name (Some value) rest es e = ap (entry (text name) (text value)) e

line_plain : (line : Option ℕ) (rest : t.TreePairs) (es : Entries) → pair_entries rest ≡ es → pair_entries (line_pair line rest) ≡ line_field line es
line_plain None rest es e = e
line_plain (Some line) rest es e = ap (entry (text (codes "assertion_line")) (int (pos line))) e

info_plain : (info : Option t.Tree) (rest : t.TreePairs) (es : Entries) → pair_entries rest ≡ es → pair_entries (info_pair info rest) ≡ info_field info es
info_plain None rest es e = e
info_plain (Some info) rest es e = ap (entry (text (codes "info")) (plain info)) e

kind_plain : (kind : SnapshotKind) → pair_entries (kind_pairs kind) ≡ kind_fields kind
kind_plain Text = refl
kind_plain (Binary extension) = refl

pub plain-meta_tree : (meta : Meta) → plain (meta_tree meta) ≡ header_tree meta
plain-meta_tree meta =
    ap dict (text_plain (codes "source") meta.source _ _ (line_plain meta.assertion_line _ _ (text_plain (codes "description") meta.description _ _ (
    text_plain (codes "expression") meta.expression _ _ (info_plain meta.info _ _ (text_plain (codes "input_file") meta.input_file _ _ (kind_plain meta.kind)))))))

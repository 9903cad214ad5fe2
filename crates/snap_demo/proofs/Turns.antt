-- What holds on each turn of a loop over requests.
use Rattle.snap_demo.proofs.Prelude.{◌≡◌, ◌+◌, ◌-◌, ◌<◌, ◌≤◌, ℕ, suc, List, [], ◌∷◌, ◌++◌, length, refl, sym, ap, ◌∙◌, arith, append_assoc, append-nil, encode_utf8_all, encodes-append, concat, unwrap_or, Plain, plain, plains, Plains, no_items, item, tree, item_trees, next_of, tag_of, tags_from, demo_text, documents_from, demo_input}
use Rattle.std.specs.FinMap.{get}
use Rattle.snap_content.specs.declared.content.Content.{Content}
use Rattle.snap_io.specs.Files.{Files}
use Rattle.snap_demo.specs.Held.{bytes_held}
use Rattle.snap_demo.specs.Paths.{demo_path, paths_from}

one_left : (i n : ℕ) → i < n → n - i ≡ suc (n - (i + 1))
one_left i n less = omega (arith, less)

none_left : (i n : ℕ) → n ≤ i → n - i ≡ 0
none_left i n less = omega (arith, less)

all_left : (n : ℕ) → n - 0 ≡ n
all_left n = omega arith

-- the plain forms of these trees, in front of others
abbrev pub plains_before : List Content → Plains → Plains
plains_before [] rest = rest
plains_before (c ∷ cs) rest = item (plain (tree c)) (plains_before cs rest)

before_more : (cs : List Content) (c : Content) (rest : Plains) → plains_before (cs ++ c ∷ []) rest ≡ plains_before cs (item (plain (tree c)) rest)
before_more [] c rest = refl
before_more (d ∷ cs) c rest = ap (item (plain (tree d))) (before_more cs c rest)

all_before : (cs : List Content) → plains_before cs no_items ≡ plains (item_trees cs)
all_before [] = refl
all_before (c ∷ cs) = ap (item (plain (tree c))) (all_before cs)

pub tags_begin : (items : List Content) (k : ℕ) → items ≡ [] → plains_before items (tags_from 0 (k - 0)) ≡ tags_from 0 k
tags_begin items k none = ap (λ cs. plains_before cs (tags_from 0 (k - 0))) none ∙ ap (tags_from 0) (all_left k)

pub tags_go_on : (old new : List Content) (c : Content) (n k : ℕ) (whole : Plains) → n < k → new ≡ old ++ c ∷ [] → plain (tree c) ≡ tag_of n → plains_before old (tags_from n (k - n)) ≡ whole
    → plains_before new (tags_from (n + 1) (k - (n + 1))) ≡ whole
tags_go_on old new c n k whole less is made before =
    ap (λ cs. plains_before cs (tags_from (n + 1) (k - (n + 1)))) is ∙ before_more old c (tags_from (n + 1) (k - (n + 1)))
    ∙ ap (λ t. plains_before old (item t (tags_from (n + 1) (k - (n + 1))))) made
    ∙ ap (λ j. plains_before old (tags_from n j)) (sym (one_left n k less)) ∙ before

pub tags_end : (items : List Content) (n k : ℕ) (whole : Plains) → k ≤ n → plains_before items (tags_from n (k - n)) ≡ whole → plains (item_trees items) ≡ whole
tags_end items n k whole done before = sym (all_before items) ∙ ap (λ j. plains_before items (tags_from n j)) (sym (none_left n k done)) ∙ before

-- the documents so far, and those that are left
pub input_begins : (text : List ℕ) (seed count : ℕ) → text ≡ [] → encode_utf8_all text ++ concat (documents_from 0 seed (count - 0)) ≡ demo_input seed count
input_begins text seed count none = ap (λ t. encode_utf8_all t ++ concat (documents_from 0 seed (count - 0))) none ∙ ap (λ n. concat (documents_from 0 seed n)) (all_left count)

pub input_goes_on : (old new : List ℕ) (i x y n : ℕ) (whole : List ℕ) → i < n → new ≡ old ++ demo_text i x → y ≡ next_of x
    → encode_utf8_all old ++ concat (documents_from i x (n - i)) ≡ whole → encode_utf8_all new ++ concat (documents_from (i + 1) y (n - (i + 1))) ≡ whole
input_goes_on old new i x y n whole less is next before =
    let rest = concat (documents_from (i + 1) (next_of x) (n - (i + 1))) in
    ap (λ z. encode_utf8_all new ++ concat (documents_from (i + 1) z (n - (i + 1)))) next
    ∙ ap (λ t. encode_utf8_all t ++ rest) is ∙ ap (λ t. t ++ rest) (encodes-append old (demo_text i x))
    ∙ append_assoc (encode_utf8_all old) (encode_utf8_all (demo_text i x)) rest
    ∙ ap (λ j. encode_utf8_all old ++ concat (documents_from i x j)) (sym (one_left i n less)) ∙ before

pub input_ends : (text : List ℕ) (i x n : ℕ) (whole : List ℕ) → n ≤ i → encode_utf8_all text ++ concat (documents_from i x (n - i)) ≡ whole → encode_utf8_all text ≡ whole
input_ends text i x n whole done before =
    sym (append-nil (encode_utf8_all text)) ∙ ap (λ j. encode_utf8_all text ++ concat (documents_from i x j)) (sym (none_left i n done)) ∙ before

-- the bytes so far, and those of the files that are left
pub held_begins : (count : ℕ) (m : Files) → 0 + bytes_held (paths_from 0 (count - 0)) m ≡ bytes_held (paths_from 0 count) m
held_begins count m = let e = ap (λ n. bytes_held (paths_from 0 n) m) (all_left count) in omega (arith, e)

pub held_goes_on : (total size i n whole : ℕ) (m : Files) → i < n → size ≡ length (unwrap_or (get m (demo_path i)) []) → total + bytes_held (paths_from i (n - i)) m ≡ whole
    → (total + size) + bytes_held (paths_from (i + 1) (n - (i + 1))) m ≡ whole
held_goes_on total size i n whole m less is before =
    let one = ap (λ j. total + bytes_held (paths_from i j) m) (sym (one_left i n less)) ∙ before in omega (arith, one, is)

pub held_ends : (total i n whole : ℕ) (m : Files) → n ≤ i → total + bytes_held (paths_from i (n - i)) m ≡ whole → total ≡ whole
held_ends total i n whole m done before = let none = ap (λ j. total + bytes_held (paths_from i j) m) (sym (none_left i n done)) ∙ before in omega (arith, none)

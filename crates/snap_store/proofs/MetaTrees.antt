-- Metadata are read from the tree that they are made as.
use Rattle.snap_store.proofs.Prelude.{◌≡◌, ℕ, ◌^◌, ◌<◌, Bool, true, false, not, ◌&&◌, nat_lt, List, Option, None, Some, refl, ap, sym, ◌∙◌, lt-ltb, option_or, IfSome, codes, option_and_then, if◌then◌else◌, is_text, binary_kind, Meta, text_pair, line_pair, info_pair, kind_pairs, meta_pairs, meta_tree, filled_info, without_nil_info, TellsFields, tree_text, tree_line, is_key, is_nil, last_by, last_in, last_filled_in, text_at, line_at, kind_told, fields_told, SnapshotKind, Text, Binary}
use Rattle.snap_content.specs.Tree.{Tree, string, u32, map, TreePairs, no_pairs, pair}
use Rattle.snap_fields.proofs.Lookups.{named, filled}

-- metadata from their fields
abbrev pub metadata : Option (List ℕ) → Option ℕ → Option (List ℕ) → Option (List ℕ) → Option Tree → Option (List ℕ) → SnapshotKind → Meta
metadata a b c d e f k = record { source = a; assertion_line = b; description = c; expression = d; info = e; input_file = f; kind = k }

pub same_meta : (a a' : Option (List ℕ)) (b b' : Option ℕ) (c c' d d' : Option (List ℕ)) (e e' : Option Tree) (f f' : Option (List ℕ)) (k : SnapshotKind)
    → a ≡ a' → b ≡ b' → c ≡ c' → d ≡ d' → e ≡ e' → f ≡ f' → metadata a b c d e f k ≡ metadata a' b' c' d' e' f' k
same_meta a a' b b' c c' d d' e e' f f' k ea eb ec ed ee ef =
    ap (λ x. metadata x b c d e f k) ea ∙ ap (λ x. metadata a' x c d e f k) eb ∙ ap (λ x. metadata a' b' x d e f k) ec
    ∙ ap (λ x. metadata a' b' c' x e f k) ed ∙ ap (λ x. metadata a' b' c' d' x f k) ee ∙ ap (λ x. metadata a' b' c' d' e' x k) ef

pub tells : (t : Tree) (pairs : TreePairs) (kind : SnapshotKind) (meta : Meta) → t ≡ map pairs → kind_told pairs ≡ Some kind
    → meta ≡ fields_told pairs kind → TellsFields t meta
tells t pairs kind meta is kind_is fields_are =
    let same = ap (λ m. m.kind) fields_are in
    record { pairs = pairs; is_map = is; kind_is = kind_is ∙ ap Some (sym same); fields_are = fields_are ∙ ap (fields_told pairs) (sym same) }

or_none : (o : Option Tree) → option_or o None ≡ o
or_none None = refl
or_none (Some t) = refl

-- a pair that fails the test is passed over
skip : (passes : Tree → Tree → Bool) (key value : Tree) (rest : TreePairs) → passes key value ≡ false → last_by passes (pair key value rest) ≡ last_by passes rest
skip passes key value rest e = ap (λ b. option_or (last_by passes rest) (if b then Some value else None)) e ∙ or_none (last_by passes rest)

-- one that passes is found where no later one does
found : (passes : Tree → Tree → Bool) (key value : Tree) (rest : TreePairs) → passes key value ≡ true → last_by passes rest ≡ None
    → last_by passes (pair key value rest) ≡ Some value
found passes key value rest e none =
    ap (λ b. option_or (last_by passes rest) (if b then Some value else None)) e ∙ ap (λ o. option_or o (Some value)) none

skip_text : (passes : Tree → Tree → Bool) (name : List ℕ) (value : Option (List ℕ)) (rest : TreePairs)
    → ((s : List ℕ) → passes (string name) (string s) ≡ false) → last_by passes (text_pair name value rest) ≡ last_by passes rest
skip_text passes name None rest e = refl
skip_text passes name (Some s) rest e = skip passes (string name) (string s) rest (e s)

-- the pair of a line, whose number is made so
abbrev pub line_by : (ℕ → Tree) → Option ℕ → TreePairs → TreePairs
line_by made None rest = rest
line_by made (Some n) rest = pair (string (codes "assertion_line")) (made n) rest

skip_line : (made : ℕ → Tree) (passes : Tree → Tree → Bool) (line : Option ℕ) (rest : TreePairs)
    → ((n : ℕ) → passes (string (codes "assertion_line")) (made n) ≡ false) → last_by passes (line_by made line rest) ≡ last_by passes rest
skip_line made passes None rest e = refl
skip_line made passes (Some n) rest e = skip passes (string (codes "assertion_line")) (made n) rest (e n)

skip_info : (passes : Tree → Tree → Bool) (info : Option Tree) (rest : TreePairs)
    → ((t : Tree) → passes (string (codes "info")) t ≡ false) → last_by passes (info_pair info rest) ≡ last_by passes rest
skip_info passes None rest e = refl
skip_info passes (Some t) rest e = skip passes (string (codes "info")) t rest (e t)

no_kind : (passes : Tree → Tree → Bool) (kind : SnapshotKind) → ((t : Tree) → passes (string (codes "extension")) t ≡ false)
    → ((t : Tree) → passes (string (codes "snapshot_kind")) t ≡ false) → last_by passes (kind_pairs kind) ≡ None
no_kind passes Text e k = refl
no_kind passes (Binary extension) e k =
    skip passes (string (codes "extension")) (string extension) (pair (string (codes "snapshot_kind")) (string (codes "binary")) no_pairs) (e (string extension))
    ∙ skip passes (string (codes "snapshot_kind")) (string (codes "binary")) no_pairs (k (string (codes "binary")))

-- a field is found where no later pair has its name

found_text : (name : List ℕ) (value : Option (List ℕ)) (rest : TreePairs) → is_text name (Some name) ≡ true → last_in name rest ≡ None
    → text_at name (text_pair name value rest) ≡ value
found_text name None rest e none = ap (option_and_then tree_text) none
found_text name (Some s) rest e none = ap (option_and_then tree_text) (found (named name) (string name) (string s) rest e none)

-- a line's number is read from what is made of it
abbrev pub IsLine : (ℕ → Tree) → Type 0
IsLine made = (n : ℕ) → tree_line (made n) ≡ (if nat_lt n (2 ^ 32) then Some n else None)

found_line : (made : ℕ → Tree) → IsLine made → (line : Option ℕ) (rest : TreePairs) → IfSome line (λ n. n < 2 ^ 32) → last_in (codes "assertion_line") rest ≡ None
    → line_at (codes "assertion_line") (line_by made line rest) ≡ line
found_line made reads None rest fits none = ap (option_and_then tree_line) none
found_line made reads (Some n) rest fits none =
    ap (option_and_then tree_line) (found (named (codes "assertion_line")) (string (codes "assertion_line")) (made n) rest refl none)
    ∙ reads n ∙ ap (λ b. if b then Some n else None) (lt-ltb n (2 ^ 32) fits)

nil_or_not : (info : Tree) (rest : TreePairs) (nil : Bool) → is_nil info ≡ nil → last_filled_in (codes "info") rest ≡ None
    → last_filled_in (codes "info") (pair (string (codes "info")) info rest) ≡ (if nil then None else Some info)
nil_or_not info rest true is none =
    skip (filled (codes "info")) (string (codes "info")) info rest (ap (λ b. is_key (codes "info") (string (codes "info")) && not b) is) ∙ none
nil_or_not info rest false is none =
    found (filled (codes "info")) (string (codes "info")) info rest (ap (λ b. is_key (codes "info") (string (codes "info")) && not b) is) none

found_info : (info : Option Tree) (rest : TreePairs) → last_filled_in (codes "info") rest ≡ None
    → last_filled_in (codes "info") (info_pair info rest) ≡ filled_info info
found_info None rest none = none
found_info (Some info) rest none = nil_or_not info rest (is_nil info) refl none

-- the fields from one on

abbrev from_input : Meta → TreePairs
from_input m = text_pair (codes "input_file") m.input_file (kind_pairs m.kind)

abbrev from_info : Meta → TreePairs
from_info m = info_pair m.info (from_input m)

abbrev from_expression : Meta → TreePairs
from_expression m = text_pair (codes "expression") m.expression (from_info m)

abbrev from_description : Meta → TreePairs
from_description m = text_pair (codes "description") m.description (from_expression m)

abbrev from_line : (ℕ → Tree) → Meta → TreePairs
from_line made m = line_by made m.assertion_line (from_description m)

-- the pairs of metadata, whose line's number is made so
abbrev pub pairs_by : (ℕ → Tree) → Meta → TreePairs
pairs_by made m = text_pair (codes "source") m.source (from_line made m)

-- a test that a pair passes by its key alone, and which of the keys it passes over

abbrev Misses : (Tree → Tree → Bool) → List ℕ → Type 0
Misses passes name = (value : Tree) → passes (string name) value ≡ false

none_input : (passes : Tree → Tree → Bool) (m : Meta) → Misses passes (codes "input_file") → Misses passes (codes "extension") → Misses passes (codes "snapshot_kind") → last_by passes (from_input m) ≡ None
none_input passes m i x k = skip_text passes (codes "input_file") m.input_file (kind_pairs m.kind) (λ s. i (string s)) ∙ no_kind passes m.kind x k

none_info : (passes : Tree → Tree → Bool) (m : Meta) → Misses passes (codes "info") → Misses passes (codes "input_file") → Misses passes (codes "extension") → Misses passes (codes "snapshot_kind") → last_by passes (from_info m) ≡ None
none_info passes m f i x k = skip_info passes m.info (from_input m) f ∙ none_input passes m i x k

none_expression : (passes : Tree → Tree → Bool) (m : Meta) → Misses passes (codes "expression") → Misses passes (codes "info") → Misses passes (codes "input_file") → Misses passes (codes "extension") → Misses passes (codes "snapshot_kind")
    → last_by passes (from_expression m) ≡ None
none_expression passes m e f i x k = skip_text passes (codes "expression") m.expression (from_info m) (λ s. e (string s)) ∙ none_info passes m f i x k

none_description : (passes : Tree → Tree → Bool) (m : Meta) → Misses passes (codes "description") → Misses passes (codes "expression") → Misses passes (codes "info") → Misses passes (codes "input_file") → Misses passes (codes "extension") → Misses passes (codes "snapshot_kind")
    → last_by passes (from_description m) ≡ None
none_description passes m d e f i x k =
    skip_text passes (codes "description") m.description (from_expression m) (λ s. d (string s)) ∙ none_expression passes m e f i x k

none_line : (made : ℕ → Tree) (passes : Tree → Tree → Bool) (m : Meta) → Misses passes (codes "assertion_line") → Misses passes (codes "description") → Misses passes (codes "expression") → Misses passes (codes "info") → Misses passes (codes "input_file") → Misses passes (codes "extension") → Misses passes (codes "snapshot_kind")
    → last_by passes (from_line made m) ≡ None
none_line made passes m l d e f i x k = skip_line made passes m.assertion_line (from_description m) (λ n. l (made n)) ∙ none_description passes m d e f i x k

to_line : (made : ℕ → Tree) (passes : Tree → Tree → Bool) (m : Meta) → Misses passes (codes "source") → last_by passes (pairs_by made m) ≡ last_by passes (from_line made m)
to_line made passes m a = skip_text passes (codes "source") m.source (from_line made m) (λ s. a (string s))

to_description : (made : ℕ → Tree) (passes : Tree → Tree → Bool) (m : Meta) → Misses passes (codes "source") → Misses passes (codes "assertion_line") → last_by passes (pairs_by made m) ≡ last_by passes (from_description m)
to_description made passes m a l = to_line made passes m a ∙ skip_line made passes m.assertion_line (from_description m) (λ n. l (made n))

to_expression : (made : ℕ → Tree) (passes : Tree → Tree → Bool) (m : Meta) → Misses passes (codes "source") → Misses passes (codes "assertion_line") → Misses passes (codes "description") → last_by passes (pairs_by made m) ≡ last_by passes (from_expression m)
to_expression made passes m a l d = to_description made passes m a l ∙ skip_text passes (codes "description") m.description (from_expression m) (λ s. d (string s))

to_info : (made : ℕ → Tree) (passes : Tree → Tree → Bool) (m : Meta) → Misses passes (codes "source") → Misses passes (codes "assertion_line") → Misses passes (codes "description") → Misses passes (codes "expression") → last_by passes (pairs_by made m) ≡ last_by passes (from_info m)
to_info made passes m a l d e = to_expression made passes m a l d ∙ skip_text passes (codes "expression") m.expression (from_info m) (λ s. e (string s))

to_input : (made : ℕ → Tree) (passes : Tree → Tree → Bool) (m : Meta) → Misses passes (codes "source") → Misses passes (codes "assertion_line") → Misses passes (codes "description") → Misses passes (codes "expression") → Misses passes (codes "info")
    → last_by passes (pairs_by made m) ≡ last_by passes (from_input m)
to_input made passes m a l d e f = to_info made passes m a l d e ∙ skip_info passes m.info (from_input m) f

to_kind : (made : ℕ → Tree) (passes : Tree → Tree → Bool) (m : Meta) → Misses passes (codes "source") → Misses passes (codes "assertion_line") → Misses passes (codes "description") → Misses passes (codes "expression") → Misses passes (codes "info") → Misses passes (codes "input_file")
    → last_by passes (pairs_by made m) ≡ last_by passes (kind_pairs m.kind)
to_kind made passes m a l d e f i = to_input made passes m a l d e f ∙ skip_text passes (codes "input_file") m.input_file (kind_pairs m.kind) (λ s. i (string s))

-- each field is found

source_read : (made : ℕ → Tree) (m : Meta) → text_at (codes "source") (pairs_by made m) ≡ m.source
source_read made m = found_text (codes "source") m.source (from_line made m) refl (none_line made (named (codes "source")) m (λ t. refl) (λ t. refl) (λ t. refl) (λ t. refl) (λ t. refl) (λ t. refl) (λ t. refl))

line_read : (made : ℕ → Tree) → IsLine made → (m : Meta) → IfSome m.assertion_line (λ n. n < 2 ^ 32) → line_at (codes "assertion_line") (pairs_by made m) ≡ m.assertion_line
line_read made reads m fits =
    ap (option_and_then tree_line) (to_line made (named (codes "assertion_line")) m (λ t. refl))
    ∙ found_line made reads m.assertion_line (from_description m) fits (none_description (named (codes "assertion_line")) m (λ t. refl) (λ t. refl) (λ t. refl) (λ t. refl) (λ t. refl) (λ t. refl))

description_read : (made : ℕ → Tree) (m : Meta) → text_at (codes "description") (pairs_by made m) ≡ m.description
description_read made m =
    ap (option_and_then tree_text) (to_description made (named (codes "description")) m (λ t. refl) (λ t. refl))
    ∙ found_text (codes "description") m.description (from_expression m) refl (none_expression (named (codes "description")) m (λ t. refl) (λ t. refl) (λ t. refl) (λ t. refl) (λ t. refl))

expression_read : (made : ℕ → Tree) (m : Meta) → text_at (codes "expression") (pairs_by made m) ≡ m.expression
expression_read made m =
    ap (option_and_then tree_text) (to_expression made (named (codes "expression")) m (λ t. refl) (λ t. refl) (λ t. refl))
    ∙ found_text (codes "expression") m.expression (from_info m) refl (none_info (named (codes "expression")) m (λ t. refl) (λ t. refl) (λ t. refl) (λ t. refl))

info_read : (made : ℕ → Tree) (m : Meta) → last_filled_in (codes "info") (pairs_by made m) ≡ filled_info m.info
info_read made m =
    to_info made (filled (codes "info")) m (λ t. refl) (λ t. refl) (λ t. refl) (λ t. refl)
    ∙ found_info m.info (from_input m) (none_input (filled (codes "info")) m (λ t. refl) (λ t. refl) (λ t. refl))

input_read : (made : ℕ → Tree) (m : Meta) → text_at (codes "input_file") (pairs_by made m) ≡ m.input_file
input_read made m =
    ap (option_and_then tree_text) (to_input made (named (codes "input_file")) m (λ t. refl) (λ t. refl) (λ t. refl) (λ t. refl) (λ t. refl))
    ∙ found_text (codes "input_file") m.input_file (kind_pairs m.kind) refl (no_kind (named (codes "input_file")) m.kind (λ t. refl) (λ t. refl))

kind_alone : (kind : SnapshotKind) → kind_told (kind_pairs kind) ≡ Some kind
kind_alone Text = refl
kind_alone (Binary extension) = refl

pub kind_read : (made : ℕ → Tree) (m : Meta) → kind_told (pairs_by made m) ≡ Some m.kind
kind_read made m =
    ap (λ o. if is_text (codes "binary") (option_and_then tree_text o) then binary_kind (text_at (codes "extension") (pairs_by made m)) else Some Text) (to_kind made (named (codes "snapshot_kind")) m (λ t. refl) (λ t. refl) (λ t. refl) (λ t. refl) (λ t. refl) (λ t. refl))
    ∙ ap (λ o. if is_text (codes "binary") (text_at (codes "snapshot_kind") (kind_pairs m.kind)) then binary_kind (option_and_then tree_text o) else Some Text) (to_kind made (named (codes "extension")) m (λ t. refl) (λ t. refl) (λ t. refl) (λ t. refl) (λ t. refl) (λ t. refl))
    ∙ kind_alone m.kind

pub fields_read : (made : ℕ → Tree) → IsLine made → (m : Meta) → IfSome m.assertion_line (λ n. n < 2 ^ 32) → without_nil_info m ≡ fields_told (pairs_by made m) m.kind
fields_read made reads m fits =
    same_meta _ _ _ _ _ _ _ _ _ _ _ _ m.kind (sym (source_read made m)) (sym (line_read made reads m fits)) (sym (description_read made m)) (sym (expression_read made m))
    (sym (info_read made m)) (sym (input_read made m))

by_u32 : (line : Option ℕ) (rest : TreePairs) → line_by u32 line rest ≡ line_pair line rest
by_u32 None rest = refl
by_u32 (Some n) rest = refl

-- metadata are made as these pairs
pairs-u32 : (m : Meta) → pairs_by u32 m ≡ meta_pairs m
pairs-u32 m = ap (text_pair (codes "source") m.source) (by_u32 m.assertion_line (from_description m))

pub meta_tree-tells : (m : Meta) → IfSome m.assertion_line (λ n. n < 2 ^ 32) → TellsFields (meta_tree m) (without_nil_info m)
meta_tree-tells m fits =
    record { pairs = pairs_by u32 m; is_map = ap map (sym (pairs-u32 m)); kind_is = kind_read u32 m; fields_are = fields_read u32 (λ n. refl) m fits }

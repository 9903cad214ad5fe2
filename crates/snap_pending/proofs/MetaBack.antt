-- What is read back of the metadata in a record.
use Rattle.snap_pending.proofs.Prelude.{◌≡◌, ℕ, ◌^◌, ◌<◌, pos, Bool, true, false, cond, not, ◌&&◌, nat_lt, List, Option, None, Some, refl, ap, sym, ◌∙◌, IfSome, codes, option_and_then, option_map, if◌then◌else◌, Tree, string, i64, u32, u64, u128, TreePairs, pair, json_plain, json_pairs, is_text, binary_kind, kind_told, fields_told, kind_in, fields, Meta, text_pair, line_pair, info_pair, kind_pairs, meta_pairs, meta_tree, without_nil_info, TellsFields, SnapshotKind, in_json, meta_back, TellsMeta}
use Rattle.std.specs.Option.{option_or}
use Rattle.snap_content.specs.Plain as p
use Rattle.snap_fields.specs.Fields.{tree_text, tree_line, is_key, is_nil, last_by, last_in, text_at, line_at}
use Rattle.snap_store.specs.declared.metadata.SnapshotKind.TheVariants.{Text, Binary}
use Rattle.snap_store.proofs.MetaTrees.{meta_tree-tells, same_meta}

-- the same pairs, with the line as a reader makes it

abbrev number_pair : Option ℕ → TreePairs → TreePairs
number_pair None rest = rest
number_pair (Some line) rest = pair (string (codes "assertion_line")) (p.number_tree (pos line)) rest

abbrev behind_line : Meta → TreePairs
behind_line m = text_pair (codes "description") m.description (text_pair (codes "expression") m.expression (info_pair m.info (text_pair (codes "input_file") m.input_file (kind_pairs m.kind))))

abbrev numbered : Meta → TreePairs
numbered m = text_pair (codes "source") m.source (number_pair m.assertion_line (behind_line m))

-- a reader makes these pairs of those that JSON keeps

made_text : (name : List ℕ) (value : Option (List ℕ)) (rest made : TreePairs) → p.pairs_made (json_pairs rest) ≡ made
    → p.pairs_made (json_pairs (text_pair name value rest)) ≡ text_pair name value made
made_text name None rest made e = e
made_text name (Some s) rest made e = ap (pair (string name) (string s)) e

made_line : (line : Option ℕ) (rest made : TreePairs) → p.pairs_made (json_pairs rest) ≡ made
    → p.pairs_made (json_pairs (line_pair line rest)) ≡ number_pair line made
made_line None rest made e = e
made_line (Some n) rest made e = ap (pair (string (codes "assertion_line")) (p.number_tree (pos n))) e

made_info : (info : Option Tree) (rest made : TreePairs) → p.pairs_made (json_pairs rest) ≡ made
    → p.pairs_made (json_pairs (info_pair info rest)) ≡ info_pair (option_map (λ t. p.content_of (json_plain t)) info) made
made_info None rest made e = e
made_info (Some t) rest made e = ap (pair (string (codes "info")) (p.content_of (json_plain t))) e

made_kind : (kind : SnapshotKind) → p.pairs_made (json_pairs (kind_pairs kind)) ≡ kind_pairs kind
made_kind Text = refl
made_kind (Binary extension) = refl

pairs_back : (m : Meta) → p.pairs_made (json_pairs (meta_pairs m)) ≡ numbered (in_json m)
pairs_back m =
    made_text (codes "source") m.source _ _ (made_line m.assertion_line _ _ (made_text (codes "description") m.description _ _ (
    made_text (codes "expression") m.expression _ _ (made_info m.info _ _ (made_text (codes "input_file") m.input_file _ _ (made_kind m.kind))))))

-- the kind of the number makes no difference

same_behind : (passes : Tree → Tree → Bool) (name : List ℕ) (value : Option (List ℕ)) (a b : TreePairs) → last_by passes a ≡ last_by passes b
    → last_by passes (text_pair name value a) ≡ last_by passes (text_pair name value b)
same_behind passes name None a b e = e
same_behind passes name (Some s) a b e = ap (λ o. option_or o (if passes (string name) (string s) then Some (string s) else None)) e

passed_line : (passes : Tree → Tree → Bool) (line : Option ℕ) (rest : TreePairs) → ((t : Tree) → passes (string (codes "assertion_line")) t ≡ false)
    → last_by passes (number_pair line rest) ≡ last_by passes (line_pair line rest)
passed_line passes None rest e = refl
passed_line passes (Some n) rest e =
    ap (λ b. option_or (last_by passes rest) (if b then Some (p.number_tree (pos n)) else None)) (e (p.number_tree (pos n)))
    ∙ sym (ap (λ b. option_or (last_by passes rest) (if b then Some (u32 n) else None)) (e (u32 n)))

natural : (small middle : Bool) (n : ℕ) → tree_line (cond small (i64 (pos n)) (cond middle (u64 n) (u128 n))) ≡ tree_line (u32 n)
natural true middle n = refl
natural false true n = refl
natural false false n = refl

later_line : (o : Option Tree) (n : ℕ) → option_and_then tree_line (option_or o (Some (p.number_tree (pos n)))) ≡ option_and_then tree_line (option_or o (Some (u32 n)))
later_line None n = natural (nat_lt n (2 ^ 63)) (nat_lt n (2 ^ 64)) n
later_line (Some t) n = refl

found_line : (line : Option ℕ) (rest : TreePairs)
    → line_at (codes "assertion_line") (number_pair line rest) ≡ line_at (codes "assertion_line") (line_pair line rest)
found_line None rest = refl
found_line (Some n) rest = later_line (last_in (codes "assertion_line") rest) n

same_line : (value : Option (List ℕ)) (a b : TreePairs) → line_at (codes "assertion_line") a ≡ line_at (codes "assertion_line") b
    → line_at (codes "assertion_line") (text_pair (codes "source") value a) ≡ line_at (codes "assertion_line") (text_pair (codes "source") value b)
same_line None a b e = e
same_line (Some s) a b e = skipped (last_in (codes "assertion_line") a) ∙ e ∙ sym (skipped (last_in (codes "assertion_line") b))
  where
    skipped : (o : Option Tree) → option_and_then tree_line (option_or o None) ≡ option_and_then tree_line o
    skipped None = refl
    skipped (Some t) = refl

same_by : (passes : Tree → Tree → Bool) (m : Meta) → ((t : Tree) → passes (string (codes "assertion_line")) t ≡ false)
    → last_by passes (numbered m) ≡ last_by passes (meta_pairs m)
same_by passes m e = same_behind passes (codes "source") m.source _ _ (passed_line passes m.assertion_line (behind_line m) e)

same_text : (name : List ℕ) (m : Meta) → ((t : Tree) → is_key name (string (codes "assertion_line")) ≡ false) → text_at name (numbered m) ≡ text_at name (meta_pairs m)
same_text name m e = ap (option_and_then tree_text) (same_by (λ key value. is_key name key) m e)

same_kind : (m : Meta) → kind_told (numbered m) ≡ kind_told (meta_pairs m)
same_kind m =
    ap (λ o. if is_text (codes "binary") o then binary_kind (text_at (codes "extension") (numbered m)) else Some Text) (same_text (codes "snapshot_kind") m (λ t. refl))
    ∙ ap (λ o. if is_text (codes "binary") (text_at (codes "snapshot_kind") (meta_pairs m)) then binary_kind o else Some Text) (same_text (codes "extension") m (λ t. refl))

same_fields : (m : Meta) (kind : SnapshotKind) → fields_told (numbered m) kind ≡ fields_told (meta_pairs m) kind
same_fields m kind =
    same_meta _ _ _ _ _ _ _ _ _ _ _ _ kind
    (same_text (codes "source") m (λ t. refl)) (same_line m.source _ _ (found_line m.assertion_line (behind_line m)))
    (same_text (codes "description") m (λ t. refl)) (same_text (codes "expression") m (λ t. refl))
    (same_by (λ key value. is_key (codes "info") key && not (is_nil value)) m (λ t. refl)) (same_text (codes "input_file") m (λ t. refl))

-- so the fields of what JSON keeps are those that are read back

told_kind : (m : Meta) (t : TellsFields (meta_tree m) (without_nil_info m)) → kind_told (meta_pairs m) ≡ Some m.kind
told_kind m t = let same : t.pairs ≡ meta_pairs m = cc in ap kind_told (sym same) ∙ t.kind_is

told_fields : (m : Meta) (t : TellsFields (meta_tree m) (without_nil_info m)) → fields_told (meta_pairs m) m.kind ≡ without_nil_info m
told_fields m t = let same : t.pairs ≡ meta_pairs m = cc in ap (λ v. fields_told v m.kind) (sym same) ∙ sym t.fields_are

pub kind-back : (m : Meta) → IfSome m.assertion_line (λ n. n < 2 ^ 32) → kind_in (json_pairs (meta_pairs m)) ≡ Some m.kind
kind-back m fits =
    ap kind_told (pairs_back m) ∙ same_kind (in_json m)
    ∙ told_kind (in_json m) (meta_tree-tells (in_json m) fits)

fields_back : (m : Meta) → IfSome m.assertion_line (λ n. n < 2 ^ 32) → fields (json_pairs (meta_pairs m)) m.kind ≡ meta_back m
fields_back m fits =
    ap (λ v. fields_told v m.kind) (pairs_back m) ∙ same_fields (in_json m) m.kind
    ∙ told_fields (in_json m) (meta_tree-tells (in_json m) fits)

told_same : (m : Meta) (es : p.Entries) (back : Meta) → IfSome m.assertion_line (λ n. n < 2 ^ 32) → es ≡ json_pairs (meta_pairs m)
    → kind_in es ≡ Some back.kind → back ≡ fields es back.kind → back ≡ meta_back m
told_same m es back fits is kind_is fields_are =
    let kinds = sym kind_is ∙ ap kind_in is ∙ kind-back m fits in
    let kind : back.kind ≡ m.kind = cc in
    fields_are ∙ ap (fields es) kind ∙ ap (λ v. fields v m.kind) is ∙ fields_back m fits

-- metadata that are told by what JSON keeps of others
pub meta-back : (m back : Meta) → IfSome m.assertion_line (λ n. n < 2 ^ 32) → TellsMeta (json_plain (meta_tree m)) back → back ≡ meta_back m
meta-back m back fits t =
    let same : t.entries ≡ json_pairs (meta_pairs m) = cc in
    told_same m t.entries back fits same t.kind_is t.fields_are

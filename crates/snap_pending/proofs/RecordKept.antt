-- A saved record is not refused.
use Rattle.snap_pending.proofs.Prelude.{◌≡◌, ℕ, true, List, Option, None, Some, refl, ap, sym, ◌∙◌, IfSome, codes, option_map, is_some, Error, json_plain, json_pairs, last_value, last_filled, text_value, line_value, kind_in, meta_pairs, meta_tree, text_in, normal, HasShortLine, HasShortLines, HasText, HasTexts, SnapshotView, Pending, held_tree, record_of, IsOtherHeld, no_map, no_metadata, no_text, LacksInHeld, lacks_module, lacks_metadata, lacks_extension, lacks_text, IsOtherRecord, is_no_map, other_new, other_old, LacksInRecord, lacks_run, lacks_line, lacks_in_new, lacks_in_old, RecordRefused}
use Rattle.snap_content.specs.Plain as p
use Rattle.snap_content.specs.declared.error.Error.TheVariants as e
use Rattle.snap_pending.proofs.MetaBack.{kind-back}
use Rattle.snap_fields.proofs.Made.{short-line}
use Rattle.snap_pending.proofs.RecordBack.{dict-same, held_pairs_of, module-told, meta-told, text-told, record_entries, filled_tree, new-told, old-told}

-- the fields that a snapshot has

abbrev fields_of : SnapshotView → p.Entries
fields_of held = json_pairs (held_pairs_of held.module_name held.snapshot_name (meta_tree held.meta) (option_map normal (text_in held.contents)))

same_fields : (held : SnapshotView) (es : p.Entries) → json_plain (held_tree held) ≡ p.dict es → es ≡ fields_of held
same_fields held es is = dict-same es (fields_of held) (sym is)

has_module : (held : SnapshotView) (es : p.Entries) → es ≡ fields_of held → text_value (last_value (codes "module_name") es) ≡ Some held.module_name
has_module held es is =
    ap (λ v. text_value (last_value (codes "module_name") v)) is
    ∙ module-told held.module_name held.snapshot_name (meta_tree held.meta) (option_map normal (text_in held.contents))

has_metadata : (held : SnapshotView) (es : p.Entries) → es ≡ fields_of held → last_value (codes "metadata") es ≡ Some (json_plain (meta_tree held.meta))
has_metadata held es is =
    ap (last_value (codes "metadata")) is
    ∙ meta-told held.module_name held.snapshot_name (meta_tree held.meta) (option_map normal (text_in held.contents))

has_shown : (held : SnapshotView) (es : p.Entries) → es ≡ fields_of held → last_value (codes "snapshot") es ≡ option_map p.text (option_map normal (text_in held.contents))
has_shown held es is =
    ap (last_value (codes "snapshot")) is
    ∙ text-told held.module_name held.snapshot_name (meta_tree held.meta) (option_map normal (text_in held.contents))

found_text : (o : Option (List ℕ)) → is_some o ≡ true → (s : List ℕ) × (option_map p.text (option_map normal o) ≡ Some (p.text s))
found_text None h = absurd (cc)
found_text (Some raw) h = (normal raw, refl)

has_text : (held : SnapshotView) (es : p.Entries) → HasText held → es ≡ fields_of held → (s : List ℕ) × (last_value (codes "snapshot") es ≡ Some (p.text s))
has_text held es texts is = let f = found_text (text_in held.contents) texts in (f.0, has_shown held es is ∙ f.1)

same_value : (a b : p.Plain) (o : Option p.Plain) → o ≡ Some a → o ≡ Some b → a ≡ b
same_value a b o h k = let both : Some a ≡ Some b = sym h ∙ k in cc

is_there : {A : Type 0} (o : Option A) (a : A) → o ≡ Some a → o ≡ None → ⊥
is_there o a h k = let both : Some a ≡ None = sym h ∙ k in cc

-- a snapshot of a text is whole

no_other : (held : SnapshotView) → HasText held → IsOtherHeld (json_plain (held_tree held)) → ⊥
no_other held texts (no_map none) = none (fields_of held) refl
no_other held texts (no_metadata es metadata is found none) =
    none (json_pairs (meta_pairs held.meta)) (same_value metadata (json_plain (meta_tree held.meta)) (last_value (codes "metadata") es) found (has_metadata held es (same_fields held es is)))
no_other held texts (no_text es value is found none) =
    let t = has_text held es texts (same_fields held es is) in
    let same = same_value value (p.text t.0) (last_value (codes "snapshot") es) found t.1 in
    is_there (text_value (Some value)) t.0 (ap (λ v. text_value (Some v)) same) none

nothing_lacks : (held : SnapshotView) → HasShortLine held → HasText held → LacksInHeld (json_plain (held_tree held)) → ⊥
nothing_lacks held short texts (lacks_module es is none) =
    is_there (text_value (last_value (codes "module_name") es)) held.module_name (has_module held es (same_fields held es is)) none
nothing_lacks held short texts (lacks_metadata es is none) =
    is_there (last_value (codes "metadata") es) (json_plain (meta_tree held.meta)) (has_metadata held es (same_fields held es is)) none
nothing_lacks held short texts (lacks_extension es value is found none) =
    let same = same_value value (json_plain (meta_tree held.meta)) (last_value (codes "metadata") es) found (has_metadata held es (same_fields held es is)) in
    let entries = dict-same none.entries (json_pairs (meta_pairs held.meta)) (sym none.header_is ∙ same) in
    is_there (kind_in none.entries) held.meta.kind (ap kind_in entries ∙ kind-back held.meta short) none.lacking
nothing_lacks held short texts (lacks_text es is none) =
    let t = has_text held es texts (same_fields held es is) in
    is_there (last_value (codes "snapshot") es) (p.text t.0) t.1 none

-- and so is a record of such snapshots

abbrev all_fields : Pending → p.Entries
all_fields pending = record_entries pending.run_id pending.line pending.new_snapshot pending.old_snapshot

same_record : (pending : Pending) (es : p.Entries) → json_plain (record_of pending) ≡ p.dict es → es ≡ all_fields pending
same_record pending es is = dict-same es (all_fields pending) (sym is)

other_there : (held : Option SnapshotView) (value : p.Plain) → IfSome held HasText → filled_tree held ≡ Some value → IsOtherHeld value → ⊥
other_there None value texts is other = absurd (cc)
other_there (Some held) value texts is other =
    let same : json_plain (held_tree held) ≡ value = cc in
    no_other held texts (rw (← same) at other)

lacks_there : (held : Option SnapshotView) (value : p.Plain) → IfSome held HasShortLine → IfSome held HasText → filled_tree held ≡ Some value → LacksInHeld value → ⊥
lacks_there None value short texts is lacks = absurd (cc)
lacks_there (Some held) value short texts is lacks =
    let same : json_plain (held_tree held) ≡ value = cc in
    nothing_lacks held short texts (rw (← same) at lacks)

new_there : (pending : Pending) (es : p.Entries) (value : p.Plain) → json_plain (record_of pending) ≡ p.dict es → last_filled (codes "new") es ≡ Some value
    → filled_tree pending.new_snapshot ≡ Some value
new_there pending es value is found =
    sym (new-told pending.run_id pending.line pending.new_snapshot pending.old_snapshot) ∙ sym (ap (last_filled (codes "new")) (same_record pending es is)) ∙ found

old_there : (pending : Pending) (es : p.Entries) (value : p.Plain) → json_plain (record_of pending) ≡ p.dict es → last_filled (codes "old") es ≡ Some value
    → filled_tree pending.old_snapshot ≡ Some value
old_there pending es value is found =
    sym (old-told pending.run_id pending.line pending.new_snapshot pending.old_snapshot) ∙ sym (ap (last_filled (codes "old")) (same_record pending es is)) ∙ found

is_whole : (pending : Pending) → HasTexts pending → IsOtherRecord (json_plain (record_of pending)) → ⊥
is_whole pending texts (is_no_map none) = none (all_fields pending) refl
is_whole pending texts (other_new es value is found other) = other_there pending.new_snapshot value texts.in_new (new_there pending es value is found) other
is_whole pending texts (other_old es value is found other) = other_there pending.old_snapshot value texts.in_old (old_there pending es value is found) other

is_full : (pending : Pending) → HasShortLines pending → HasTexts pending → LacksInRecord (json_plain (record_of pending)) → ⊥
is_full pending short texts (lacks_run es is none) =
    is_there (text_value (last_value (codes "run_id") es)) pending.run_id (ap (λ v. text_value (last_value (codes "run_id") v)) (same_record pending es is)) none
is_full pending short texts (lacks_line es is none) =
    is_there (line_value (last_value (codes "line") es)) pending.line
    (ap (λ v. line_value (last_value (codes "line") v)) (same_record pending es is) ∙ short-line pending.line short.own) none
is_full pending short texts (lacks_in_new es value is found lacks) =
    lacks_there pending.new_snapshot value short.in_new texts.in_new (new_there pending es value is found) lacks
is_full pending short texts (lacks_in_old es value is found lacks) =
    lacks_there pending.old_snapshot value short.in_old texts.in_old (old_there pending es value is found) lacks

pub never-refused : (pending : Pending) (error : Error) → HasShortLines pending → HasTexts pending → RecordRefused (json_plain (record_of pending)) error → error ≡ e.OutOfMemory
never-refused pending e.UnexpectedDataType short texts h = absurd (is_whole pending texts h)
never-refused pending e.MissingField short texts h = absurd (is_full pending short texts h)
never-refused pending e.OutOfMemory short texts h = refl
never-refused pending (e.FailedParsingYaml named) short texts h = absurd h
never-refused pending (e.FileIo named) short texts h = absurd h
never-refused pending (e.FloatText named) short texts h = absurd h
never-refused pending e.JsonKey short texts h = absurd h
never-refused pending (e.NotText named) short texts h = absurd h
never-refused pending (e.NoFile named) short texts h = absurd h

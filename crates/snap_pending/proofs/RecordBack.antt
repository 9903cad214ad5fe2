-- A record is told by what JSON keeps of it.
use Rattle.snap_pending.proofs.Prelude.{◌≡◌, ℕ, pos, false, List, Option, None, Some, refl, ap, sym, ◌∙◌, subst, IfSome, codes, option_map, Tree, string, TreePairs, no_pairs, pair, json_plain, json_pairs, last_value, last_filled, text_value, line_value, text_pair, meta_tree, text_in, SnapshotContents, normal, IsHeldBack, MayBeBack, IsBack, HasShortLine, HasShortLines, SnapshotView, Pending, held_tree, tree_or_none, record_of, HoldsText, TellsMeta, TellsHeld, MayTell, TellsRecord}
use Rattle.snap_content.specs.Plain as p
use Rattle.snap_fields.proofs.Made.{short-line}
use Rattle.snap_pending.proofs.MetaBack.{meta-back}

pub dict-same : (a b : p.Entries) → p.dict a ≡ p.dict b → a ≡ b
dict-same a b h = cc

-- the fields of a snapshot

abbrev pub held_pairs_of : List ℕ → Option (List ℕ) → Tree → Option (List ℕ) → TreePairs
held_pairs_of own name meta shown =
    pair (string (codes "module_name")) (string own) (text_pair (codes "snapshot_name") name (
    pair (string (codes "metadata")) meta (text_pair (codes "snapshot") shown no_pairs)))

pub module-told : (own : List ℕ) (name : Option (List ℕ)) (meta : Tree) (shown : Option (List ℕ))
    → text_value (last_value (codes "module_name") (json_pairs (held_pairs_of own name meta shown))) ≡ Some own
module-told own None meta None = refl
module-told own None meta (Some s) = refl
module-told own (Some n) meta None = refl
module-told own (Some n) meta (Some s) = refl

pub name-told : (own : List ℕ) (name : Option (List ℕ)) (meta : Tree) (shown : Option (List ℕ))
    → text_value (last_value (codes "snapshot_name") (json_pairs (held_pairs_of own name meta shown))) ≡ name
name-told own None meta None = refl
name-told own None meta (Some s) = refl
name-told own (Some n) meta None = refl
name-told own (Some n) meta (Some s) = refl

pub meta-told : (own : List ℕ) (name : Option (List ℕ)) (meta : Tree) (shown : Option (List ℕ))
    → last_value (codes "metadata") (json_pairs (held_pairs_of own name meta shown)) ≡ Some (json_plain meta)
meta-told own None meta None = refl
meta-told own None meta (Some s) = refl
meta-told own (Some n) meta None = refl
meta-told own (Some n) meta (Some s) = refl

pub text-told : (own : List ℕ) (name : Option (List ℕ)) (meta : Tree) (shown : Option (List ℕ))
    → last_value (codes "snapshot") (json_pairs (held_pairs_of own name meta shown)) ≡ option_map p.text shown
text-told own None meta None = refl
text-told own None meta (Some s) = refl
text-told own (Some n) meta None = refl
text-told own (Some n) meta (Some s) = refl

-- which text was shown
pub record IsNormalOf (contents : SnapshotContents) (shown : List ℕ) : Type 0 where
  pub raw : List ℕ
  pub text_is : text_in contents ≡ Some raw
  pub shown_is : shown ≡ normal raw

normal_of : (contents : SnapshotContents) (o : Option (List ℕ)) (shown : List ℕ) → text_in contents ≡ o → option_map p.text (option_map normal o) ≡ Some (p.text shown) → IsNormalOf contents shown
normal_of contents None shown is h = absurd (cc)
normal_of contents (Some raw) shown is h = record { raw = raw; text_is = is; shown_is = cc }

held_told : (held back : SnapshotView) (found : p.Entries) (metadata : p.Plain) (raw : List ℕ) → HasShortLine held
    → found ≡ json_pairs (held_pairs_of held.module_name held.snapshot_name (meta_tree held.meta) (option_map normal (text_in held.contents)))
    → text_value (last_value (codes "module_name") found) ≡ Some back.module_name
    → back.snapshot_name ≡ text_value (last_value (codes "snapshot_name") found)
    → last_value (codes "metadata") found ≡ Some metadata → TellsMeta metadata back.meta
    → last_value (codes "snapshot") found ≡ Some (p.text raw) → HoldsText raw back.contents
    → back.was_legacy ≡ false → back.number_as_text ≡ false → IsHeldBack held back
held_told held back found metadata raw fits is module_is name_is metadata_is meta_is raw_is contents_are headed no_number =
    let own = held.module_name in
    let name = held.snapshot_name in
    let meta = meta_tree held.meta in
    let shown = option_map normal (text_in held.contents) in
    let owns : Some back.module_name ≡ Some own = sym module_is ∙ ap (λ v. text_value (last_value (codes "module_name") v)) is ∙ module-told own name meta shown in
    let metas : Some metadata ≡ Some (json_plain meta) = sym metadata_is ∙ ap (last_value (codes "metadata")) is ∙ meta-told own name meta shown in
    let same : metadata ≡ json_plain meta = cc in
    let P : p.Plain → Type 0 = λ v. TellsMeta v back.meta in
    let n = normal_of held.contents (text_in held.contents) raw refl (sym (ap (last_value (codes "snapshot")) is ∙ text-told own name meta shown) ∙ raw_is) in
    let Q : List ℕ → Type 0 = λ v. HoldsText v back.contents in
    record {
      module_is = cc;
      name_is = name_is ∙ ap (λ v. text_value (last_value (codes "snapshot_name") v)) is ∙ name-told own name meta shown;
      meta_is = meta-back held.meta back.meta fits (subst P same meta_is);
      raw = n.raw;
      text_is = n.text_is;
      contents_are = subst Q n.shown_is contents_are;
      headed = headed;
      no_number = no_number;
    }

held_back : (held back : SnapshotView) → HasShortLine held → TellsHeld (json_plain (held_tree held)) back → IsHeldBack held back
held_back held back fits t =
    let same : t.entries ≡ json_pairs (held_pairs_of held.module_name held.snapshot_name (meta_tree held.meta) (option_map normal (text_in held.contents)))
    = dict-same t.entries (json_pairs (held_pairs_of held.module_name held.snapshot_name (meta_tree held.meta) (option_map normal (text_in held.contents)))) (sym t.tree_is) in
    held_told held back t.entries t.metadata t.raw fits same t.module_is t.name_is t.metadata_is t.meta_is t.raw_is t.contents_are t.headed t.no_number

-- the fields of a record

abbrev pub record_entries : List ℕ → ℕ → Option SnapshotView → Option SnapshotView → p.Entries
record_entries run line made stood =
    p.entry (p.text (codes "run_id")) (p.text run) (p.entry (p.text (codes "line")) (p.int (pos line)) (
    p.entry (p.text (codes "new")) (json_plain (tree_or_none made)) (p.entry (p.text (codes "old")) (json_plain (tree_or_none stood)) p.no_entries)))

-- what stands in a place of a snapshot
abbrev pub filled_tree : Option SnapshotView → Option p.Plain
filled_tree None = None
filled_tree (Some held) = Some (json_plain (held_tree held))

pub new-told : (run : List ℕ) (line : ℕ) (made stood : Option SnapshotView) → last_filled (codes "new") (record_entries run line made stood) ≡ filled_tree made
new-told run line None None = refl
new-told run line None (Some s) = refl
new-told run line (Some m) None = refl
new-told run line (Some m) (Some s) = refl

pub old-told : (run : List ℕ) (line : ℕ) (made stood : Option SnapshotView) → last_filled (codes "old") (record_entries run line made stood) ≡ filled_tree stood
old-told run line None None = refl
old-told run line None (Some s) = refl
old-told run line (Some m) None = refl
old-told run line (Some m) (Some s) = refl

may_be_back : (held back : Option SnapshotView) → IfSome held HasShortLine → MayTell (filled_tree held) back → MayBeBack held back
may_be_back None None fits t = tt
may_be_back None (Some back) fits t = absurd t
may_be_back (Some held) None fits t = absurd t
may_be_back (Some held) (Some back) fits t = held_back held back fits t

record_told : (pending back : Pending) (found : p.Entries) → HasShortLines pending
    → found ≡ record_entries pending.run_id pending.line pending.new_snapshot pending.old_snapshot
    → text_value (last_value (codes "run_id") found) ≡ Some back.run_id → line_value (last_value (codes "line") found) ≡ Some back.line
    → MayTell (last_filled (codes "new") found) back.new_snapshot → MayTell (last_filled (codes "old") found) back.old_snapshot
    → IsBack pending back
record_told pending back found fits is run_is line_is new_is old_is =
    let run = pending.run_id in
    let line = pending.line in
    let made = pending.new_snapshot in
    let stood = pending.old_snapshot in
    let runs : Some back.run_id ≡ Some run = sym run_is ∙ ap (λ v. text_value (last_value (codes "run_id") v)) is in
    let lines : Some back.line ≡ Some line = sym line_is ∙ ap (λ v. line_value (last_value (codes "line") v)) is ∙ short-line line fits.own in
    let N : Option p.Plain → Type 0 = λ v. MayTell v back.new_snapshot in
    let O : Option p.Plain → Type 0 = λ v. MayTell v back.old_snapshot in
    record {
      run_is = cc;
      line_is = cc;
      new_is = may_be_back made back.new_snapshot fits.in_new (subst N (ap (last_filled (codes "new")) is ∙ new-told run line made stood) new_is);
      old_is = may_be_back stood back.old_snapshot fits.in_old (subst O (ap (last_filled (codes "old")) is ∙ old-told run line made stood) old_is);
    }

pub record-back : (pending back : Pending) → HasShortLines pending → TellsRecord (json_plain (record_of pending)) back → IsBack pending back
record-back pending back fits t =
    let same : t.entries ≡ record_entries pending.run_id pending.line pending.new_snapshot pending.old_snapshot
    = dict-same t.entries (record_entries pending.run_id pending.line pending.new_snapshot pending.old_snapshot) (sym t.tree_is) in
    record_told pending back t.entries fits same t.run_is t.line_is t.new_is t.old_is

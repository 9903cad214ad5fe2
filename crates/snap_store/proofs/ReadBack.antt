-- A saved snapshot is read back.
use Rattle.snap_store.proofs.Prelude.{Ok, ◌≡◌, ◌<◌, ◌^◌, inl, inr, ℕ, pos, Bool, true, false, List, [], ◌∷◌, ◌++◌, Option, None, Some, refl, sym, ap, ◌∙◌, subst, append_assoc, codes, IfSome, option_map, plain, content_of, dict, Entries, IsWithin, document_of, lines_of, body_of, is_headed, kind_told, fields_told, kind_in, fields, Meta, text_field, line_field, info_field, kind_fields, header_tree, text_pair, info_pair, kind_pairs, meta_in, contents_in, legacy_in, number_text_in, SnapshotKind, Error}
use Rattle.std.proofs.Common.{◌⊎◌, arith}
use Rattle.snap_content.specs.Plain.{number_tree, pairs_made}
use Rattle.snap_print.specs.Readable.{AreEntriesWithin}
use Rattle.snap_content.specs.Tree as t
use Rattle.snap_content.specs.declared.error.Error.TheVariants.{FailedParsingYaml, UnexpectedDataType, MissingField, FileIo, FloatText, JsonKey, NotText, NoFile, OutOfMemory}
use Rattle.snap_emit.specs.Spelled.{IsPrintedOf}
use Rattle.snap_print.specs.Blocks.{off}
use Rattle.snap_print.proofs.Rows.{printed-rows}
use Rattle.snap_text.specs.Normal.{normal}
use Rattle.snap_store.specs.FileSplit.{header_of}
use Rattle.std.specs.FinMap.{get}
use Rattle.snap_io.specs.Files.{Files}
use Rattle.snap_store.specs.Image.{text_under, image_of, image}
use Rattle.snap_store.specs.Meta.{header_entries}
use Rattle.snap_store.specs.ReadBack.{IsOfText, IsReadBack, IsOfBinary, IsBinaryBack, read_meta}
use Rattle.snap_store.specs.Reading.{IsTextFile, HasHeader, Tells, HoldsBody, HoldsBeside, IsReadAs, IsReadFrom, IsRefused}
use Rattle.snap_store.specs.Saving.{sidecar_path}
use Rattle.snap_store.specs.declared.contents.SnapshotContents.TheVariants as contents
use Rattle.snap_store.specs.declared.metadata.SnapshotKind.TheVariants as kind
use Rattle.snap_store.specs.declared.snapshot.Snapshot.{Snapshot}
use Rattle.snap_store.proofs.MetaTrees.{IsLine, line_by, pairs_by, fields_read, kind_read}
use Rattle.snap_store.proofs.NormalBodies.{normal-body}
use Rattle.snap_store.proofs.Readings.{one_text, no_text_file, text_or_none, entries_same, one_reading}
use Rattle.snap_store.proofs.Splitting.{IsUnder, rows-under}
use Rattle.snap_fields.proofs.Made.{line-number}

-- the pairs that a reader makes of a header's entries are those of the metadata that are read

abbrev line_tree : ℕ → t.Tree
line_tree n = number_tree (pos n)

reads_line : IsLine line_tree
reads_line n = line-number n

text_made : (name : List ℕ) (value : Option (List ℕ)) (rest : t.TreePairs) (es : Entries) → rest ≡ pairs_made es → text_pair name value rest ≡ pairs_made (text_field name value es)
text_made name None rest es e = e
text_made name (Some value) rest es e = ap (t.pair (t.string name) (t.string value)) e

lined : (line : Option ℕ) (rest : t.TreePairs) (es : Entries) → rest ≡ pairs_made es → line_by line_tree line rest ≡ pairs_made (line_field line es)
lined None rest es e = e
lined (Some n) rest es e = ap (t.pair (t.string (codes "assertion_line")) (line_tree n)) e

info_made : (info : Option t.Tree) (rest : t.TreePairs) (es : Entries) → rest ≡ pairs_made es → info_pair (option_map (λ x. content_of (plain x)) info) rest ≡ pairs_made (info_field info es)
info_made None rest es e = e
info_made (Some info) rest es e = ap (t.pair (t.string (codes "info")) (content_of (plain info))) e

kind_made : (k : SnapshotKind) → kind_pairs k ≡ pairs_made (kind_fields k)
kind_made kind.Text = refl
kind_made (kind.Binary extension) = refl

-- the metadata with the info that is read
abbrev with_info : Meta → Meta
with_info m = record m { info = option_map (λ x. content_of (plain x)) m.info }

made : (m : Meta) → pairs_by line_tree (with_info m) ≡ pairs_made (header_entries m)
made m =
    text_made (codes "source") m.source _ _ (lined m.assertion_line _ _ (text_made (codes "description") m.description _ _ (
    text_made (codes "expression") m.expression _ _ (info_made m.info _ _ (text_made (codes "input_file") m.input_file _ _ (kind_made m.kind))))))

kind_back : (m : Meta) → kind_in (header_entries m) ≡ Some m.kind
kind_back m = sym (ap kind_told (made m)) ∙ kind_read line_tree (with_info m)

fields_back : (m : Meta) → IfSome m.assertion_line (λ n. n < 2 ^ 32) → fields (header_entries m) m.kind ≡ read_meta m
fields_back m fits = sym (fields_read line_tree reads_line (with_info m) fits ∙ ap (λ ps. fields_told ps m.kind) (made m))

-- the header's numbers have 128 bits

text_within : (name : List ℕ) (value : Option (List ℕ)) (es : Entries) → AreEntriesWithin es → AreEntriesWithin (text_field name value es)
text_within name None es h = h
text_within name (Some value) es h = (tt, (tt, h))

short : (n : ℕ) → n < 2 ^ 32 → n < 2 ^ 128
short n h = omega (arith, h)

line_within : (line : Option ℕ) (es : Entries) → IfSome line (λ n. n < 2 ^ 32) → AreEntriesWithin es → AreEntriesWithin (line_field line es)
line_within None es fits h = h
line_within (Some n) es fits h = (tt, (short n fits, h))

info_within : (info : Option t.Tree) (es : Entries) → IfSome info (λ x. IsWithin (plain x)) → AreEntriesWithin es → AreEntriesWithin (info_field info es)
info_within None es w h = h
info_within (Some info) es w h = (tt, (w, h))

kind_within : (k : SnapshotKind) → AreEntriesWithin (kind_fields k)
kind_within kind.Text = tt
kind_within (kind.Binary extension) = (tt, (tt, (tt, (tt, tt))))

within : (m : Meta) → IfSome m.assertion_line (λ n. n < 2 ^ 32) → IfSome m.info (λ x. IsWithin (plain x)) → IsWithin (header_tree m)
within m line info =
    text_within (codes "source") m.source _ (line_within m.assertion_line _ line (text_within (codes "description") m.description _ (
    text_within (codes "expression") m.expression _ (info_within m.info _ info (text_within (codes "input_file") m.input_file _ (kind_within m.kind))))))

of_text : (m : Meta) → IsOfText m → IsWithin (header_tree m)
of_text m h = within m h.line h.info

-- the file falls into the header and what stands behind it

under : (m : Meta) (body : List ℕ) → IsWithin (header_tree m) → IsUnder (image_of (header_tree m) body) (document_of off (header_tree m)) body
under m body w =
    let d = header_tree m in
    let P : List ℕ → Type 0 = λ x. IsUnder x (document_of off d) body in
    subst P (append_assoc (document_of off d) (codes "---\n") body) (rows-under (lines_of off d) body (printed-rows off d w))

printed : (m : Meta) (body : List ℕ) → IsWithin (header_tree m) → IsPrintedOf (header_of (image_of (header_tree m) body)) (header_tree m)
printed m body w = record { blocks = off; text_is = (under m body w).header_is }

has : (m : Meta) (body : List ℕ) → IsWithin (header_tree m) → HasHeader (image_of (header_tree m) body) (header_tree m)
has m body w = record { headed = (under m body w).headed; within = w; header = inl (printed m body w) }

-- the body of a text, with its line's end
abbrev lined_body : List ℕ → List ℕ
lined_body raw = normal raw ++ 10 ∷ []

has_text : (m : Meta) (raw : List ℕ) → IsOfText m → HasHeader (text_under m raw) (header_tree m)
has_text m raw h = has m (lined_body raw) (of_text m h)

-- what is told of it

record Back (meta : Meta) (was : Bool) (told : Meta) (kept : Bool) : Type 0 where
  headed : was ≡ false
  metadata : told ≡ read_meta meta
  numbers : kept ≡ false

same_kind : (a b : SnapshotKind) → Some a ≡ Some b → a ≡ b
same_kind a b e = cc

told_back : (file : Option (List ℕ)) (m : Meta) (body x : List ℕ) (was : Bool) (told : Meta) (kept : Bool) → IsWithin (header_tree m) → IfSome m.assertion_line (λ n. n < 2 ^ 32) → IsTextFile file (image_of (header_tree m) body)
    → IsTextFile file x → Tells was x told kept → Back m was told kept
told_back file m body x false told kept w line there here t =
    let text = image_of (header_tree m) body in
    let whole : x ≡ text = one_text file x text here there in
    let entries : t.entries ≡ header_entries m = entries_same t.entries (header_entries m) (one_reading file x text (dict t.entries) (header_tree m) here t.header there (has m body w)).tree in
    let kinds : t.kind ≡ m.kind = same_kind t.kind m.kind (sym t.kind_is ∙ ap kind_in entries ∙ kind_back m) in
    record {
      headed = refl;
      metadata = t.meta_is ∙ ap (λ es. fields es t.kind) entries ∙ ap (fields (header_entries m)) kinds ∙ fields_back m line;
      numbers = t.header.numbers.printed (header_tree m) w (record { blocks = off; text_is = ap header_of whole ∙ (under m body w).header_is });
    }
told_back file m body x true told kept w line there here t =
    absurd (let e = sym (under m body w).headed ∙ ap is_headed (one_text file (image_of (header_tree m) body) x there here) ∙ t.unheaded in cc e)

pub read-back : (file : Option (List ℕ)) (m : Meta) (raw : List ℕ) (snapshot : Snapshot) → IsOfText m → IsTextFile file (text_under m raw) → IsReadAs file snapshot → IsReadBack m raw snapshot
read-back file m raw snapshot h there r =
    let back = told_back file m (lined_body raw) r.text (legacy_in snapshot) (meta_in snapshot) (number_text_in snapshot) (of_text m h) h.line there r.there r.metadata in
    let whole : r.text ≡ text_under m raw = one_text file r.text (text_under m raw) r.there there in
    let body : body_of r.text ≡ normal raw = ap body_of whole ∙ (under m (lined_body raw) (of_text m h)).body_is ∙ normal-body raw in
    let is_text : (meta_in snapshot).kind ≡ kind.Text = ap (λ x. x.kind) back.metadata ∙ h.kind in
    let P : SnapshotKind → Type 0 = λ k. HoldsBody k (body_of r.text) (contents_in snapshot) in
    let Q : List ℕ → Type 0 = λ x. HoldsBody kind.Text x (contents_in snapshot) in
    record {
      metadata = back.metadata;
      contents = subst Q body (subst P is_text r.contents);
      headed = back.headed;
      numbers = back.numbers;
    }

-- a binary is read back with what stands beside its file
pub binary-back : (path extension payload : List ℕ) (m : Files) (meta : Meta) (snapshot : Snapshot) → IsOfBinary meta extension → IsTextFile (get m path) (image meta (contents.Binary (Some payload)))
    → get m (sidecar_path path extension) ≡ Some payload → IsReadFrom path (Some m) (Ok snapshot) → IsBinaryBack meta payload snapshot
binary-back path extension payload m meta snapshot h there stands r =
    let w = within meta h.line h.info in
    let read = r.comes_to in
    let here : IsTextFile (get m path) read.text = subst (λ f. IsTextFile f read.text) (r.told m refl) read.there in
    let back = told_back (get m path) meta [] read.text (legacy_in snapshot) (meta_in snapshot) (number_text_in snapshot) w h.line there here read.metadata in
    let kinds : (meta_in snapshot).kind ≡ kind.Binary extension = ap (λ x. x.kind) back.metadata ∙ h.kind in
    let P : SnapshotKind → Type 0 = λ k. HoldsBeside path m k (contents_in snapshot) in
    record {
      metadata = back.metadata;
      contents = subst P kinds (r.beside m refl) ∙ ap contents.Binary stands;
      headed = back.headed;
      numbers = back.numbers;
    }

-- it is refused by a fault of the store alone, or since memory is out
pub no-refusal : (path : List ℕ) (file : Option (List ℕ)) (m : Meta) (raw : List ℕ) (e : Error) → IsOfText m → IsTextFile file (text_under m raw) → IsRefused path file e
    → (e ≡ FileIo path) ⊎ (e ≡ OutOfMemory)
no-refusal path file m raw (NoFile named) h there r = absurd (no_text_file file (text_under m raw) r.1 there)
no-refusal path file m raw (NotText named) h there r = absurd (text_or_none file (text_under m raw) r.1 there)
no-refusal path file m raw (FailedParsingYaml named) h there r =
    let P : List ℕ → Type 0 = λ x. HasHeader x (header_tree m) in
    absurd (r.1.unspelled (header_tree m) (subst P (one_text file (text_under m raw) r.1.text there r.1.there) (has_text m raw h)))
no-refusal path file m raw UnexpectedDataType h there r =
    absurd (r.other (header_entries m) (one_reading file r.text (text_under m raw) r.tree (header_tree m) r.there r.header there (has_text m raw h)).tree)
no-refusal path file m raw MissingField h there r =
    let entries = entries_same r.entries (header_entries m) (one_reading file r.text (text_under m raw) (dict r.entries) (header_tree m) r.there r.header there (has_text m raw h)).tree in
    absurd (let e = sym r.lacking ∙ ap kind_in entries ∙ kind_back m in cc e)
no-refusal path file m raw (FileIo named) h there (inl same) = inl (ap FileIo same)
no-refusal path file m raw (FileIo named) h there (inr r) =
    let entries = entries_same r.entries (header_entries m) (one_reading file r.text (text_under m raw) (dict r.entries) (header_tree m) r.there r.header there (has_text m raw h)).tree in
    absurd (let e = sym r.told ∙ ap kind_in entries ∙ kind_back m ∙ ap Some h.kind in cc e)
no-refusal path file m raw (FloatText named) h there r = absurd r
no-refusal path file m raw JsonKey h there r = absurd r
no-refusal path file m raw OutOfMemory h there r = inr refl

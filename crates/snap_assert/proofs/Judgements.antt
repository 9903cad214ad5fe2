-- What a reading of a file says of a pass.
use Rattle.snap_assert.proofs.Prelude.{◌≡◌, ◌↔◌, inl, inr, IsTrue, ℕ, Bool, true, false, cond, List, Option, None, Some, refl, sym, ap, ◌∙◌, subst, codes, Plain, dict, Entries, Blocks, is_trimmed, text_of, Error, FailedParsingYaml, UnexpectedDataType, MissingField, FileIo, FloatText, JsonKey, NotText, NoFile, OutOfMemory, raw_of, kind_of, compared_as, legacy_as, TextSnapshotKind, File, legacy, Agree, is_headed, body_of, Meta, IsTextFile, HasHeader, HoldsBody, IsReadAs, IsRefused, Tells, meta_in, contents_in, legacy_in, text_in, IsFileText, SnapshotContents, Text, Binary, SnapshotKind, Snapshot, BodyAgrees, HasTextHeader, HasBinaryHeader, IsLegacyFile, IsUnread, HeaderGives, LinesGive, MatchesAll, May, MayFully, Allowed, Asked, some_same, false_from_ne_true, normal}
use Rattle.snap_text.proofs.Agreeing.{files_older}
use Rattle.snap_content.specs.Plain.{pairs_made}
use Rattle.snap_fields.specs.Fields.{text_at}
use Rattle.snap_store.specs.Fields.{is_binary, kind_in, binary_kind, fields}
use Rattle.snap_store.specs.Meta.{legacy_meta}
use Rattle.snap_store.specs.Views.{snapshot_of}
use Rattle.snap_assert.specs.Default.{SameMeta, MatchFully, default_relation}
use Rattle.snap_assert.specs.Prepared.{new_view}
use Rattle.snap_assert.specs.Subjects.{tree_with, file_text}
use Rattle.snap_assert.proofs.HeldTexts.{full_held, held_full, full_binary}
use Rattle.snap_store.specs.declared.metadata.SnapshotKind.TheVariants as kind
use Rattle.snap_store.proofs.Readings.{one_text, no_text_file, text_or_none, one_reading, headed_or_not, entries_same}
use Rattle.snap_assert.proofs.Saved.{against_saved, fully_saved}

-- a pass that is decided by three facts and three refusals
judged : (passed : Bool) (file : Option (List ℕ)) (w : Blocks) (tree : Plain) → is_trimmed w ≡ true → (file ≡ None → passed ≡ false)
    → (passed ≡ true → BodyAgrees file (text_of w tree)) → (HasTextHeader file → BodyAgrees file (text_of w tree) → passed ≡ true)
    → (IsLegacyFile file → BodyAgrees file (text_of w tree) → passed ≡ true) → (HasBinaryHeader file → passed ≡ false)
    → (IsUnread file → passed ≡ false) → May passed file w tree
judged passed file w tree trimmed absent agrees headed legacy binary unread = record {
  absent = absent;
  agrees = agrees;
  headed = headed;
  legacy = legacy;
  binary = binary;
  unread = unread;
  saved = against_saved passed file w tree trimmed agrees headed;
}

-- what a header gives is that of a text, and what lines give is of the oldest format
given_header : (file : Option (List ℕ)) (told : Meta) → HeaderGives file told → HasTextHeader file
given_header file told h = record { whole = h.whole; there = h.there; entries = h.entries; header = h.header; not_binary = h.not_binary }

given_lines : (file : Option (List ℕ)) (told : Meta) → LinesGive file told → IsLegacyFile file
given_lines file told h = record { whole = h.whole; there = h.there; unheaded = h.unheaded }

-- no pass, where the file has not the header of a text
no_pass : (file : Option (List ℕ)) (w : Blocks) (tree : Plain) → is_trimmed w ≡ true → (HasTextHeader file → ⊥) → (IsLegacyFile file → ⊥) → May false file w tree
no_pass file w tree trimmed none headed = judged false file w tree trimmed (λ e. refl) (λ e. cc) (λ h b. absurd (none h)) (λ h b. absurd (headed h)) (λ h. refl) (λ h. refl)

no_full_pass : (file : Option (List ℕ)) (meta : Meta) (w : Blocks) (tree : Plain) → is_trimmed w ≡ true → (HasTextHeader file → ⊥) → (IsLegacyFile file → ⊥) → MayFully false file meta w tree
no_full_pass file meta w tree trimmed none headed =
    let never : (told : Meta) → HeaderGives file told → (false ≡ true) ↔ MatchesAll file told meta (text_of w tree)
    = λ told h. (λ e. absurd (cc e), λ m. absurd (none (given_header file told h))) in
    record {
      absent = λ e. refl;
      matches = λ e. absurd (cc e);
      headed = never;
      legacy = λ told h. (λ e. absurd (cc e), λ m. absurd (headed (given_lines file told h)));
      binary = λ h. refl;
      unread = λ h. refl;
      saved = fully_saved false file meta w tree trimmed never;
    }

-- no file with a header is one of the oldest format
has_header : (file : Option (List ℕ)) (text : List ℕ) → IsTextFile file text → is_headed text ≡ true → IsLegacyFile file → ⊥
has_header file text there headed h = headed_or_not file text h.whole there h.there headed h.unheaded

kind_of_text : (b : Bool) (extension : Option (List ℕ)) → b ≡ false → cond b (binary_kind extension) (Some kind.Text) ≡ Some kind.Text
kind_of_text b extension h = ap (λ c. cond c (binary_kind extension) (Some kind.Text)) h

text_kind : (entries : Entries) → is_binary entries ≡ false → kind_in entries ≡ Some kind.Text
text_kind entries h = kind_of_text (is_binary entries) (text_at (codes "extension") (pairs_made entries)) h

-- a file that is refused has neither the header of a text nor none
pub record IsShut (file : Option (List ℕ)) : Type 0 where
  pub unheaded : HasTextHeader file → ⊥
  pub headed : IsLegacyFile file → ⊥

shut : (file : Option (List ℕ)) → (HasTextHeader file → ⊥) → (IsLegacyFile file → ⊥) → IsShut file
shut file none other = record { unheaded = none; headed = other }

refused_shut : (path : List ℕ) (file : Option (List ℕ)) (error : Error) → IsRefused path file error
    → ((named : List ℕ) → error ≡ FileIo named → ⊥) → (error ≡ OutOfMemory → ⊥) → IsShut file
refused_shut path file (NoFile named) h io memory = shut file (λ k. no_text_file file k.whole h.1 k.there) (λ k. no_text_file file k.whole h.1 k.there)
refused_shut path file (NotText named) h io memory = shut file (λ k. text_or_none file k.whole h.1 k.there) (λ k. text_or_none file k.whole h.1 k.there)
refused_shut path file (FailedParsingYaml named) h io memory =
    shut file (λ k. h.1.unspelled (dict k.entries) (subst (λ t. HasHeader t (dict k.entries)) (one_text file k.whole h.1.text k.there h.1.there) k.header))
    (has_header file h.1.text h.1.there h.1.headed)
refused_shut path file UnexpectedDataType h io memory =
    shut file (λ k. h.other k.entries (one_reading file h.text k.whole h.tree (dict k.entries) h.there h.header k.there k.header).tree)
    (has_header file h.text h.there h.header.headed)
refused_shut path file MissingField h io memory =
    shut file (λ k.
    let same : h.entries ≡ k.entries = entries_same h.entries k.entries (one_reading file h.text k.whole (dict h.entries) (dict k.entries) h.there h.header k.there k.header).tree in
    let text = text_kind k.entries k.not_binary in
    let lacking = h.lacking in
    clash h.entries k.entries same lacking text)
    (has_header file h.text h.there h.header.headed)
  where
    clash : (a b : Entries) → a ≡ b → kind_in a ≡ None → kind_in b ≡ Some kind.Text → ⊥
    clash a b same none some = let e = sym none ∙ ap kind_in same ∙ some in cc e
refused_shut path file (FileIo named) h io memory = absurd (io named refl)
refused_shut path file (FloatText named) h io memory = absurd h
refused_shut path file JsonKey h io memory = absurd h
refused_shut path file OutOfMemory h io memory = absurd (memory refl)

-- what is asked of a tree
abbrev pub with_tree : Asked → Blocks → Plain → Asked
with_tree asked w tree = record asked { subject = tree_with w tree }

-- a refusal of the file is no pass
pub refused_no_pass : (fully : Bool) (asked : Asked) (w : Blocks) (tree : Plain) (path : List ℕ) (file : Option (List ℕ)) (error : Error) → is_trimmed w ≡ true → IsRefused path file error
    → ((named : List ℕ) → error ≡ FileIo named → ⊥) → (error ≡ OutOfMemory → ⊥) → Allowed fully (with_tree asked w tree) false file
refused_no_pass false asked w tree path file error trimmed h io memory =
    let s = refused_shut path file error h io memory in no_pass file w tree trimmed s.unheaded s.headed
refused_no_pass true asked w tree path file error trimmed h io memory =
    let s = refused_shut path file error h io memory in no_full_pass file asked.meta w tree trimmed s.unheaded s.headed

-- a file that was read: a text passes where the contents agree, and a payload never does
pub record Compares (passed : Bool) (k : SnapshotKind) (old new : SnapshotContents) (printed : List ℕ) : Type 0 where
  pub tells : IsTrue passed ↔ (Agree old new × (k ≡ kind.Text))
  pub printed_is : text_in new ≡ Some printed
  pub in_file : IsFileText new

-- the older form of a file's text
held_legacy : (k : TextSnapshotKind) (raw body : List ℕ) → raw ≡ body → k ≡ File → legacy_as k raw ≡ legacy body
held_legacy k raw body is file = ap (λ x. legacy_as x raw) file ∙ ap legacy is

fresh_legacy : (k : TextSnapshotKind) (raw printed : List ℕ) → Some (compared_as k raw) ≡ Some printed → k ≡ File → legacy_as k raw ≡ legacy printed
fresh_legacy k raw printed e file =
    held_legacy k raw printed (sym (ap (λ x. compared_as x raw) file) ∙ some_same (compared_as k raw) printed e) file

held_agrees : (k : SnapshotKind) (body printed : List ℕ) (old new : SnapshotContents) → HoldsBody k body old → text_in new ≡ Some printed → IsFileText new → Agree old new
    → legacy body ≡ legacy printed
held_agrees kind.Text body printed (Text held) (Text file_text) h e f a =
    sym (held_legacy (kind_of held) (raw_of held) body h.0 h.1)
    ∙ files_older (kind_of held) (kind_of file_text) (raw_of held) (raw_of file_text) h.1 f a
    ∙ fresh_legacy (kind_of file_text) (raw_of file_text) printed e f
held_agrees kind.Text body printed (Text held) (Binary payload) h e f a = absurd a
held_agrees kind.Text body printed (Binary payload) new h e f a = absurd h
held_agrees (kind.Binary extension) body printed (Text held) new h e f a = absurd h
held_agrees (kind.Binary extension) body printed (Binary payload) (Text file_text) h e f a = absurd a
held_agrees (kind.Binary extension) body printed (Binary payload) (Binary other) h e f a = absurd f

agrees_held : (body printed : List ℕ) (old new : SnapshotContents) → HoldsBody kind.Text body old → text_in new ≡ Some printed → IsFileText new → legacy body ≡ legacy printed
    → Agree old new
agrees_held body printed (Text held) (Text file_text) h e f n =
    inr (held_legacy (kind_of held) (raw_of held) body h.0 h.1 ∙ n ∙ sym (fresh_legacy (kind_of file_text) (raw_of file_text) printed e f))
agrees_held body printed (Text held) (Binary payload) h e f n = absurd f
agrees_held body printed (Binary payload) new h e f n = absurd h

no_agreement : (k : SnapshotKind) (body printed : List ℕ) (old new : SnapshotContents) → (extension : List ℕ) → k ≡ kind.Binary extension → HoldsBody k body old → text_in new ≡ Some printed → Agree old new → ⊥
no_agreement kind.Text body printed old new extension e h t a = cc
no_agreement (kind.Binary x) body printed (Text held) new extension e h t a = h
no_agreement (kind.Binary x) body printed (Binary payload) (Text file_text) extension e h t a = a
no_agreement (kind.Binary x) body printed (Binary payload) (Binary other) extension e h t a = cc t

-- the kind of a header that says binary
binary_is : (b : Bool) (extension : Option (List ℕ)) (k : SnapshotKind) → b ≡ true → cond b (binary_kind extension) (Some kind.Text) ≡ Some k
    → (x : List ℕ) × (k ≡ kind.Binary x)
binary_is b None k h e = absurd (let f : cond true (binary_kind None) (Some kind.Text) ≡ Some k = ap (λ c. cond c (binary_kind None) (Some kind.Text)) (sym h) ∙ e in cc f)
binary_is b (Some x) k h e = (x, let f : cond true (binary_kind (Some x)) (Some kind.Text) ≡ Some k = ap (λ c. cond c (binary_kind (Some x)) (Some kind.Text)) (sym h) ∙ e in cc f)

same_kind : (a b : SnapshotKind) → Some a ≡ Some b → a ≡ b
same_kind a b e = cc

-- the kind that was read, by what the file is
kind_headed : (file : Option (List ℕ)) (was : Bool) (text : List ℕ) (meta : Meta) (kept : Bool) → IsTextFile file text → Tells was text meta kept → HasTextHeader file → meta.kind ≡ kind.Text
kind_headed file false text meta kept there t h =
    let one = one_reading file text h.whole (dict t.entries) (dict h.entries) there t.header h.there h.header in
    let entries : t.entries ≡ h.entries = entries_same t.entries h.entries one.tree in
    ap (λ m. m.kind) t.meta_is ∙ same_kind t.kind kind.Text (sym t.kind_is ∙ ap kind_in entries ∙ text_kind h.entries h.not_binary)
kind_headed file true text meta kept there t h = absurd (headed_or_not file h.whole text h.there there h.header.headed t.unheaded)

kind_legacy : (file : Option (List ℕ)) (was : Bool) (text : List ℕ) (meta : Meta) (kept : Bool) → IsTextFile file text → Tells was text meta kept → IsLegacyFile file → meta.kind ≡ kind.Text
kind_legacy file false text meta kept there t h = absurd (headed_or_not file text h.whole there h.there t.header.headed h.unheaded)
kind_legacy file true text meta kept there t h = ap (λ m. m.kind) t.meta_is

kind_binary : (file : Option (List ℕ)) (was : Bool) (text : List ℕ) (meta : Meta) (kept : Bool) → IsTextFile file text → Tells was text meta kept → HasBinaryHeader file → (x : List ℕ) × (meta.kind ≡ kind.Binary x)
kind_binary file false text meta kept there t h =
    let one = one_reading file text h.whole (dict t.entries) (dict h.entries) there t.header h.there h.header in
    let entries : t.entries ≡ h.entries = entries_same t.entries h.entries one.tree in
    let binary : is_binary t.entries ≡ true = ap is_binary entries ∙ h.binary in
    let found = binary_is (is_binary t.entries) (text_at (codes "extension") (pairs_made t.entries)) t.kind binary t.kind_is in
    (found.0, ap (λ m. m.kind) t.meta_is ∙ found.1)
kind_binary file true text meta kept there t h = absurd (headed_or_not file h.whole text h.there there h.header.headed t.unheaded)

-- a file that was read is understood
read_or_unread : (file : Option (List ℕ)) (was : Bool) (text : List ℕ) (meta : Meta) (kept : Bool) → IsTextFile file text → Tells was text meta kept → IsUnread file → ⊥
read_or_unread file was text meta kept there t (inl h) = text_or_none file text h there
read_or_unread file true text meta kept there t (inr (inl h)) = headed_or_not file h.whole text h.there there h.header.headed t.unheaded
read_or_unread file true text meta kept there t (inr (inr h)) = headed_or_not file h.whole text h.there there h.header.headed t.unheaded
read_or_unread file false text meta kept there t (inr (inl h)) =
    h.other t.entries (sym (one_reading file text h.whole (dict t.entries) h.tree there t.header h.there h.header).tree)
read_or_unread file false text meta kept there t (inr (inr h)) =
    let same : t.entries ≡ h.entries = entries_same t.entries h.entries (one_reading file text h.whole (dict t.entries) (dict h.entries) there t.header h.there h.header).tree in
    let e = sym h.lacking ∙ ap kind_in (sym same) ∙ t.kind_is in cc e

-- a text that was read passes where its body agrees
agreement_passes : (file : Option (List ℕ)) (w : Blocks) (tree : Plain) (snapshot : Snapshot) (new : SnapshotContents) (passed : Bool) (r : IsReadAs file snapshot)
    → Compares passed (meta_in snapshot).kind (contents_in snapshot) new (text_of w tree) → (meta_in snapshot).kind ≡ kind.Text → BodyAgrees file (text_of w tree) → passed ≡ true
agreement_passes file w tree snapshot new passed r c text b =
    let body : legacy (body_of r.text) ≡ legacy (text_of w tree) = ap (λ t. legacy (body_of t)) (one_text file r.text b.whole r.there b.there) ∙ b.same in
    let Holds : SnapshotKind → Type 0 = λ k. HoldsBody k (body_of r.text) (contents_in snapshot) in
    c.tells.1 (agrees_held (body_of r.text) (text_of w tree) (contents_in snapshot) new (subst Holds text r.contents) c.printed_is c.in_file body, text)

read_judged : (file : Option (List ℕ)) (w : Blocks) (tree : Plain) (snapshot : Snapshot) (new : SnapshotContents) (passed : Bool) → is_trimmed w ≡ true → IsReadAs file snapshot
    → Compares passed (meta_in snapshot).kind (contents_in snapshot) new (text_of w tree) → May passed file w tree
read_judged file w tree snapshot new passed trimmed r c =
    let meta = meta_in snapshot in
    let was = legacy_in snapshot in
    judged passed file w tree trimmed
    (λ none. absurd (no_text_file file r.text none r.there))
    (λ yes. record {
      whole = r.text;
      there = r.there;
      same = held_agrees meta.kind (body_of r.text) (text_of w tree) (contents_in snapshot) new r.contents c.printed_is c.in_file (c.tells.0 yes).0;
    })
    (λ h b. agreement_passes file w tree snapshot new passed r c (kind_headed file was r.text meta _ r.there r.metadata h) b)
    (λ h b. agreement_passes file w tree snapshot new passed r c (kind_legacy file was r.text meta _ r.there r.metadata h) b)
    (λ h.
    let found = kind_binary file was r.text meta _ r.there r.metadata h in
    false_from_ne_true passed (λ yes. no_agreement meta.kind (body_of r.text) (text_of w tree) (contents_in snapshot) new found.0 found.1 r.contents c.printed_is (c.tells.0 yes).0))
    (λ h. absurd (read_or_unread file was r.text meta _ r.there r.metadata h))

-- a header that was read gives the metadata that were read
told_headed : (file : Option (List ℕ)) (was : Bool) (text : List ℕ) (meta told : Meta) (kept : Bool) → IsTextFile file text → Tells was text meta kept → HeaderGives file told → told ≡ meta
told_headed file false text meta told kept there t h =
    let one = one_reading file text h.whole (dict t.entries) (dict h.entries) there t.header h.there h.header in
    let entries : t.entries ≡ h.entries = entries_same t.entries h.entries one.tree in
    let text_is : t.kind ≡ kind.Text = same_kind t.kind kind.Text (sym t.kind_is ∙ ap kind_in entries ∙ text_kind h.entries h.not_binary) in
    h.told_is ∙ ap (λ e. fields e kind.Text) (sym entries) ∙ ap (fields t.entries) (sym text_is) ∙ sym t.meta_is
told_headed file true text meta told kept there t h = absurd (headed_or_not file h.whole text h.there there h.header.headed t.unheaded)

told_legacy : (file : Option (List ℕ)) (was : Bool) (text : List ℕ) (meta told : Meta) (kept : Bool) → IsTextFile file text → Tells was text meta kept → LinesGive file told → told ≡ meta
told_legacy file false text meta told kept there t h = absurd (headed_or_not file text h.whole there h.there t.header.headed h.unheaded)
told_legacy file true text meta told kept there t h = h.told_is ∙ ap legacy_meta (one_text file h.whole text h.there there) ∙ sym t.meta_is

-- the text of a file passes fully where the body and the metadata match
matches_all : (file : Option (List ℕ)) (w : Blocks) (tree : Plain) (snapshot : Snapshot) (told meta : Meta) (passed : Bool) (r : IsReadAs file snapshot)
    → IsTrue passed ↔ MatchFully (contents_in snapshot) (file_text (text_of w tree)) (meta_in snapshot) meta → told ≡ meta_in snapshot → (meta_in snapshot).kind ≡ kind.Text
    → (passed ≡ true) ↔ MatchesAll file told meta (text_of w tree)
matches_all file w tree snapshot told meta passed r tells told_is text =
    let Holds : SnapshotKind → Type 0 = λ k. HoldsBody k (body_of r.text) (contents_in snapshot) in (
      λ yes.
          let m = full_held (meta_in snapshot).kind (body_of r.text) (text_of w tree) (contents_in snapshot) (meta_in snapshot) meta r.contents (tells.0 yes) in
          record { body = record { whole = r.text; there = r.there; same = m.0 }; metadata = subst (λ t. SameMeta t meta) (sym told_is) m.1 },
      λ m.
          let body : normal (body_of r.text) ≡ normal (text_of w tree) = ap (λ t. normal (body_of t)) (one_text file r.text m.body.whole r.there m.body.there) ∙ m.body.same in
          tells.1 (held_full (body_of r.text) (text_of w tree) (contents_in snapshot) (meta_in snapshot) meta (subst Holds text r.contents) body (subst (λ t. SameMeta t meta) told_is m.metadata)),
    )

full_judged : (file : Option (List ℕ)) (meta : Meta) (w : Blocks) (tree : Plain) (snapshot : Snapshot) (passed : Bool) → is_trimmed w ≡ true → (r : IsReadAs file snapshot)
    → IsTrue passed ↔ MatchFully (contents_in snapshot) (file_text (text_of w tree)) (meta_in snapshot) meta → MayFully passed file meta w tree
full_judged file meta w tree snapshot passed trimmed r tells =
    let old = meta_in snapshot in
    let was = legacy_in snapshot in
    let under : (told : Meta) → HeaderGives file told → (passed ≡ true) ↔ MatchesAll file told meta (text_of w tree)
    = λ told h. matches_all file w tree snapshot told meta passed r tells (told_headed file was r.text old told _ r.there r.metadata h)
    (kind_headed file was r.text old _ r.there r.metadata (given_header file told h)) in
    record {
      absent = λ none. absurd (no_text_file file r.text none r.there);
      matches = λ yes. record {
        whole = r.text;
        there = r.there;
        same = (full_held old.kind (body_of r.text) (text_of w tree) (contents_in snapshot) old meta r.contents (tells.0 yes)).0;
      };
      headed = under;
      legacy = λ told h. matches_all file w tree snapshot told meta passed r tells (told_legacy file was r.text old told _ r.there r.metadata h)
          (kind_legacy file was r.text old _ r.there r.metadata (given_lines file told h));
      binary = λ h.
          let found = kind_binary file was r.text old _ r.there r.metadata h in
          false_from_ne_true passed (λ yes. full_binary old.kind (body_of r.text) (text_of w tree) (contents_in snapshot) old meta found.0 found.1 r.contents (tells.0 yes));
      unread = λ h. absurd (read_or_unread file was r.text old _ r.there r.metadata h);
      saved = fully_saved passed file meta w tree trimmed under;
    }

-- a text of a file against what the default comparator says of the snapshot that was read
pub read_allowed : (fully : Bool) (asked : Asked) (w : Blocks) (tree : Plain) (file : Option (List ℕ)) (snapshot : Snapshot) (passed : Bool) → is_trimmed w ≡ true → asked.meta.kind ≡ kind.Text
    → IsReadAs file snapshot → IsTrue passed ↔ default_relation fully (snapshot_of snapshot) (new_view (with_tree asked w tree)) → Allowed fully (with_tree asked w tree) passed file
read_allowed false asked w tree file snapshot passed trimmed text r tells =
    read_judged file w tree snapshot (file_text (text_of w tree)) passed trimmed r
    (record { tells = (λ yes. ((tells.0 yes).0, (tells.0 yes).1 ∙ text), λ both. tells.1 (both.0, both.1 ∙ sym text)); printed_is = refl; in_file = refl })
read_allowed true asked w tree file snapshot passed trimmed text r tells = full_judged file asked.meta w tree snapshot passed trimmed r tells

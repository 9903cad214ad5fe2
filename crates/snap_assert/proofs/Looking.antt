-- What was seen of a file, and of what is asked.
use Rattle.snap_assert.proofs.Prelude.{◌≡◌, ℕ, Bool, true, false, List, [], ◌∷◌, Option, Some, Plain, Blocks, Result, Ok, Err, refl, sym, ap, ◌∙◌, subst, inl, inr, IfOk, get, is_trimmed, text_of, Error, FailedParsingYaml, UnexpectedDataType, MissingField, FileIo, FloatText, JsonKey, NotText, NoFile, OutOfMemory, Files, Agree, normal, body_of, Meta, IsTextFile, IsReadAs, IsReadFrom, IsRefused, Tells, meta_in, contents_in, legacy_in, number_text_in, Snapshot, Allowed, Asked, AreWarnings, PassWarns, IsHeadedFile, IsNotUnderstood, IsPrepared, IsJudged, OlderAs, NoPass, RefusedEnd, IsCompared, SpeakOfOne, said_if, said, AssertError, Judged, Prepared}
use Rattle.snap_content.specs.List.{items_of}
use Rattle.snap_store.specs.Reading.{FileEnd, HoldsBeside}
use Rattle.snap_store.specs.Views.{snapshot_of}
use Rattle.snap_store.specs.declared.metadata.SnapshotKind.TheVariants as kind
use Rattle.snap_assert.specs.Default.{default_relation}
use Rattle.snap_assert.specs.Kept.{NamesRead}
use Rattle.snap_assert.specs.Prepared.{JudgedBy, IsPassedBy, new_view}
use Rattle.snap_assert.specs.Relations.{Relation}
use Rattle.snap_assert.specs.declared.error.AssertError.TheVariants as stop
use Rattle.snap_assert.specs.declared.outcome.Warning.{Warning}
use Rattle.snap_assert.specs.declared.outcome.Warning.TheVariants.{Unreadable, LegacyContents}
use Rattle.snap_assert.specs.Subjects.{file_text}
use Rattle.snap_assert.proofs.HeldTexts.{full_agrees, pass_matches, pass_differs}
use Rattle.snap_assert.proofs.Judgements.{with_tree, read_allowed, refused_no_pass}
use Rattle.snap_store.proofs.Readings.{one_text}

no_warning : (path : List ℕ) (file : Option (List ℕ)) (passed : Bool) (printed : List ℕ) (ws : List Warning) → ws ≡ [] → AreWarnings path file passed printed [] → AreWarnings path file passed printed ws
no_warning path file passed printed ws none h = let P : List Warning → Type 0 = λ w. AreWarnings path file passed printed w in subst P (sym none) h

one_warning : (path : List ℕ) (file : Option (List ℕ)) (passed : Bool) (printed : List ℕ) (ws : List Warning) (error : Error) → ws ≡ Unreadable error ∷ [] → passed ≡ false → IsNotUnderstood path file error
    → AreWarnings path file passed printed ws
one_warning path file passed printed ws error one none h = let P : List Warning → Type 0 = λ w. AreWarnings path file passed printed w in subst P (sym one) (none, h)

-- what is said of a pass
warned_pass : (file : Option (List ℕ)) (snapshot : Snapshot) (passed older : Bool) (printed : List ℕ) → IsReadAs file snapshot
    → (passed ≡ true → Agree (contents_in snapshot) (file_text printed)) → OlderAs passed older (contents_in snapshot) (file_text printed)
    → PassWarns file passed printed (said_if older LegacyContents)
warned_pass file snapshot passed false printed r agrees how = λ yes. record {
  whole = r.text;
  there = r.there;
  same = pass_matches (meta_in snapshot).kind (body_of r.text) printed (contents_in snapshot) r.contents (agrees yes) (how yes);
}
warned_pass file snapshot passed true printed r agrees how = (
  how.0,
  λ b.
      pass_differs (meta_in snapshot).kind (body_of r.text) printed (contents_in snapshot) r.contents how.1
      (ap (λ t. normal (body_of t)) (one_text file r.text b.whole r.there b.there) ∙ b.same),
)

headed_file : (file : Option (List ℕ)) (text : List ℕ) (meta : Meta) (kept : Bool) → IsTextFile file text → Tells false text meta kept → IsHeadedFile file kept
headed_file file text meta kept there t = record { whole = text; there = there; entries = t.entries; header = t.header; kind = t.kind; kind_is = t.kind_is }

-- what is said of a file that was read; one without a header keeps no number as a text
warned_file : (path : List ℕ) (file : Option (List ℕ)) (was number older passed : Bool) (text printed : List ℕ) (meta : Meta) → IsTextFile file text → Tells was text meta number
    → PassWarns file passed printed (said_if older LegacyContents) → AreWarnings path file passed printed (said was number older)
warned_file path file true true older passed text printed meta there t h = absurd (let clash = t.none_kept in cc clash)
warned_file path file true false older passed text printed meta there t h = (record { whole = text; there = there; unheaded = t.unheaded }, h)
warned_file path file false true older passed text printed meta there t h = (headed_file file text meta true there t, h)
warned_file path file false false false passed text printed meta there t h = inr (headed_file file text meta false there t, h)
warned_file path file false false true passed text printed meta there t h = inr (headed_file file text meta false there t, h)

-- what the default comparator tells implies that the contents agree
default_agrees : (fully : Bool) (asked : Asked) (w : Blocks) (tree : Plain) (snapshot : Snapshot) → default_relation fully (snapshot_of snapshot) (new_view (with_tree asked w tree)) → Agree (contents_in snapshot) (file_text (text_of w tree))
default_agrees false asked w tree snapshot h = h.0
default_agrees true asked w tree snapshot h = full_agrees (contents_in snapshot) (text_of w tree) (meta_in snapshot) asked.meta h

-- by what was read, and how it was compared, it may pass
pub judged_allowed : (fully : Bool) (asked : Asked) (w : Blocks) (tree : Plain) (m : Files) (passed : Bool) (warnings : List Warning) → is_trimmed w ≡ true → asked.meta.kind ≡ kind.Text
    → IsPassedBy (default_relation fully) (with_tree asked w tree) m passed warnings → Allowed fully (with_tree asked w tree) passed (get m asked.path)
judged_allowed fully asked w tree m passed warnings trimmed text j = by_read j.read j.end j.comes_to
  where
    file : Option (List ℕ)
    file = get m asked.path

    none : (error : Error) → IsRefused asked.path file error → ((named : List ℕ) → error ≡ FileIo named → ⊥) → (error ≡ OutOfMemory → ⊥) → passed ≡ false
        → Allowed fully (with_tree asked w tree) passed file
    none error h io memory e =
        subst (λ b. Allowed fully (with_tree asked w tree) b file) (sym e) (refused_no_pass fully asked w tree asked.path file error trimmed h io memory)

    by_read : (read : Result Snapshot Error) → FileEnd asked.path file read → JudgedBy (default_relation fully) read (new_view (with_tree asked w tree)) passed warnings
        → Allowed fully (with_tree asked w tree) passed file
    by_read (Ok snapshot) r c = read_allowed fully asked w tree file snapshot passed trimmed text r c.passes
    by_read (Err (NoFile named)) h c = none (NoFile named) h (λ n e. cc e) (λ e. cc e) c.0
    by_read (Err (NotText named)) h c = none (NotText named) h (λ n e. cc e) (λ e. cc e) c.0
    by_read (Err (FailedParsingYaml named)) h c = none (FailedParsingYaml named) h (λ n e. cc e) (λ e. cc e) c.0
    by_read (Err UnexpectedDataType) h c = none UnexpectedDataType h (λ n e. cc e) (λ e. cc e) c.0
    by_read (Err MissingField) h c = none MissingField h (λ n e. cc e) (λ e. cc e) c.0
    by_read (Err (FileIo named)) h c = absurd c
    by_read (Err OutOfMemory) h c = absurd c
    by_read (Err (FloatText named)) h c = absurd c
    by_read (Err JsonKey) h c = absurd c

-- and this is said
pub judged_warned : (fully : Bool) (asked : Asked) (w : Blocks) (tree : Plain) (m : Files) (passed : Bool) (warnings : List Warning) → IsPassedBy (default_relation fully) (with_tree asked w tree) m passed warnings
    → AreWarnings asked.path (get m asked.path) passed (text_of w tree) warnings
judged_warned fully asked w tree m passed warnings j = by_read j.read j.end j.comes_to
  where
    file : Option (List ℕ)
    file = get m asked.path

    printed : List ℕ
    printed = text_of w tree

    one : (error : Error) → warnings ≡ Unreadable error ∷ [] → passed ≡ false → IsNotUnderstood asked.path file error
        → AreWarnings asked.path file passed printed warnings
    one error is none h = one_warning asked.path file passed printed warnings error is none h

    by_read : (read : Result Snapshot Error) → FileEnd asked.path file read → JudgedBy (default_relation fully) read (new_view (with_tree asked w tree)) passed warnings
        → AreWarnings asked.path file passed printed warnings
    by_read (Ok snapshot) r c =
        let pass = warned_pass file snapshot passed c.older printed r (λ yes. default_agrees fully asked w tree snapshot (c.passes.0 yes)) c.older_is in
        subst (λ ws. AreWarnings asked.path file passed printed ws) (sym c.said_is)
        (warned_file asked.path file (legacy_in snapshot) (number_text_in snapshot) c.older passed r.text printed (meta_in snapshot) r.there r.metadata pass)
    by_read (Err (NoFile named)) h c = no_warning asked.path file passed printed warnings c.1 (inl (h.1, refl))
    by_read (Err (NotText named)) h c = one (NotText named) c.1 c.0 h
    by_read (Err (FailedParsingYaml named)) h c = one (FailedParsingYaml named) c.1 c.0 h
    by_read (Err UnexpectedDataType) h c = one UnexpectedDataType c.1 c.0 h
    by_read (Err MissingField) h c = one MissingField c.1 c.0 h
    by_read (Err (FileIo named)) h c = absurd c
    by_read (Err OutOfMemory) h c = absurd c
    by_read (Err (FloatText named)) h c = absurd c
    by_read (Err JsonKey) h c = absurd c

-- of one reading
pub judged_of_one : (relation : Relation) (asked : Asked) (m : Files) (passed : Bool) (warnings : List Warning) → IsPassedBy relation asked m passed warnings → SpeakOfOne asked.path (get m asked.path) passed warnings
judged_of_one relation asked m passed warnings j = by_read j.read j.end j.comes_to
  where
    file : Option (List ℕ)
    file = get m asked.path

    by_read : (read : Result Snapshot Error) → FileEnd asked.path file read → JudgedBy relation read (new_view asked) passed warnings
        → SpeakOfOne asked.path file passed warnings
    by_read (Ok snapshot) r c = record { read = Ok snapshot; end = r; says = (c.older, c.said_is) }
    by_read (Err error) h c = record { read = Err error; end = h; says = c }

-- a file that was read is judged by the comparison
pub judge_read : (relation : Relation) (asked : Asked) (m : Files) (prepared : Prepared) (files : Option Files) (snapshot : Snapshot) (judged : Judged)
    → IsPrepared asked prepared → files ≡ Some m → IsReadFrom prepared.path files (Ok snapshot)
    → IsCompared relation (snapshot_of snapshot) (snapshot_of prepared.snapshot) judged.passed (items_of judged.warnings) → IsJudged relation asked m judged
judge_read relation asked m prepared files snapshot judged p told r c = record {
  read = Ok snapshot;
  end = subst (λ f. IsReadAs f snapshot) (r.told m told ∙ ap (get m) p.path) r.comes_to;
  beside = subst (λ path. HoldsBeside path m (meta_in snapshot).kind (contents_in snapshot)) p.path (r.beside m told);
  comes_to = subst (λ v. IsCompared relation (snapshot_of snapshot) v judged.passed (items_of judged.warnings)) p.view c;
}

by_error : (relation : Relation) (asked : Asked) (m : Files) (error : Error) (result : Result Judged AssertError) → IsRefused asked.path (get m asked.path) error
    → RefusedEnd error result → IfOk result (λ judged. IsJudged relation asked m judged)
by_error relation asked m error (Err e) h end = tt
by_error relation asked m (NoFile named) (Ok judged) h end = record { read = Err (NoFile named); end = h; beside = tt; comes_to = end }
by_error relation asked m (FileIo named) (Ok judged) h end = absurd (cc end)
by_error relation asked m OutOfMemory (Ok judged) h end = absurd (cc end)
by_error relation asked m (NotText named) (Ok judged) h end = record { read = Err (NotText named); end = h; beside = tt; comes_to = end }
by_error relation asked m (FailedParsingYaml named) (Ok judged) h end = record { read = Err (FailedParsingYaml named); end = h; beside = tt; comes_to = end }
by_error relation asked m UnexpectedDataType (Ok judged) h end = record { read = Err UnexpectedDataType; end = h; beside = tt; comes_to = end }
by_error relation asked m MissingField (Ok judged) h end = record { read = Err MissingField; end = h; beside = tt; comes_to = end }
by_error relation asked m (FloatText named) (Ok judged) h end = absurd h
by_error relation asked m JsonKey (Ok judged) h end = absurd h

-- a file that is refused is no pass
pub judge_refused : (relation : Relation) (asked : Asked) (m : Files) (prepared : Prepared) (files : Option Files) (error : Error) (result : Result Judged AssertError)
    → IsPrepared asked prepared → files ≡ Some m → IsReadFrom prepared.path files (Err error) → RefusedEnd error result → IfOk result (λ judged. IsJudged relation asked m judged)
judge_refused relation asked m prepared files error result p told r end =
    let Refused_at : List ℕ → Option (List ℕ) → Type 0 = λ path file. IsRefused path file error in
    by_error relation asked m error result
    (subst (Refused_at asked.path) (r.told m told ∙ ap (get m) p.path) (subst (λ path. Refused_at path r.file) p.path r.comes_to)) end

pub all_judged : (relation : Relation) (prepared : Prepared) (files : Option Files) (result : Result Judged AssertError) → ((asked : Asked) → IsPrepared asked prepared → (m : Files) → files ≡ Some m → IfOk result (λ judged. IsJudged relation asked m judged))
    → IfOk result (λ judged. (asked : Asked) → IsPrepared asked prepared → (m : Files) → files ≡ Some m → IsJudged relation asked m judged)
all_judged relation prepared files (Ok judged) h = h
all_judged relation prepared files (Err e) h = tt

-- a fault in reading names the snapshot's path, or that of a payload beside it
unrefused_at : (path : List ℕ) (warnings : List Warning) (result : Result Judged AssertError) → NoPass warnings result → NamesRead path result
unrefused_at path warnings (Ok judged) h = tt
unrefused_at path warnings (Err stop.OutOfMemory) h = tt
unrefused_at path warnings (Err (stop.FileIo named)) h = absurd h
unrefused_at path warnings (Err stop.NameClash) h = absurd h
unrefused_at path warnings (Err stop.DoctestNeedsName) h = absurd h
unrefused_at path warnings (Err (stop.DuplicateDiffers key kept new)) h = absurd h
unrefused_at path warnings (Err stop.NamesExhausted) h = absurd h
unrefused_at path warnings (Err stop.InlineDuplicate) h = absurd h
unrefused_at path warnings (Err stop.BadExtension) h = absurd h
unrefused_at path warnings (Err stop.JsonKey) h = absurd h

pub refused_at : (path : List ℕ) (file : Option (List ℕ)) (error : Error) (result : Result Judged AssertError) → IsRefused path file error → RefusedEnd error result → NamesRead path result
refused_at path file (NoFile named) result h end = unrefused_at path [] result end
refused_at path file (FileIo named) result (inl at) end = subst (NamesRead {T = Judged} path) (sym end) (inl at)
refused_at path file (FileIo named) result (inr beside) end = subst (NamesRead {T = Judged} path) (sym end) (inr (beside.extension, beside.named_is))
refused_at path file OutOfMemory result h end = subst (NamesRead {T = Judged} path) (sym end) tt
refused_at path file (NotText named) result h end = unrefused_at path (Unreadable (NotText named) ∷ []) result end
refused_at path file (FailedParsingYaml named) result h end = unrefused_at path (Unreadable (FailedParsingYaml named) ∷ []) result end
refused_at path file UnexpectedDataType result h end = unrefused_at path (Unreadable UnexpectedDataType ∷ []) result end
refused_at path file MissingField result h end = unrefused_at path (Unreadable MissingField ∷ []) result end
refused_at path file (FloatText named) result h end = absurd h
refused_at path file JsonKey result h end = absurd h

-- What would become of a request.
use Rattle.snap_explain.proofs.Prelude.{◌≡◌, ℕ, List, Bool, true, false, Option, Some, None, Result, Ok, Err, refl, sym, ap, ◌∙◌, subst, inr}
use Rattle.std.specs.Prelude.{IfOk, OnOk, MatchOption, is_some}
use Rattle.snap_content.specs.List.{items_of}
use Rattle.snap_print.specs.Spell.{spell_text}
use Rattle.snap_store.specs.Image.{pending_path}
use Rattle.snap_explain.specs.Notes.{has_word, notes_by}
use Rattle.snap_explain.specs.declared.notes.Notes.{Notes}
use Rattle.std.specs.FinMap.{get}
use Rattle.snap_content.specs.declared.error.Error.{Error}
use Rattle.snap_content.specs.declared.error.Error.TheVariants as file
use Rattle.snap_io.specs.Files.{Files}
use Rattle.snap_io.specs.Causes.{Counted, CountedIf}
use Rattle.snap_io.specs.Outside.{Given}
use Rattle.snap_store.specs.Causes.{is_file_fault}
use Rattle.snap_store.specs.Reading.{IsReadFrom, IsReadAs, IsNoText, HasUnspelledHeader, HasOtherHeader, LacksExtension}
use Rattle.snap_store.specs.Views.{contents_in}
use Rattle.snap_store.specs.declared.snapshot.Snapshot.{Snapshot}
use Rattle.snap_assert.specs.Outcomes.{ErrorCause}
use Rattle.snap_assert.specs.Previews.{IsForeseen, IsPreviewed, IsStoppedBefore}
use Rattle.snap_assert.specs.Session.{is_open, opened, closed}
use Rattle.snap_explain.specs.Asked.{Seen, Known, asked_before, deeper, first_asker, known_behind, known_within, shallower, told_first, with_asker}
use Rattle.snap_explain.specs.Outside.{is_outside}
use Rattle.snap_assert.specs.Steps.{Asked}
use Rattle.snap_assert.specs.declared.error.AssertError.{AssertError}
use Rattle.snap_assert.specs.declared.error.AssertError.TheVariants as refusal
use Rattle.snap_assert.specs.declared.preview.Preview.{Preview}
use Rattle.snap_run.specs.Answers.{RunWords, assertion_by, asked_by}
use Rattle.snap_run.specs.Refused.{kind_of}
use Rattle.snap_run.specs.declared.status.RefusalKind.{RefusalKind}
use Rattle.snap_run.specs.declared.status.RefusalKind.TheVariants.{NameClash, DoctestNeedsName, DuplicateDiffers, NamesExhausted}
use Rattle.snap_run_requests.specs.Requests.{AssertionView, RequestView, asserts, begins, ends, ReadsAs}
use Rattle.snap_explain.specs.Troubles.{IsOfFile, IsCauseOf, IsContentCause, ComesTo, PassesWith, Passes, IsNoted, IsSaidFor, PassesAfter, IsSaidAfter, IsUnpassed, IsUnpassedBy, GoesOn, IsClear, HasTrouble, IsRefusedFor, RefusesFor, unforeseen, unread, is_tell_file}
use Rattle.snap_explain.specs.Troubles.IsClear.{passes, begin, end}
use Rattle.snap_explain.specs.Troubles.HasTrouble.{stray, refused, said_of}
use Rattle.snap_explain.specs.declared.telling.TellError.{TellError}
use Rattle.snap_explain.specs.declared.trouble.Cause.{Cause}
use Rattle.snap_explain.specs.declared.trouble.Cause.TheVariants as cause
use Rattle.snap_explain.specs.declared.trouble.Trouble.{Trouble}
use Rattle.snap_explain.specs.declared.trouble.Trouble.TheVariants as trouble

-- what is foreseen comes to a pass or to none, as it was judged
pub comes_to : (fully : Bool) (asked : Asked) (preview : Preview) (files : Option Files) (passed : Bool) → preview.judged.passed ≡ passed → IsForeseen fully asked preview files → Given files (λ m. ComesTo fully asked passed m)
comes_to fully asked preview files passed is seen = λ m told. record { judged = preview.judged; compared = seen.judged m told; so = is }

pub is_unpassed : (fully : Bool) (asked : Asked) (preview : Preview) (files : Option Files) (what : Trouble) → preview.judged.passed ≡ false → IsUnpassedBy preview.path files what → IsForeseen fully asked preview files → IsUnpassed fully asked files what
is_unpassed fully asked preview files what is why seen = record {
  fails = comes_to fully asked preview files false is seen;
  why = subst (λ path. IsUnpassedBy path files what) seen.path why;
}

-- what is foreseen is a pass, of which these are to be said
pub passes_with : (workspace : List ℕ) (earlier : Option ℕ) (fully : Bool) (asked : Asked) (preview : Preview) (files : Option Files) (notes : Notes) (pending outside : Bool) → preview.judged.passed ≡ true
    → notes ≡ notes_by pending (items_of preview.judged.warnings) earlier outside → outside ≡ is_outside workspace preview.path
    → Given files (λ m. pending ≡ is_some (get m (pending_path preview.path))) → IsForeseen fully asked preview files → Given files (λ m. PassesWith workspace earlier fully asked notes m)
passes_with workspace earlier fully asked preview files notes pending outside is told out waits seen = λ m here. record {
  judged = preview.judged;
  compared = seen.judged m here;
  passed = is;
  told =
      told ∙ ap (λ b. notes_by b (items_of preview.judged.warnings) earlier outside) (waits m here ∙ ap (λ path. is_some (get m (pending_path path))) seen.path)
      ∙ ap (notes_by (is_some (get m (pending_path asked.path))) (items_of preview.judged.warnings) earlier) (out ∙ ap (is_outside workspace) seen.path);
}

pub is_noted : (found : Option Trouble) (workspace : List ℕ) (earlier : Option ℕ) (fully : Bool) (asked : Asked) (preview : Preview) (files : Option Files) (notes : Notes)
    → MatchOption found (has_word notes ≡ false) (λ what. (has_word notes ≡ true) × (what ≡ trouble.Noted notes preview.path (spell_text preview.path)))
    → Given files (λ m. PassesWith workspace earlier fully asked notes m) → IsForeseen fully asked preview files
    → MatchOption found (Passes workspace earlier fully asked files) (λ what. IsNoted workspace earlier fully asked files what)
is_noted None workspace earlier fully asked preview files notes h holds seen = record { notes = notes; holds = holds; silent = h }
is_noted (Some what) workspace earlier fully asked preview files notes h holds seen =
    record { notes = notes; spelled = spell_text preview.path; is = h.1 ∙ ap (λ path. trouble.Noted notes path (spell_text preview.path)) seen.path; path_is = ap spell_text seen.path; holds = holds; worded = h.0 }

said_pass : (found : Option Trouble) (workspace : List ℕ) (earlier : Option ℕ) (fully : Bool) (asked : Asked) (files : Option Files)
    → MatchOption found (Passes workspace earlier fully asked files) (λ what. IsNoted workspace earlier fully asked files what)
    → MatchOption found (Passes workspace earlier fully asked files) (λ what. IsSaidFor workspace earlier fully asked files what)
said_pass None workspace earlier fully asked files h = h
said_pass (Some what) workspace earlier fully asked files h = inr h

-- what an assertion would come to, by what is foreseen of it, after these documents
abbrev pub IsFound : List ℕ → Seen → Preview → Option Files → Option Trouble → Type 0
IsFound workspace seen preview files found =
    (fully : Bool) (asked : Asked) → IsForeseen fully asked preview files → MatchOption found (Passes workspace (asked_before asked.path seen) fully asked files) (λ what. IsSaidFor workspace (asked_before asked.path seen) fully asked files what)

pub passes_said : (result : Result (Option Trouble) TellError) (workspace : List ℕ) (seen : Seen) (depth : ℕ) (first : Option ℕ) (preview : Preview) (files : Option Files) → preview.judged.passed ≡ true
    → first ≡ first_asker preview.path seen → depth ≡ seen.depth
    → IfOk result (λ found. (fully : Bool) (asked : Asked) → preview.judged.passed ≡ true → IsForeseen fully asked preview files
    → MatchOption found (Passes workspace (told_first first depth) fully asked files) (λ what. IsNoted workspace (told_first first depth) fully asked files what))
    → IfOk result (λ found. IsFound workspace seen preview files found)
passes_said (Ok found) workspace seen depth first preview files is asks same h = λ fully asked foreseen.
    let told : told_first first depth ≡ asked_before asked.path seen =
    ap (λ f. told_first f depth) (asks ∙ ap (λ path. first_asker path seen) foreseen.path) ∙ ap (told_first (first_asker asked.path seen)) same in
    subst (λ earlier. MatchOption found (Passes workspace earlier fully asked files) (λ what. IsSaidFor workspace earlier fully asked files what)) told
    (said_pass found workspace (told_first first depth) fully asked files (h fully asked is foreseen))
passes_said (Err error) workspace seen depth first preview files is asks same h = tt

-- the assertion goes on, and what is foreseen of it
goes_on : (words : RunWords) (number : ℕ) (a : AssertionView) (preview : Preview) (files : Option Files) (k k' : Known) (asks : Asked → Type 0) → (p : IsPreviewed words.full (assertion_by words a) preview files k.session k'.session)
    → k'.seen ≡ with_asker number preview.path k.seen → ((asked : Asked) → IsForeseen words.full asked preview files → asks asked) → GoesOn words number a k k' asks
goes_on words number a preview files k k' asks p seen then = record {
  course = p.course;
  course_is = p.course_is;
  remembered = p.remembered;
  seen = seen ∙ ap (λ path. with_asker number path k.seen) p.foreseen.path;
  is = then (asked_by words a p.course.name) p.foreseen;
}

of_preview : (found : Option Trouble) (words : RunWords) (number : ℕ) (a : AssertionView) (preview : Preview) (files : Option Files) (k k' : Known) → IsPreviewed words.full (assertion_by words a) preview files k.session k'.session
    → k'.seen ≡ with_asker number preview.path k.seen → IsFound words.workspace k.seen preview files found
    → MatchOption found (IsClear words files number k k' (asserts a)) (λ what. HasTrouble words files number k k' (asserts a) what)
of_preview None words number a preview files k k' p seen found = passes (asserts a) a refl (goes_on words number a preview files k k' (PassesAfter words k files) p seen (found words.full))
of_preview (Some what) words number a preview files k k' p seen found = said_of (asserts a) a what refl (goes_on words number a preview files k k' (IsSaidAfter words k files what) p seen (found words.full))

pub found_in_preview : (result : Result (Option Trouble) TellError) (words : RunWords) (number : ℕ) (a : AssertionView) (preview : Preview) (files : Option Files) (k k' : Known)
    → IsPreviewed words.full (assertion_by words a) preview files k.session k'.session → OnOk result (k'.seen ≡ with_asker number preview.path k.seen) → IfOk result (λ found. IsFound words.workspace k.seen preview files found)
    → IfOk result (λ found. MatchOption found (IsClear words files number k k' (asserts a)) (λ what. HasTrouble words files number k k' (asserts a) what))
found_in_preview (Ok found) words number a preview files k k' p seen h = of_preview found words number a preview files k k' p seen h
found_in_preview (Err error) words number a preview files k k' p seen h = tt

-- an assertion that is refused is in trouble
refusal_is : (kind : RefusalKind) (words : RunWords) (number : ℕ) (a : AssertionView) (files : Option Files) (k k' : Known) (found : Option Trouble) → IsRefusedFor words a k k' kind → RefusesFor (Ok kind) found
    → MatchOption found (IsClear words files number k k' (asserts a)) (λ what. HasTrouble words files number k k' (asserts a) what)
refusal_is kind words number a files k k' found h t =
    subst (λ f. MatchOption f (IsClear words files number k k' (asserts a)) (λ what. HasTrouble words files number k k' (asserts a) what)) (sym t.1)
    (refused (asserts a) a (trouble.Refused kind t.0) kind t.0 refl refl h)

of_stop : (e : AssertError) (words : RunWords) (number : ℕ) (a : AssertionView) (files : Option Files) (k k' : Known) (found : Option Trouble) → IsStoppedBefore (assertion_by words a) e k.session k'.session → k'.seen ≡ k.seen → RefusesFor (unforeseen e) found
    → MatchOption found (IsClear words files number k k' (asserts a)) (λ what. HasTrouble words files number k k' (asserts a) what)
of_stop refusal.OutOfMemory words number a files k k' found h same t = absurd t
of_stop (refusal.FileIo path) words number a files k k' found h same t = absurd t
of_stop refusal.NameClash words number a files k k' found h same t = refusal_is NameClash words number a files k k' found
    (record { refused = h.refused; course_is = h.course_is; kind_is = ap kind_of h.error_is; remembered = h.remembered; seen = same }) t
of_stop refusal.DoctestNeedsName words number a files k k' found h same t = refusal_is DoctestNeedsName words number a files k k' found
    (record { refused = h.refused; course_is = h.course_is; kind_is = ap kind_of h.error_is; remembered = h.remembered; seen = same }) t
of_stop (refusal.DuplicateDiffers key kept new) words number a files k k' found h same t = refusal_is DuplicateDiffers words number a files k k' found
    (record { refused = h.refused; course_is = h.course_is; kind_is = ap kind_of h.error_is; remembered = h.remembered; seen = same }) t
of_stop refusal.NamesExhausted words number a files k k' found h same t = refusal_is NamesExhausted words number a files k k' found
    (record { refused = h.refused; course_is = h.course_is; kind_is = ap kind_of h.error_is; remembered = h.remembered; seen = same }) t
of_stop refusal.InlineDuplicate words number a files k k' found h same t = absurd t
of_stop refusal.BadExtension words number a files k k' found h same t = absurd t
of_stop refusal.JsonKey words number a files k k' found h same t = absurd t

pub stopped : (result : Result (Option Trouble) TellError) (e : AssertError) (words : RunWords) (number : ℕ) (a : AssertionView) (files : Option Files) (k k' : Known) → IsStoppedBefore (assertion_by words a) e k.session k'.session → k'.seen ≡ k.seen
    → IfOk result (λ found. RefusesFor (unforeseen e) found) → IfOk result (λ found. MatchOption found (IsClear words files number k k' (asserts a)) (λ what. HasTrouble words files number k k' (asserts a) what))
stopped (Ok found) e words number a files k k' h same t = of_stop e words number a files k k' found h same t
stopped (Err error) e words number a files k k' h same t = tt

-- and leaves the count of the store's faults, but for a fault
pub stop_counts : (e : AssertError) (before now : ℕ) → ErrorCause before now e → Counted is_tell_file before now (unforeseen e)
stop_counts refusal.OutOfMemory before now h = h
stop_counts (refusal.FileIo path) before now h = h
stop_counts refusal.NameClash before now h = h
stop_counts refusal.DoctestNeedsName before now h = h
stop_counts (refusal.DuplicateDiffers key kept new) before now h = h
stop_counts refusal.NamesExhausted before now h = h
stop_counts refusal.InlineDuplicate before now h = h
stop_counts refusal.BadExtension before now h = h
stop_counts refusal.JsonKey before now h = h

-- a block begins, or ends where one is open
pub known_is : (k other : Known) → k.session ≡ other.session → k.seen ≡ other.seen → k ≡ other
known_is k other a b = ap (λ s. record { session = s; seen = k.seen }) a ∙ ap (λ s. record { session = other.session; seen = s }) b

pub begun : (result : Result (Option Trouble) TellError) (words : RunWords) (files : Option Files) (number : ℕ) (k k' : Known) (r : RequestView) → r ≡ begins → IfOk result (λ found. (found ≡ None) × (k'.session ≡ opened k.session))
    → OnOk result (k'.seen ≡ deeper k.seen) → IfOk result (λ found. MatchOption found (IsClear words files number k k' r) (λ what. HasTrouble words files number k k' r what))
begun (Ok found) words files number k k' r is h seen =
    subst (λ f. MatchOption f (IsClear words files number k k' r) (λ what. HasTrouble words files number k k' r what)) (sym h.0) (begin r is (known_is k' (known_within k) h.1 seen))
begun (Err error) words files number k k' r is h seen = tt

pub ended : (found : Option Trouble) (words : RunWords) (files : Option Files) (number : ℕ) (k k' : Known) (r : RequestView) → r ≡ ends
    → MatchOption found ((is_open k.session ≡ true) × ((k'.session ≡ closed k.session) × (k'.seen ≡ shallower k.seen)))
    (λ what. (what ≡ trouble.StrayEnd) × ((is_open k.session ≡ false) × ((k'.session ≡ k.session) × (k'.seen ≡ k.seen))))
    → MatchOption found (IsClear words files number k k' r) (λ what. HasTrouble words files number k k' r what)
ended None words files number k k' r is h = end r is h.0 (known_is k' (known_behind k) h.1.0 h.1.1)
ended (Some what) words files number k k' r is h = stray r what is h.0 h.1.0 (known_is k' k h.1.1.0 h.1.1.1)

-- an assertion that was read is made in a file
pub of_file : (document : List ℕ) (r : RequestView) → ReadsAs document r → IsOfFile r
of_file document (asserts a) h = h.request_is.of_file
of_file document begins h = tt
of_file document ends h = tt

-- a file that is refused
pub cause_refused : (error : Error) (path : List ℕ) (files : Option Files) → IsReadFrom path files (Err error) → IfOk (unread error) (λ found. Given files (λ m. IsCauseOf (get m path) found))
cause_refused (file.NoFile named) path files h = λ m told. sym (h.told m told) ∙ h.comes_to.1
cause_refused (file.NotText named) path files h = λ m told. subst IsNoText (h.told m told) h.comes_to.1
cause_refused (file.FailedParsingYaml named) path files h = λ m told. subst HasUnspelledHeader (h.told m told) h.comes_to.1
cause_refused file.UnexpectedDataType path files h = λ m told. subst HasOtherHeader (h.told m told) h.comes_to
cause_refused file.MissingField path files h = λ m told. subst LacksExtension (h.told m told) h.comes_to
cause_refused (file.FileIo named) path files h = tt
cause_refused (file.FloatText named) path files h = tt
cause_refused file.JsonKey path files h = tt
cause_refused file.OutOfMemory path files h = tt

pub refused_counts : (error : Error) (before now : ℕ) → CountedIf (is_file_fault error) before now → Counted is_tell_file before now (unread error)
refused_counts (file.NoFile named) before now h = h
refused_counts (file.NotText named) before now h = h
refused_counts (file.FailedParsingYaml named) before now h = h
refused_counts file.UnexpectedDataType before now h = h
refused_counts file.MissingField before now h = h
refused_counts (file.FileIo named) before now h = h
refused_counts (file.FloatText named) before now h = h
refused_counts file.JsonKey before now h = h
refused_counts file.OutOfMemory before now h = h

-- a file that is read
pub cause_read : (snapshot : Snapshot) (path : List ℕ) (files : Option Files) (what : Cause) → IsReadFrom path files (Ok snapshot) → IsContentCause (contents_in snapshot) what → Given files (λ m. IsCauseOf (get m path) what)
cause_read snapshot path files cause.Absent h k = absurd k
cause_read snapshot path files cause.NotUtf8 h k = absurd k
cause_read snapshot path files cause.NoHeader h k = absurd k
cause_read snapshot path files cause.NoMap h k = absurd k
cause_read snapshot path files cause.NoExtension h k = absurd k
cause_read snapshot path files cause.Binary h k = λ m told. record { snapshot = snapshot; read = subst (λ f. IsReadAs f snapshot) (h.told m told) h.comes_to; payload = k }
cause_read snapshot path files cause.Differs h k = λ m told. record { snapshot = snapshot; read = subst (λ f. IsReadAs f snapshot) (h.told m told) h.comes_to; text = k.0; text_is = k.1 }

pub causes_read : (result : Result (Cause × List ℕ) TellError) (snapshot : Snapshot) (path : List ℕ) (files : Option Files) → IsReadFrom path files (Ok snapshot) → IfOk result (λ found. IsContentCause (contents_in snapshot) found.0)
    → IfOk result (λ found. Given files (λ m. IsCauseOf (get m path) found.0))
causes_read (Ok found) snapshot path files h k = cause_read snapshot path files found.0 h k
causes_read (Err error) snapshot path files h k = tt

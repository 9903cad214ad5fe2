-- What stands of an assertion that stopped, put together from its parts.
use Rattle.snap_assert.proofs.Prelude.{◌≡◌, inl, inr, ◌<◌, ℕ, Bool, true, false, List, [], ◌∷◌, ◌++◌, length, take, get_or, map, Option, None, Some, Result, Ok, Err, refl, sym, ap, ◌∙◌, subst, remove, get, Files, MayBeGone, Error, FailedParsingYaml, UnexpectedDataType, MissingField, FileIo, FloatText, JsonKey, NotText, NoFile, OutOfMemory, parent_of, without_line, meta_in, contents_in, remove_each, AllStray, AreStrays, Asked, pending_path, cleared, written, step, IsPrepared, Update, InPlace, NewFile, NoUpdate, AssertError, Assertion, asked_under, assertion_of, Config, SessionView, Blocks, Plain, is_trimmed, RefusedEnd, NoPass, Judged, Prepared, IsReadFrom}
use Rattle.std.proofs.Common.{if◌then◌else◌}
use Rattle.std.proofs.lemmas.List.{append-nil}
use Rattle.std.specs.Result.{IfErr}
use Rattle.snap_content.specs.Plain.{plain}
use Rattle.snap_content.specs.Tree.{Tree}
use Rattle.snap_io.specs.Changes.{Change, removes, changed, all_changed}
use Rattle.snap_io.specs.StandsAfter.{StandsAfter, NamesNext}
use Rattle.snap_io.proofs.Standing.{nothing_begun, stands_first, stands_later, in_work, stopped_at}
use Rattle.snap_store.specs.Causes as store
use Rattle.snap_store.specs.Causes.{IsCallError}
use Rattle.snap_store.specs.Reading.{IsRefused}
use Rattle.snap_store.specs.Saving.{saving}
use Rattle.snap_store.specs.declared.metadata.SnapshotKind.TheVariants as kind
use Rattle.snap_assert_place.specs.Place.{PlaceView}
use Rattle.snap_assert_settings.specs.Settings.{SettingsView}
use Rattle.snap_assert.specs.Default.{default_relation}
use Rattle.snap_assert.specs.Halts.{named_by, IsLookedAt, FaultIsLook, MayBeSeen, HaltsBy, looking, changing, PassesAgainst, PassesAsAllowed, IsHaltedBy, IsHalted}
use Rattle.snap_assert.specs.Names.{Named, name_step, RefusedAs}
use Rattle.snap_assert.specs.Relations.{Relation}
use Rattle.snap_assert.specs.Settling.{writing, leaving, settling}
use Rattle.snap_assert.specs.Unsaved.{unsaved}
use Rattle.snap_assert.specs.declared.error.AssertError.TheVariants as refusal
use Rattle.snap_assert.specs.declared.outcome.Warning.{Warning}
use Rattle.snap_assert.specs.declared.outcome.Warning.TheVariants.{Unreadable}
use Rattle.snap_assert.proofs.Judgements.{with_tree}
use Rattle.snap_assert.proofs.Looking.{judged_allowed}
use Rattle.snap_assert.proofs.Refusals.{one_named}
use Rattle.snap_assert.proofs.Removals.{strays_gone}
use Rattle.snap_assert.proofs.Writing.{approved_saving, pending_saving}

-- removals one by one are changes one by one
pub removals_are : (ps : List (List ℕ)) (m : Files) → all_changed (map removes ps) m ≡ remove_each ps m
removals_are [] m = refl
removals_are (p ∷ ps) m = removals_are ps (remove m p)

-- the same of the files where they are told
pub removed_each : (ps : List (List ℕ)) (files files' : Option Files) → ((m : Files) → files ≡ Some m → files' ≡ Some (remove_each ps m))
    → (m : Files) → files ≡ Some m → files' ≡ Some (all_changed (map removes ps) m)
removed_each ps files files' gone m told = gone m told ∙ ap Some (sym (removals_are ps m))

-- a call on a file tells of its path, or that memory was out
call_names : (p : List ℕ) (error : Error) → IsCallError p error → NamesNext (named_by (unsaved error)) (removes p ∷ [])
call_names p (FileIo named) h = h
call_names p OutOfMemory h = tt
call_names p UnexpectedDataType h = tt
call_names p MissingField h = tt
call_names p JsonKey h = tt
call_names p (FailedParsingYaml named) h = tt
call_names p (FloatText named) h = tt
call_names p (NotText named) h = tt
call_names p (NoFile named) h = tt

-- a removal stopped
pub removal_stopped : (p : List ℕ) (error : Error) (files files' : Option Files) → IsCallError p error → ((m : Files) → files ≡ Some m → MayBeGone p m files')
    → StandsAfter (removes p ∷ []) (named_by (unsaved error)) files files'
removal_stopped p error files files' h gone = in_work (removes p) (named_by (unsaved error)) files files' (call_names p error h) gone

-- removals stopped at a place of their list
pub removals_stopped : (ps : List (List ℕ)) (i : ℕ) (p : List ℕ) (error : Error) (files between files' : Option Files) → i < length ps → p ≡ get_or ps i p
    → ((m : Files) → files ≡ Some m → between ≡ Some (remove_each (take i ps) m)) → IsCallError p error → ((m : Files) → between ≡ Some m → MayBeGone p m files')
    → StandsAfter (map removes ps) (named_by (unsaved error)) files files'
removals_stopped ps i p error files between files' within is gone h may =
    stopped_at ps i p (named_by (unsaved error)) files between files' within is (removed_each (take i ps) files between gone) (removal_stopped p error between files' h may)

-- memory was out when all changes were done
all_done : (cs : List Change) (files files' : Option Files) → ((m : Files) → files ≡ Some m → files' ≡ Some (all_changed cs m)) → StandsAfter cs None files files'
all_done cs files files' done = record { done = cs; rest = []; cut = sym (append-nil cs); names = tt; stands = done }

pub all_removed : (ps : List (List ℕ)) (files files' : Option Files) → ((m : Files) → files ≡ Some m → files' ≡ Some (remove_each ps m)) → StandsAfter (map removes ps) None files files'
all_removed ps files files' gone = all_done (map removes ps) files files' (removed_each ps files files' gone)

-- the path that a save tells of
saved_names : (error : Error) → store.named_by error ≡ named_by (unsaved error)
saved_names (FileIo named) = refl
saved_names OutOfMemory = refl
saved_names UnexpectedDataType = refl
saved_names MissingField = refl
saved_names JsonKey = refl
saved_names (FailedParsingYaml named) = refl
saved_names (FloatText named) = refl
saved_names (NotText named) = refl
saved_names (NoFile named) = refl

pub save_stopped : (cs cs' : List Change) (error : Error) (files files' : Option Files) → cs ≡ cs' → StandsAfter cs (store.named_by error) files files' → StandsAfter cs' (named_by (unsaved error)) files files'
save_stopped cs cs' error files files' is s =
    subst (λ named. StandsAfter cs' named files files') (saved_names error) (subst (λ x. StandsAfter x (store.named_by error) files files') is s)

-- a save stopped in place, or beside it
pub update_stopped : (asked : Asked) (prepared : Prepared) (error : Error) (files files' : Option Files) → IsPrepared asked prepared
    → StandsAfter (saving prepared.path (without_line (meta_in prepared.snapshot)) (contents_in prepared.snapshot)) (store.named_by error) files files'
    → StandsAfter (writing InPlace asked) (named_by (unsaved error)) files files'
update_stopped asked prepared error files files' p s =
    save_stopped (saving prepared.path (without_line (meta_in prepared.snapshot)) (contents_in prepared.snapshot)) (writing InPlace asked) error files files' (approved_saving asked prepared p) s

pub postpone_stopped : (asked : Asked) (prepared : Prepared) (error : Error) (files files' : Option Files) → IsPrepared asked prepared
    → StandsAfter (saving (pending_path prepared.path) (meta_in prepared.snapshot) (contents_in prepared.snapshot)) (store.named_by error) files files'
    → StandsAfter (writing NewFile asked) (named_by (unsaved error)) files files'
postpone_stopped asked prepared error files files' p s =
    save_stopped (saving (pending_path prepared.path) (meta_in prepared.snapshot) (contents_in prepared.snapshot)) (writing NewFile asked) error files files' (pending_saving asked prepared p) s

-- on a pass the pending snapshot is removed first
abbrev forced : Update → Asked → Bool → List Change
forced mode asked force = if force then writing mode asked else []

pub approve_stopped : (mode : Update) (force : Bool) (asked : Asked) (passed : Bool) (prepared : Prepared) (named : Option (List ℕ)) (files files' : Option Files) → passed ≡ true
    → IsPrepared asked prepared → StandsAfter (removes prepared.pending ∷ []) named files files' → StandsAfter (leaving mode force asked passed) named files files'
approve_stopped mode force asked passed prepared named files files' is p s =
    subst (λ b. StandsAfter (leaving mode force asked b) named files files') (sym is)
    (stands_first (removes (pending_path asked.path) ∷ []) (forced mode asked force) named files files' (subst (λ q. StandsAfter (removes q ∷ []) named files files') p.pending s))

pub forced_stopped : (mode : Update) (force : Bool) (asked : Asked) (passed : Bool) (prepared : Prepared) (named : Option (List ℕ)) (files between files' : Option Files) → passed ≡ true
    → force ≡ true → IsPrepared asked prepared → ((m : Files) → files ≡ Some m → between ≡ Some (remove m prepared.pending)) → StandsAfter (writing mode asked) named between files'
    → StandsAfter (leaving mode force asked passed) named files files'
forced_stopped mode force asked passed prepared named files between files' is forces p gone s =
    subst (λ b. StandsAfter (leaving mode force asked b) named files files') (sym is)
    (subst (λ b. StandsAfter (leaving mode b asked true) named files files') (sym forces)
    (stands_later (removes (pending_path asked.path) ∷ []) (writing mode asked) named files between files' (λ m told. gone m told ∙ ap (λ q. Some (remove m q)) p.pending) s))

-- a refusal begins nothing
pub refused_stands : {T : Type 0} → (cs : List Change) (step : Result T AssertError) (error : AssertError) (files : Option Files) → RefusedAs error step → StandsAfter cs (named_by error) files files
refused_stands cs step refusal.OutOfMemory files h = nothing_begun cs files files refl
refused_stands cs step (refusal.FileIo named) files h = absurd h
refused_stands cs step refusal.NameClash files h = nothing_begun cs files files refl
refused_stands cs step refusal.DoctestNeedsName files h = nothing_begun cs files files refl
refused_stands cs step (refusal.DuplicateDiffers key kept new) files h = nothing_begun cs files files refl
refused_stands cs step refusal.NamesExhausted files h = nothing_begun cs files files refl
refused_stands cs step refusal.InlineDuplicate files h = nothing_begun cs files files refl
refused_stands cs step refusal.BadExtension files h = nothing_begun cs files files refl
refused_stands cs step refusal.JsonKey files h = nothing_begun cs files files refl

-- and is no fault
pub refused_looks : {T : Type 0} → (path : List ℕ) (files : Option Files) (step : Result T AssertError) (error : AssertError) → RefusedAs error step → FaultIsLook path files error
refused_looks path files step refusal.OutOfMemory h = tt
refused_looks path files step (refusal.FileIo named) h = absurd h
refused_looks path files step refusal.NameClash h = tt
refused_looks path files step refusal.DoctestNeedsName h = tt
refused_looks path files step (refusal.DuplicateDiffers key kept new) h = tt
refused_looks path files step refusal.NamesExhausted h = tt
refused_looks path files step refusal.InlineDuplicate h = tt
refused_looks path files step refusal.BadExtension h = tt
refused_looks path files step refusal.JsonKey h = tt

-- no pass is no fault
unpassed_looks : (path : List ℕ) (files : Option Files) (warnings : List Warning) (result : Result Judged AssertError) → NoPass warnings result → IfErr result (FaultIsLook path files)
unpassed_looks path files warnings (Ok judged) h = tt
unpassed_looks path files warnings (Err refusal.OutOfMemory) h = tt
unpassed_looks path files warnings (Err (refusal.FileIo named)) h = absurd h
unpassed_looks path files warnings (Err refusal.NameClash) h = tt
unpassed_looks path files warnings (Err refusal.DoctestNeedsName) h = tt
unpassed_looks path files warnings (Err (refusal.DuplicateDiffers key kept new)) h = tt
unpassed_looks path files warnings (Err refusal.NamesExhausted) h = tt
unpassed_looks path files warnings (Err refusal.InlineDuplicate) h = tt
unpassed_looks path files warnings (Err refusal.BadExtension) h = tt
unpassed_looks path files warnings (Err refusal.JsonKey) h = tt

-- a fault in reading the snapshot is one of looking
read_looks : (path : List ℕ) (files : Option Files) (file : Option (List ℕ)) (error : Error) (result : Result Judged AssertError) → ((m : Files) → files ≡ Some m → file ≡ get m path)
    → IsRefused path file error → RefusedEnd error result → IfErr result (FaultIsLook path files)
read_looks path files file (NoFile named) result told h end = unpassed_looks path files [] result end
read_looks path files file (FileIo named) result told (inl at) end = subst (λ r. IfErr {T = Judged} r (FaultIsLook path files)) (sym end) (inl at)
read_looks path files file (FileIo named) result told (inr beside) end =
    subst (λ r. IfErr {T = Judged} r (FaultIsLook path files)) (sym end) (inr (inl (record { file = file; told = told; beside = beside })))
read_looks path files file OutOfMemory result told h end = subst (λ r. IfErr {T = Judged} r (FaultIsLook path files)) (sym end) tt
read_looks path files file (NotText named) result told h end = unpassed_looks path files (Unreadable (NotText named) ∷ []) result end
read_looks path files file (FailedParsingYaml named) result told h end = unpassed_looks path files (Unreadable (FailedParsingYaml named) ∷ []) result end
read_looks path files file UnexpectedDataType result told h end = unpassed_looks path files (Unreadable UnexpectedDataType ∷ []) result end
read_looks path files file MissingField result told h end = unpassed_looks path files (Unreadable MissingField ∷ []) result end
read_looks path files file (FloatText named) result told h end = absurd h
read_looks path files file JsonKey result told h end = absurd h

pub reading_looks : (path : List ℕ) (files : Option Files) (error : Error) (result : Result Judged AssertError) → IsReadFrom path files (Err error) → RefusedEnd error result → IfErr result (FaultIsLook path files)
reading_looks path files error result r end = read_looks path files r.file error result r.told r.comes_to end

-- and so is one in listing the folder
pub folder_looks : (path folder : List ℕ) (files : Option Files) (error : Error) → folder ≡ parent_of path → IsCallError folder error → FaultIsLook path files (unsaved error)
folder_looks path folder files (FileIo named) is h = inr (inr (h ∙ is))
folder_looks path folder files OutOfMemory is h = tt
folder_looks path folder files UnexpectedDataType is h = tt
folder_looks path folder files MissingField is h = tt
folder_looks path folder files JsonKey is h = tt
folder_looks path folder files (FailedParsingYaml named) is h = tt
folder_looks path folder files (FloatText named) is h = tt
folder_looks path folder files (NotText named) is h = tt
folder_looks path folder files (NoFile named) is h = tt

-- the same by another name of the path
pub looks_as : (path path' : List ℕ) (files : Option Files) (error : AssertError) → path ≡ path' → FaultIsLook path files error → FaultIsLook path' files error
looks_as path path' files error is h = subst (λ p. FaultIsLook p files error) is h

-- where files are known they are those that are told
abbrev AreTold : Option Files → Option Files → Type 0
AreTold known files = (m : Files) → known ≡ Some m → files ≡ Some m

looked_known : (path : List ℕ) (known files : Option Files) (named : List ℕ) → AreTold known files → IsLookedAt path files named → IsLookedAt path known named
looked_known path known files named are (inl at) = inl at
looked_known path known files named are (inr (inl b)) = inr (inl (record { file = b.file; told = λ m told. b.told m (are m told); beside = b.beside }))
looked_known path known files named are (inr (inr folder)) = inr (inr folder)

look_known : (path : List ℕ) (known files : Option Files) (error : AssertError) → AreTold known files → FaultIsLook path files error → FaultIsLook path known error
look_known path known files refusal.OutOfMemory are h = tt
look_known path known files (refusal.FileIo named) are h = looked_known path known files named are h
look_known path known files refusal.NameClash are h = tt
look_known path known files refusal.DoctestNeedsName are h = tt
look_known path known files (refusal.DuplicateDiffers key kept new) are h = tt
look_known path known files refusal.NamesExhausted are h = tt
look_known path known files refusal.InlineDuplicate are h = tt
look_known path known files refusal.BadExtension are h = tt
look_known path known files refusal.JsonKey are h = tt

-- looking stopped
pub look_halts : (may : Bool → Files → Type 0) (config : Config) (asked : Asked) (error : AssertError) (known files files' : Option Files) → AreTold known files → files' ≡ files
    → FaultIsLook asked.path files error → HaltsBy may config asked error known files'
look_halts may config asked error known files files' are same h = looking (λ m told. same ∙ are m told) (look_known asked.path known files error are h)

stands_known : (cs : List Change) (named : Option (List ℕ)) (known files files' : Option Files) → AreTold known files → StandsAfter cs named files files' → StandsAfter cs named known files'
stands_known cs named known files files' are s = record { done = s.done; rest = s.rest; cut = s.cut; names = s.names; stands = λ m told. s.stands m (are m told) }

-- the removal of the strays stopped
pub clearing_halts : (may : Bool → Files → Type 0) (config : Config) (asked : Asked) (error : AssertError) (known files between files' : Option Files) (passed : Bool) (strays paths : List (List ℕ))
    → AreTold known files → paths ≡ strays → AllStray asked.path strays → ((m : Files) → known ≡ Some m → MayBeSeen may asked.path passed strays m) → between ≡ files
    → StandsAfter (map removes paths) (named_by error) between files' → HaltsBy may config asked error known files'
clearing_halts may config asked error known files between files' passed strays paths are is all seen same s =
    changing passed strays all seen
    (stands_first (map removes strays) (leaving config.update config.force_update asked passed) (named_by error) known files'
    (stands_known (map removes strays) (named_by error) known between files' (λ m told. same ∙ are m told)
    (subst (λ ps. StandsAfter (map removes ps) (named_by error) between files') is s)))

-- what follows it stopped
pub leaving_halts : (may : Bool → Files → Type 0) (config : Config) (asked : Asked) (error : AssertError) (known files between files' : Option Files) (passed : Bool) (strays : List (List ℕ))
    → AreTold known files → AllStray asked.path strays → ((m : Files) → known ≡ Some m → MayBeSeen may asked.path passed strays m)
    → ((m : Files) → files ≡ Some m → between ≡ Some (all_changed (map removes strays) m))
    → StandsAfter (leaving config.update config.force_update asked passed) (named_by error) between files' → HaltsBy may config asked error known files'
leaving_halts may config asked error known files between files' passed strays are all seen gone s =
    changing passed strays all seen
    (stands_later (map removes strays) (leaving config.update config.force_update asked passed) (named_by error) known between files' (λ m told. gone m (are m told)) s)

-- once the name is taken
pub named_halts : (relation : Relation) (config : Config) (a : Assertion) (error : AssertError) (files files' : Option Files) (s t : SessionView) (name : List ℕ)
    → name_step a.settings a.place a.given s ≡ Ok (record { name = name; session = t }) → HaltsBy (PassesAgainst relation (asked_under a name)) config (asked_under a name) error files files'
    → IsHaltedBy relation config a error files files' s
named_halts relation config a error files files' s t name is h = λ named takes.
    let P : Named → Type 0 = λ n. HaltsBy (PassesAgainst relation (asked_under a n.name)) config (asked_under a n.name) error files files' in
    subst P (one_named (name_step a.settings a.place a.given s) (record { name = name; session = t }) named is takes) h

-- what stands where it passes by one rule stands where it passes by a wider one
halts_wider : (may may' : Bool → Files → Type 0) (config : Config) (asked : Asked) (error : AssertError) (files files' : Option Files) → ((passed : Bool) (m : Files) → may passed m → may' passed m)
    → HaltsBy may config asked error files files' → HaltsBy may' config asked error files files'
halts_wider may may' config asked error files files' wider (looking same h) = looking same h
halts_wider may may' config asked error files files' wider (changing passed strays all seen s) =
    changing passed strays all (λ m told. record { passes = wider passed m (seen m told).passes; left = (seen m told).left }) s

-- by the default comparator
default_halts : (config : Config) (asked : Asked) (w : Blocks) (tree : Plain) (error : AssertError) (files files' : Option Files) → is_trimmed w ≡ true → asked.meta.kind ≡ kind.Text
    → HaltsBy (PassesAgainst (default_relation config.require_full_match) (with_tree asked w tree)) config (with_tree asked w tree) error files files'
    → HaltsBy (PassesAsAllowed config (with_tree asked w tree)) config (with_tree asked w tree) error files files'
default_halts config asked w tree error files files' trimmed text h =
    halts_wider (PassesAgainst (default_relation config.require_full_match) (with_tree asked w tree)) (PassesAsAllowed config (with_tree asked w tree)) config (with_tree asked w tree) error files files'
    (λ passed m by. judged_allowed config.require_full_match asked w tree m passed by.0 trimmed text by.1) h

pub default_halted : (config : Config) (w : Blocks) (settings : SettingsView) (place : PlaceView) (given : Option (List ℕ)) (printed : Tree) (error : AssertError) (files files' : Option Files) (session : SessionView)
    → is_trimmed w ≡ true → IsHaltedBy (default_relation config.require_full_match) config (assertion_of w settings place given printed) error files files' session
    → IsHalted config (assertion_of w settings place given printed) error files files' session
default_halted config w settings place given printed error files files' session trimmed h = λ named takes.
    default_halts config (asked_under (assertion_of w settings place given printed) named.name) w (plain printed) error files files' trimmed refl (h named takes)

-- all changes of an assertion come to its step
writing_is : (mode : Update) (asked : Asked) (m : Files) → all_changed (writing mode asked) m ≡ written mode asked m
writing_is InPlace asked m = refl
writing_is NewFile asked m = refl
writing_is NoUpdate asked m = refl

leaving_is : (mode : Update) (force : Bool) (asked : Asked) (passed : Bool) (m : Files) → all_changed (leaving mode force asked passed) (cleared asked.path m) ≡ step mode force asked passed m
leaving_is mode true asked true m = writing_is mode asked (remove (cleared asked.path m) (pending_path asked.path))
leaving_is mode false asked true m = refl
leaving_is mode force asked false m = writing_is mode asked (cleared asked.path m)

-- changes in two parts
pub changes_in_turn : (a b : List Change) (m : Files) → all_changed (a ++ b) m ≡ all_changed b (all_changed a m)
changes_in_turn [] b m = refl
changes_in_turn (c ∷ a) b m = changes_in_turn a b (changed c m)

pub settling_is : (mode : Update) (force : Bool) (asked : Asked) (passed : Bool) (strays : List (List ℕ)) (m : Files) → AreStrays asked.path m strays
    → all_changed (settling mode force asked passed strays) m ≡ step mode force asked passed m
settling_is mode force asked passed strays m s =
    changes_in_turn (map removes strays) (leaving mode force asked passed) m
    ∙ ap (all_changed (leaving mode force asked passed)) (removals_are strays m ∙ strays_gone asked.path m strays s)
    ∙ leaving_is mode force asked passed m

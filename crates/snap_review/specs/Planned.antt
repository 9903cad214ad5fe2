-- What a request is to change and to answer, by the files that it finds.
use Rattle.std.specs.Prelude.{◌≡◌, ◌⊎◌, ◌++◌, ℕ, List, [], ◌∷◌, Option, None, Some, Result, Ok, Err, codes, encode_utf8_all, map}
use Rattle.std.specs.FinMap.{get}
use Rattle.std.specs.Fmt.{decimal}
use Rattle.std.specs.List.{flat_map}
use Rattle.snap_content.specs.declared.error.Error.{Error}
use Rattle.snap_content.specs.declared.error.Error.TheVariants as e
use Rattle.snap_io.specs.Changes.{Change, writes, removes}
use Rattle.snap_io.specs.Files.{Files}
use Rattle.snap_pending.specs.Loaded.{IsBatch, LoadRefused}
use Rattle.snap_pending.specs.Pending.{Pending}
use Rattle.snap_store.specs.Meta.{without_line}
use Rattle.snap_store.specs.Reading.{IsTextFile, IsNoText}
use Rattle.snap_store.specs.Saving.{saving}
use Rattle.snap_store.specs.Views.{meta_in, contents_in}
use Rattle.snap_review.specs.Chosen.{chosen}
use Rattle.snap_review.specs.Patched.{IsPatched, IsRefused, RefusedFrom}
use Rattle.snap_review.specs.declared.patching.NewLiteral.{NewLiteral}
use Rattle.snap_review.specs.declared.patching.Refusal as refusal
use Rattle.snap_review.specs.declared.patching.Refusal.TheVariants as r
use Rattle.snap_review.specs.declared.plan.Plan.{Plan}
use Rattle.snap_review.specs.declared.plan.Put.{Put}
use Rattle.snap_review.specs.declared.plan.Put.TheVariants.{Nothing, Source, Snapshot}
use Rattle.snap_review.specs.declared.status.ReviewStatus.{ReviewStatus}
use Rattle.snap_review.specs.declared.status.ReviewStatus.TheVariants.{Done, BadWords, NoPending, Unreadable, FileIo, NoSource, WriteFault, OutOfMemory, NotStable, NoLiteral, Stale, SameLiteral}
use Rattle.snap_review.specs.declared.words.Command.{Command}
use Rattle.snap_review.specs.declared.words.Command.TheVariants.{Accept, Reject}
use Rattle.snap_review.specs.declared.words.Request.{Request}

-- the file of the records and the source, each where it is there
pub record Found : Type 0 where
  pub waiting : Option (List ℕ)
  pub source : Option (List ℕ)

-- these are the files at the paths of the request
pub record AreFound (request : Request) (found : Found) (files : Option Files) : Type 0 where
  pub waiting_is : (m : Files) → files ≡ Some m → found.waiting ≡ get m request.waiting
  pub source_is : (m : Files) → files ≡ Some m → found.source ≡ get m request.path

-- a line of an answer: the word, a blank, the number of the line
abbrev pub answer_line : List ℕ → ℕ → List ℕ
answer_line word line = word ++ (32 ∷ (decimal line ++ 10 ∷ []))

abbrev pub answer_lines : List ℕ → List NewLiteral → List ℕ
answer_lines word changes = flat_map (λ (c : NewLiteral). answer_line word c.line) changes

-- the file of the records tells these, and that is what they ask for
pub record Asks (waiting : Option (List ℕ)) (changes : List NewLiteral) : Type 0 where
  pub records : List Pending
  pub batch : IsBatch waiting records
  pub chosen_are : changes ≡ chosen records

-- the source with new literals; where none is asked for, it is not to be written
abbrev pub IsMadeOf : List ℕ → List NewLiteral → Put → Type 0
IsMadeOf text [] put = put ≡ Nothing
IsMadeOf text (c ∷ cs) put = (all : List ℕ) × (put ≡ Source all) × IsPatched text text (c ∷ cs) all

-- what the plan puts, removes and answers
pub record IsPlanWith (put : Put) (removals : List (List ℕ)) (lines : List ℕ) (plan : Plan) : Type 0 where
  pub put_is : plan.put ≡ put
  pub removals_are : plan.removals.items ≡ removals
  pub lines_are : plan.lines ≡ lines

-- a source is patched by what is asked for, the file of the records goes, and that is answered
pub record IsAcceptance (request : Request) (found : Found) (plan : Plan) : Type 0 where
  pub changes : List NewLiteral
  pub asked : Asks found.waiting changes
  pub text : List ℕ
  pub source_is : IsTextFile found.source text
  pub put : Put
  pub made_is : IsMadeOf text changes put
  pub plan_is : IsPlanWith put (request.waiting ∷ []) (answer_lines (codes "accepted") changes) plan

-- the source stays, the file of the records goes, and what was asked for is answered
pub record IsRejection (request : Request) (found : Found) (plan : Plan) : Type 0 where
  pub changes : List NewLiteral
  pub asked : Asks found.waiting changes
  pub plan_is : IsPlanWith Nothing (request.waiting ∷ []) (answer_lines (codes "rejected") changes) plan

abbrev pub IsPlannedBy : Command → Request → Found → Plan → Type 0
IsPlannedBy Accept request found plan = IsAcceptance request found plan
IsPlannedBy Reject request found plan = IsRejection request found plan

-- the plan is that of the request
abbrev pub IsPlanned : Request → Found → Plan → Type 0
IsPlanned request found plan = IsPlannedBy request.command request found plan

-- what is written at the path of the request: a snapshot, with its payload beside it, without the line of its assertion
abbrev pub written : Request → Put → List Change
written request Nothing = []
written request (Snapshot held) = saving request.path (without_line (meta_in held)) (contents_in held)
written request (Source made) = writes request.path (encode_utf8_all made) ∷ []

-- what a plan changes: first what it puts, and then what it removes
abbrev pub changes_of : Request → Plan → List Change
changes_of request plan = written request plan.put ++ map removes plan.removals.items

-- the bytes of a file of records give this error its cause
abbrev pub IsUnread : List ℕ → Option (List ℕ) → Error → Type 0
IsUnread path waiting (e.FileIo named) = ⊥
IsUnread path waiting (e.NoFile named) = ⊥
IsUnread path waiting e.OutOfMemory = ⊥
IsUnread path waiting error = LoadRefused path waiting error

-- the source is missing, or is no text
abbrev pub HasNoSource : Option (List ℕ) → Type 0
HasNoSource source = (source ≡ None) ⊎ IsNoText source

-- there is something to accept, and the source is a text that refuses it
pub record IsUnpatched (found : Found) (refusal : refusal.Refusal) : Type 0 where
  pub changes : List NewLiteral
  pub asked : Asks found.waiting changes
  pub text : List ℕ
  pub source_is : IsTextFile found.source text
  pub refused : IsRefused text text changes refusal

-- why an acceptance is not planned, besides what hinders each plan
abbrev pub IsRefusedBy : Command → Found → refusal.Refusal → Type 0
IsRefusedBy Accept found refusal = IsUnpatched found refusal
IsRefusedBy Reject found refusal = ⊥

abbrev pub LacksSource : Command → Found → Type 0
LacksSource Accept found = ((changes : List NewLiteral) × Asks found.waiting changes) × HasNoSource found.source
LacksSource Reject found = ⊥

-- a call that reads one of the two files failed
abbrev pub IsRead : Command → Request → List ℕ → Type 0
IsRead Accept request named = (named ≡ request.waiting) ⊎ (named ≡ request.path)
IsRead Reject request named = named ≡ request.waiting

-- why there is no plan
abbrev pub HasNoPlan : Command → Request → Found → ReviewStatus → Type 0
HasNoPlan command request found Done = ⊥
HasNoPlan command request found BadWords = ⊥
HasNoPlan command request found WriteFault = ⊥
HasNoPlan command request found NoPending = found.waiting ≡ None
HasNoPlan command request found (Unreadable error) = IsUnread request.waiting found.waiting error
HasNoPlan command request found (FileIo named) = IsRead command request named
HasNoPlan command request found NoSource = LacksSource command found
HasNoPlan command request found OutOfMemory = Unit {0}
HasNoPlan command request found (NotStable line) = IsRefusedBy command found (r.NotStable line)
HasNoPlan command request found (NoLiteral line) = IsRefusedBy command found (r.NoLiteral line)
HasNoPlan command request found (Stale line) = IsRefusedBy command found (r.Stale line)
HasNoPlan command request found (SameLiteral line) = IsRefusedBy command found (r.SameLiteral line)

-- what patching comes to: nothing is to be written where nothing is asked for
abbrev pub MadeEnd : List ℕ → List NewLiteral → Result Put refusal.Refusal → Type 0
MadeEnd text changes (Ok put) = IsMadeOf text changes put
MadeEnd text changes (Err refusal) = RefusedFrom text text changes refusal

-- the plan by which these changes to a text are accepted
pub record IsAccepted (waiting text : List ℕ) (changes : List NewLiteral) (plan : Plan) : Type 0 where
  pub put : Put
  pub made_is : IsMadeOf text changes put
  pub plan_is : IsPlanWith put (waiting ∷ []) (answer_lines (codes "accepted") changes) plan

-- the changes are refused by the text
abbrev pub IsUnaccepted : List ℕ → List NewLiteral → ReviewStatus → Type 0
IsUnaccepted text changes (NotStable line) = IsRefused text text changes (r.NotStable line)
IsUnaccepted text changes (NoLiteral line) = IsRefused text text changes (r.NoLiteral line)
IsUnaccepted text changes (Stale line) = IsRefused text text changes (r.Stale line)
IsUnaccepted text changes (SameLiteral line) = IsRefused text text changes (r.SameLiteral line)
IsUnaccepted text changes OutOfMemory = Unit {0}
IsUnaccepted text changes other = ⊥

abbrev pub AcceptEnd : List ℕ → List ℕ → List NewLiteral → Result Plan ReviewStatus → Type 0
AcceptEnd waiting text changes (Ok plan) = IsAccepted waiting text changes plan
AcceptEnd waiting text changes (Err status) = IsUnaccepted text changes status

-- the plan by which these changes are rejected, where memory is not out
abbrev pub RejectEnd : List ℕ → List NewLiteral → Result Plan ReviewStatus → Type 0
RejectEnd waiting changes (Ok plan) = IsPlanWith Nothing (waiting ∷ []) (answer_lines (codes "rejected") changes) plan
RejectEnd waiting changes (Err status) = status ≡ OutOfMemory

-- a plan by a command was made of what was found, or there is none
abbrev pub PlanEnd : Command → Request → Found → Result Plan ReviewStatus → Type 0
PlanEnd command request found (Ok plan) = IsPlannedBy command request found plan
PlanEnd command request found (Err status) = HasNoPlan command request found status

-- the same, of what was found in these files
pub record IsPlanBy (command : Command) (request : Request) (files : Option Files) (result : Result Plan ReviewStatus) : Type 0 where
  pub found : Found
  pub told : AreFound request found files
  pub comes_to : PlanEnd command request found result

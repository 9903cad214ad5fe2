-- What is said of lines, and what a whole run leaves.
use Rattle.std.specs.Prelude.{◌≡◌, ◌⊎◌, ◌<◌, ◌≤◌, ℕ, suc, Bool, true, false, List, [], ◌∷◌, ◌++◌, length, Option, Some, Result, Ok, Err}
use Rattle.snap_str.specs.Cut.{Lacks}
use Rattle.snap_str.specs.Lines.{lines}
use Rattle.snap_io.specs.Streams.{HoldsFront}
use Rattle.snap_io_lines.specs.Ahead.{line_limit}
use Rattle.snap_assert_settings.specs.Replaced.{ReplacementView}
use Rattle.snap_mask.specs.Masked.{AreShort, Gave, LengthIs}
use Rattle.snap_explain.specs.Reasons.{HasRecord, IsFaultOf}
use Rattle.snap_explain.specs.Words.{finding_text}
use Rattle.snap_explain.specs.declared.fault.LineFault.{LineFault}
use Rattle.snap_explain.specs.declared.fault.LineFault.TheVariants.{TooLong}
use Rattle.snap_explain.specs.declared.saying.SayError.{SayError}
use Rattle.snap_explain.specs.declared.saying.SayError.TheVariants as say
use Rattle.snap_explain.specs.declared.status.ExplainStatus.{ExplainStatus}
use Rattle.snap_explain.specs.declared.status.ExplainStatus.TheVariants as status

-- what is said of a line with its number: nothing where it is empty or has a record, and else a finding that tells why it has none
pub data SaysOf (rules : List ReplacementView) (number : ℕ) (line said : List ℕ) : Type 0 where
  of_nothing : line ≡ [] → said ≡ [] → SaysOf rules number line said
  of_record : HasRecord rules line → said ≡ [] → SaysOf rules number line said
  of_fault : (line ≡ [] → ⊥) → (what : LineFault) → IsFaultOf rules line what → said ≡ finding_text number what → SaysOf rules number line said

-- what is said of lines, of each in turn, the first of which has the number 1
pub data Says : List ReplacementView → List (List ℕ) → List ℕ → Type 0 where
  at_start : (rules : List ReplacementView) (all : List (List ℕ)) (out : List ℕ) → all ≡ [] → out ≡ [] → Says rules all out
  at_line : (rules : List ReplacementView) (all before : List (List ℕ)) (line out told said : List ℕ) → Says rules before told
      → SaysOf rules (suc (length before)) line said → all ≡ before ++ line ∷ [] → out ≡ told ++ said → Says rules all out

-- whether something was said
abbrev pub is_filled : List ℕ → Bool
is_filled [] = false
is_filled (c ∷ cs) = true

-- a text was written after w, or a part of its front where the sink failed, or nothing
abbrev pub Writes : {T : Type 0} → List ℕ → List ℕ → Option (List ℕ) → Result T SayError → Type 0
Writes text w now (Ok done) = now ≡ Some (w ++ text)
Writes text w now (Err say.WriteFault) = HoldsFront text w now
Writes text w now (Err say.OutOfMemory) = now ≡ Some w

-- what is said of a line was written after w, and it is told whether that is something; or a part of it, or nothing
abbrev pub LineEnds : List ReplacementView → ℕ → List ℕ → List ℕ → Option (List ℕ) → Result Bool SayError → Type 0
LineEnds rules number line w now (Ok found) = (said : List ℕ) × SaysOf rules number line said × (now ≡ Some (w ++ said)) × (found ≡ is_filled said)
LineEnds rules number line w now (Err say.WriteFault) = (said : List ℕ) × SaysOf rules number line said × HoldsFront said w now
LineEnds rules number line w now (Err say.OutOfMemory) = now ≡ Some w

-- an error that tells that the sink failed
abbrev pub is_write_fault : SayError → Bool
is_write_fault say.WriteFault = true
is_write_fault say.OutOfMemory = false

-- what is said of these lines was written after w
pub record IsSaid (rules : List ReplacementView) (all : List (List ℕ)) (w : List ℕ) (now : Option (List ℕ)) (found : Bool) : Type 0 where
  pub out : List ℕ
  pub says : Says rules all out
  pub told : now ≡ Some (w ++ out)
  pub found_is : found ≡ is_filled out

-- the whole input is lines that are not too long, and what is said of them was written
pub record SaidAll (rules : List ReplacementView) (input w : List ℕ) (now : Option (List ℕ)) (found : Bool) : Type 0 where
  pub past : List ℕ
  pub last : List ℕ
  pub is : input ≡ past ++ last
  pub short : AreShort past
  pub unbroken : Lacks 10 last
  pub last_short : length last ≤ line_limit
  pub said : IsSaid rules (lines input) w now found

-- after whole lines at the front of the input comes one that is too long
pub record IsLongAfter (past input : List ℕ) : Type 0 where
  pub front : List ℕ
  pub rest : List ℕ
  pub short : AreShort past
  pub is : input ≡ past ++ (front ++ rest)
  pub unbroken : Lacks 10 front
  pub long : line_limit < length front

-- what is said of the lines before one that is too long was written, and that it is too long, or a part of that
pub record SaidLong (Written : List ℕ → Type 0) (rules : List ReplacementView) (input : List ℕ) : Type 0 where
  pub past : List ℕ
  pub out : List ℕ
  pub long : IsLongAfter past input
  pub says : Says rules (lines past) out
  pub written : Written (out ++ finding_text (suc (length (lines past))) TooLong)

-- a front of what is said of lines at the front of the input was written
pub record SaidWithin (rules : List ReplacementView) (input w : List ℕ) (now : Option (List ℕ)) : Type 0 where
  pub past : List ℕ
  pub rest : List ℕ
  pub out : List ℕ
  pub is : input ≡ past ++ rest
  pub whole : AreShort past ⊎ (rest ≡ [])
  pub says : Says rules (lines past) out
  pub part : HoldsFront out w now

-- the same, or of the line after them, that it is too long
abbrev pub Stops : List ReplacementView → List ℕ → List ℕ → Option (List ℕ) → Type 0
Stops rules input w now = SaidWithin rules input w now ⊎ SaidLong (λ text. HoldsFront text w now) rules input

-- what a run over the input leaves after w
abbrev pub Leaves : List ReplacementView → ExplainStatus → List ℕ → List ℕ → Option (List ℕ) → Type 0
Leaves rules status.Nothing input w now = SaidAll rules input w now false
Leaves rules status.Found input w now = SaidAll rules input w now true ⊎ SaidLong (λ text. now ≡ Some (w ++ text)) rules input
Leaves rules status.BadWords input w now = ⊥
Leaves rules status.FileFault input w now = ⊥
Leaves rules status.ReadFault input w now = Stops rules input w now
Leaves rules status.WriteFault input w now = Stops rules input w now
Leaves rules status.OutOfMemory input w now = Stops rules input w now
Leaves rules status.InputTooLong input w now = Stops rules input w now
Leaves rules status.StreamTooLong input w now = ⊥

-- the same of a source and a sink, where both tell what they hold
abbrev pub LeavesOf : List ReplacementView → ExplainStatus → Option (List ℕ) → Option (List ℕ) → Option (List ℕ) → Type 0
LeavesOf rules status left before now = (input w : List ℕ) → left ≡ Some input → before ≡ Some w → Leaves rules status input w now

abbrev pub is_input_too_long : ExplainStatus → Bool
is_input_too_long status.InputTooLong = true
is_input_too_long _ = false

-- the input is too long exactly where the source gave more than the limit, and then it gave one byte more
abbrev pub LengthCause : ExplainStatus → Option (List ℕ) → Option (List ℕ) → Type 0
LengthCause status left left' = (input : List ℕ) → left ≡ Some input → (count : ℕ) × Gave count input left' × LengthIs (is_input_too_long status) count

-- a status that tells that the source failed
abbrev pub says_read_fault : ExplainStatus → Bool
says_read_fault status.ReadFault = true
says_read_fault _ = false

-- a status that tells that the sink failed
abbrev pub says_write_fault : ExplainStatus → Bool
says_write_fault status.WriteFault = true
says_write_fault _ = false

-- a status that tells that the store failed
abbrev pub says_file_fault : ExplainStatus → Bool
says_file_fault status.FileFault = true
says_file_fault _ = false

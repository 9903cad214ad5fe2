-- The records of lines, and what a whole run leaves.
use Rattle.std.specs.Prelude.{◌≡◌, ◌⊎◌, ◌+◌, ◌<◌, ◌≤◌, ℕ, suc, Bool, true, false, List, [], ◌∷◌, ◌++◌, length, Option, Some, encode_utf8_all}
use Rattle.snap_str.specs.Lines.{lines}
use Rattle.snap_str.specs.Cut.{Lacks}
use Rattle.snap_io.specs.Streams.{GivesFront, HoldsFront}
use Rattle.snap_io_lines.specs.Ahead.{line_limit, input_limit}
use Rattle.snap_assert_settings.specs.Replaced.{ReplacementView}
use Rattle.snap_mask.specs.Records.{IsRecordOf, RefusesFor}
use Rattle.snap_mask.specs.declared.record.RecordError.{RecordError}
use Rattle.snap_mask.specs.declared.record.RecordError.TheVariants as error
use Rattle.snap_mask.specs.declared.status.MaskStatus.{MaskStatus}
use Rattle.snap_mask.specs.declared.status.MaskStatus.TheVariants.{Done, BadWords, BadLine, FloatLine, LineTooLong, ReadFault, WriteFault, OutOfMemory, JsonKey, InputTooLong}

-- the record of each line that isn't empty, each with a line's end, as UTF-8
abbrev pub Masks : List ReplacementView → List (List ℕ) → List ℕ → Type 0
Masks rules [] out = out ≡ []
Masks rules ([] ∷ lines) out = Masks rules lines out
Masks rules ((c ∷ cs) ∷ lines) out =
    (given later : List ℕ) × IsRecordOf rules (c ∷ cs) given × (out ≡ encode_utf8_all (given ++ 10 ∷ []) ++ later) × Masks rules lines later

-- whole lines, none of which is longer than a line may be
pub data AreShort : List ℕ → Type 0 where
  at_start : (text : List ℕ) → text ≡ [] → AreShort text
  at_end : (text past line : List ℕ) → AreShort past → Lacks 10 line → length line ≤ line_limit → text ≡ past ++ line ++ 10 ∷ [] → AreShort text

-- of these lines the records were written after w
pub record IsWritten (rules : List ReplacementView) (lines_read : List (List ℕ)) (w : List ℕ) (now : Option (List ℕ)) : Type 0 where
  pub out : List ℕ
  pub masks : Masks rules lines_read out
  pub told : now ≡ Some (w ++ out)

-- a front of these records was written after w
pub record IsBegun (rules : List ReplacementView) (lines_read : List (List ℕ)) (w : List ℕ) (now : Option (List ℕ)) : Type 0 where
  pub out : List ℕ
  pub masks : Masks rules lines_read out
  pub part : HoldsFront out w now

-- the whole input is lines that are not too long, and their records were written
pub record IsDone (rules : List ReplacementView) (input w : List ℕ) (now : Option (List ℕ)) : Type 0 where
  pub past : List ℕ
  pub last : List ℕ
  pub is : input ≡ past ++ last
  pub short : AreShort past
  pub unbroken : Lacks 10 last
  pub last_short : length last ≤ line_limit
  pub written : IsWritten rules (lines input) w now

-- of lines at the front of the input a front of the records was written
pub record StopsWithin (rules : List ReplacementView) (input w : List ℕ) (now : Option (List ℕ)) : Type 0 where
  pub past : List ℕ
  pub rest : List ℕ
  pub is : input ≡ past ++ rest
  pub whole : AreShort past ⊎ (rest ≡ [])
  pub begun : IsBegun rules (lines past) w now

-- the line of that number is refused, though it is not too long; the records of the lines before it were written
pub record StopsAt (rules : List ReplacementView) (why : RecordError) (number : ℕ) (input w : List ℕ) (now : Option (List ℕ)) : Type 0 where
  pub past : List ℕ
  pub line : List ℕ
  pub later : List (List ℕ)
  pub short : AreShort past
  pub are : lines input ≡ lines past ++ line ∷ later
  pub number_is : number ≡ suc (length (lines past))
  pub filled : line ≡ [] → ⊥
  pub line_short : length line ≤ line_limit
  pub refused : RefusesFor rules why line
  pub written : IsWritten rules (lines past) w now

-- the line of that number is too long; the records of the lines before it were written
pub record IsTooLong (rules : List ReplacementView) (number : ℕ) (input w : List ℕ) (now : Option (List ℕ)) : Type 0 where
  pub past : List ℕ
  pub front : List ℕ
  pub rest : List ℕ
  pub short : AreShort past
  pub is : input ≡ past ++ (front ++ rest)
  pub unbroken : Lacks 10 front
  pub long : line_limit < length front
  pub number_is : number ≡ suc (length (lines past))
  pub written : IsWritten rules (lines past) w now

-- what a run over the input leaves after w
abbrev pub Leaves : List ReplacementView → MaskStatus → List ℕ → List ℕ → Option (List ℕ) → Type 0
Leaves rules Done input w now = IsDone rules input w now
Leaves rules BadWords input w now = ⊥
Leaves rules (BadLine number) input w now = StopsAt rules error.BadLine number input w now
Leaves rules (FloatLine number) input w now = StopsAt rules error.FloatLine number input w now
Leaves rules (LineTooLong number) input w now = IsTooLong rules number input w now
Leaves rules ReadFault input w now = StopsWithin rules input w now
Leaves rules WriteFault input w now = StopsWithin rules input w now
Leaves rules OutOfMemory input w now = StopsWithin rules input w now
Leaves rules (JsonKey number) input w now = StopsAt rules error.JsonKey number input w now
Leaves rules InputTooLong input w now = StopsWithin rules input w now

-- the same of a source and a sink, where both tell what they hold
abbrev pub LeavesOf : List ReplacementView → MaskStatus → Option (List ℕ) → Option (List ℕ) → Option (List ℕ) → Type 0
LeavesOf rules status left before now = (input w : List ℕ) → left ≡ Some input → before ≡ Some w → Leaves rules status input w now

-- so many bytes were given by the source
pub record Gave (count : ℕ) (input : List ℕ) (left : Option (List ℕ)) : Type 0 where
  pub front : List ℕ
  pub given : GivesFront input front left
  pub size : length front ≡ count

abbrev pub is_input_too_long : MaskStatus → Bool
is_input_too_long InputTooLong = true
is_input_too_long _ = false

abbrev pub LengthIs : Bool → ℕ → Type 0
LengthIs true count = count ≡ input_limit + 1
LengthIs false count = count ≤ input_limit

-- the input is too long exactly where the source gave more than the limit, and then it gave one byte more
abbrev pub LengthCause : MaskStatus → Option (List ℕ) → Option (List ℕ) → Type 0
LengthCause status left left' = (input : List ℕ) → left ≡ Some input → (count : ℕ) × Gave count input left' × LengthIs (is_input_too_long status) count

-- at the end all was read
abbrev pub ReadCause : MaskStatus → Option (List ℕ) → Option (List ℕ) → Type 0
ReadCause Done left left' = (input : List ℕ) → left ≡ Some input → left' ≡ Some []
ReadCause status left left' = Unit {0}

-- a status that tells that the source failed
abbrev pub says_read_fault : MaskStatus → Bool
says_read_fault ReadFault = true
says_read_fault _ = false

-- a status that tells that the sink failed
abbrev pub says_write_fault : MaskStatus → Bool
says_write_fault WriteFault = true
says_write_fault _ = false

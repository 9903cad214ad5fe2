-- Why a line has no record.
use Rattle.std.specs.Prelude.{◌≡◌, ℕ, List, length, None}
use Rattle.std.specs.Str.{IsUtf8, IsValidUpTo, chars}
use Rattle.snap_str.specs.Cut.{IsCutAtFirst}
use Rattle.snap_parse_events.specs.Nodes.{Node}
use Rattle.snap_parse.specs.TextNodes.{AreNodesOf}
use Rattle.snap_emit.specs.Readings.{IsReasonIn, IsReasonOf}
use Rattle.snap_emit.specs.declared.refusal.Refusal.{Refusal}
use Rattle.snap_assert_settings.specs.Replaced.{ReplacementView}
use Rattle.snap_mask.specs.Beginning.{beginning_in}
use Rattle.snap_mask.specs.Records.{IsRecordOf, RefusesFor}
use Rattle.snap_mask.specs.declared.record.RecordError.TheVariants as refused
use Rattle.snap_explain.specs.Starts.{blanks, after_blanks, start_of}
use Rattle.snap_explain.specs.Words.{fault_of}
use Rattle.snap_explain.specs.declared.fault.LineFault.{LineFault}
use Rattle.snap_explain.specs.declared.fault.LineFault.TheVariants as fault
use Rattle.snap_explain.specs.declared.fault.NumberPlace.{NumberPlace}

-- the filter's reader gives the line a record
pub record HasRecord (rules : List ReplacementView) (line : List ℕ) : Type 0 where
  pub given : List ℕ
  pub is : IsRecordOf rules line given

-- the fault of a line that is no JSON text is one that can be seen in it: a byte that is not of UTF-8, NUL, what it begins with, a reason
-- why it is read as no tree; or it is read as another kind of value than it begins as
pub data IsShown (line : List ℕ) (what : LineFault) : Type 0 where
  no_utf8 : (place : ℕ) → what ≡ fault.NotUtf8 place → (IsUtf8 line → ⊥) → IsValidUpTo line place → IsShown line what
  nul : (before behind : List ℕ) → what ≡ fault.Nul (length before) → IsCutAtFirst 0 (chars line) before behind → IsShown line what
  starts : what ≡ fault.Start (length (blanks (chars line))) (start_of (after_blanks (chars line))) → beginning_in (chars line) ≡ None → IsShown line what
  unread : (why : Refusal) → what ≡ fault_of why → IsReasonIn (chars line) why
      → ((nodes : List Node) → AreNodesOf (chars line) nodes → IsReasonOf nodes why) → IsShown line what
  misfit : what ≡ fault.Misfit → IsShown line what

-- why the filter's reader gives the line no record: it refuses the line, for the reason that the fault is one of
pub data IsFaultOf (rules : List ReplacementView) (line : List ℕ) (what : LineFault) : Type 0 where
  bad : RefusesFor rules refused.BadLine line → IsShown line what → IsFaultOf rules line what
  number : (place : NumberPlace) → what ≡ fault.Number place → RefusesFor rules refused.FloatLine line → IsFaultOf rules line what
  key : what ≡ fault.Key → RefusesFor rules refused.JsonKey line → IsFaultOf rules line what

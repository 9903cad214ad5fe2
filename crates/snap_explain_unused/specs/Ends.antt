-- What is to be written, and how a run ends.
use Rattle.std.specs.Prelude.{◌≡◌, ◌++◌, ℕ, true, false, List, Option, Some, encode_utf8_all}
use Rattle.std.specs.List.{flat_map}
use Rattle.snap_io.specs.Files.{Files}
use Rattle.snap_io.specs.Streams.{HoldsFront}
use Rattle.snap_run.specs.Answers.{RunWords}
use Rattle.snap_explain_unused.specs.Lines.{line_of, is_filled}
use Rattle.snap_explain_unused.specs.Runs.{AreNamed, Finds}
use Rattle.snap_explain_unused.specs.declared.asking.Stop.{Stop}
use Rattle.snap_explain_unused.specs.declared.asking.Stop.TheVariants as stop
use Rattle.snap_explain_unused.specs.declared.naming.Findings.{Findings}
use Rattle.snap_explain_unused.specs.declared.status.UnusedStatus.{UnusedStatus}
use Rattle.snap_explain_unused.specs.declared.status.UnusedStatus.TheVariants as status

-- these paths are to be written
pub record Tells (findings : Findings) (paths : List (List ℕ)) : Type 0 where
  pub text : findings.text ≡ flat_map line_of paths
  pub filled : findings.is_filled ≡ is_filled paths

-- the lines of what is unused beside these paths
pub record FindsLines (asked : List (List ℕ)) (files : Option Files) (findings : Findings) : Type 0 where
  pub paths : List (List ℕ)
  pub named : AreNamed asked files paths
  pub tells : Tells findings paths

-- the lines of what is unused
abbrev pub FindsText : RunWords → Option Files → List ℕ → Findings → Type 0
FindsText words files input findings = Finds words files input (λ paths. Tells findings paths)

-- what was found is written
abbrev pub SaysOf : Findings → UnusedStatus → List ℕ → Option (List ℕ) → Type 0
SaysOf findings status.Nothing w now = (findings.is_filled ≡ false) × (now ≡ Some w)
SaysOf findings status.Found w now = (findings.is_filled ≡ true) × (now ≡ Some (w ++ encode_utf8_all findings.text))
SaysOf findings status.WriteFault w now = HoldsFront (encode_utf8_all findings.text) w now
SaysOf findings _ w now = ⊥

-- how a run ends whose work stopped so
abbrev pub stopped : Stop → UnusedStatus
stopped stop.Refused = status.Refused
stopped stop.FileFault = status.FileFault
stopped stop.OutOfMemory = status.OutOfMemory

-- a run ends so only once its input was read
abbrev pub IsAfterReading : UnusedStatus → Type 0
IsAfterReading status.ReadFault = ⊥
IsAfterReading status.StreamTooLong = ⊥
IsAfterReading _ = Unit {0}

-- a run that found what there is ends so
abbrev pub IsSaying : UnusedStatus → Type 0
IsSaying status.Nothing = Unit {0}
IsSaying status.Found = Unit {0}
IsSaying status.WriteFault = Unit {0}
IsSaying _ = ⊥

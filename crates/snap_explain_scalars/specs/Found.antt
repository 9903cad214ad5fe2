-- The first scalar of a document that others take otherwise.
use Rattle.std.specs.Prelude.{◌≡◌, ℕ, List, [], ◌∷◌, Option, None, Some}
use Rattle.std.specs.Option.{option_or}
use Rattle.snap_scan_tokens.specs.Place.{before_nul}
use Rattle.snap_scan_tokens.specs.declared.tag.Tag.{Tag}
use Rattle.snap_scan_tokens.specs.declared.token.TScalarStyle.{TScalarStyle}
use Rattle.snap_scan_tokens.specs.declared.token.TScalarStyle.TheVariants as style
use Rattle.snap_parse_events.specs.Parsing.{Parsing, start_parsing}
use Rattle.snap_parse_events.specs.Runs.{Run}
use Rattle.snap_parse_events.specs.declared.event.Event.{Event}
use Rattle.snap_parse_events.specs.declared.event.Event.TheVariants as e
use Rattle.snap_explain_scalars.specs.Elsewhere.{read_elsewhere}
use Rattle.snap_explain_scalars.specs.declared.finding.Found.{Found}
use Rattle.snap_explain_scalars.specs.declared.otherwise.Otherwise.{Otherwise}

-- a scalar, and how others take it
pub record Told : Type 0 where
  pub text : List ℕ
  pub otherwise : Otherwise

-- the scalar of this text, where others take it otherwise
abbrev pub told : List ℕ → Option Otherwise → Option Told
told text None = None
told text (Some otherwise) = Some (record { text = text; otherwise = otherwise })

-- a plain scalar without a tag is told by its text, and another one is not
abbrev pub told_scalar : List ℕ → TScalarStyle → Option Tag → Option Told
told_scalar text style.Plain None = told text (read_elsewhere text)
told_scalar text _ _ = None

-- an event that is no such scalar is not told
abbrev pub told_of : Event → Option Told
told_of (e.Scalar text style anchor tag) = told_scalar text style tag
told_of _ = None

-- the first one of events
abbrev pub first_told : List Event → Option Told
first_told [] = None
first_told (event ∷ events) = option_or (told_of event) (first_told events)

-- what was found, without its place
abbrev pub seen : Option Found → Option Told
seen None = None
seen (Some found) = Some (record { text = found.text; otherwise = found.otherwise })

-- it is the first one of the events that the parser gives of the document
pub record IsFirstOf (document : List ℕ) (found : Option Found) : Type 0 where
  pub events : List Event
  pub last : Parsing
  pub run : Run (start_parsing (before_nul document)) events last
  pub first : seen found ≡ first_told events

-- What the words of a command line ask for.
use Rattle.std.specs.Prelude.{◌==◌, ℕ, Bool, true, false, not, List, Option, None, Some}
use Rattle.snap_demo.specs.Words.{demo_mean}
use Rattle.snap_demo.specs.declared.words.DemoWords.{DemoWords}
use Rattle.snap_run.specs.Answers.{RunWords, text_asked, words_mean}

-- one of a text, a run, a demonstration and nothing
pub data Meaning : Type 0 where
  a_text : List ℕ → Meaning
  a_run : RunWords → Meaning
  a_demonstration : DemoWords → Meaning
  nothing : Meaning

abbrev pub meaning_by : Option (List ℕ) → Option RunWords → Option DemoWords → Meaning
meaning_by (Some text) run demo = a_text text
meaning_by None (Some said) demo = a_run said
meaning_by None None (Some said) = a_demonstration said
meaning_by None None None = nothing

-- what the words ask for; none ask for two of these, since the first word tells which it may be
abbrev pub meaning : List (List ℕ) → Meaning
meaning words = meaning_by (text_asked words) (words_mean words) (demo_mean words)

-- only a run reads the source
abbrev pub reads_input : Meaning → Bool
reads_input (a_run said) = true
reads_input _ = false

-- a run may touch files, and a demonstration of some requests
abbrev pub touches_files : Meaning → Bool
touches_files (a_run said) = true
touches_files (a_demonstration said) = not (said.count == 0)
touches_files _ = false

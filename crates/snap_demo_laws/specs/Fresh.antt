-- A demonstration over files of which none is at its paths.
use Rattle.std.specs.Prelude.{◌≡◌, ◌+◌, ◌++◌, ℕ, zero, suc, List, Option, None, Some, length, encode_utf8_all, codes}
use Rattle.std.specs.FinMap.{get}
use Rattle.snap_content.specs.Plain.{Plain, text, dict, entry, no_entries}
use Rattle.snap_demo.specs.Answers.{demo_lines}
use Rattle.snap_demo.specs.Numbers.{next_of}
use Rattle.snap_demo.specs.Paths.{demo_path}
use Rattle.snap_demo.specs.Requests.{demo_file, demo_value}
use Rattle.snap_demo.specs.declared.words.DemoWords.{DemoWords}
use Rattle.snap_io.specs.Files.{Files}
use Rattle.snap_io.specs.Outside.{Outside, Becomes}
use Rattle.snap_print.specs.Blocks.{off}
use Rattle.snap_store.specs.Image.{file_of}

-- the header of a request's snapshot: its source file and its expression
abbrev pub demo_header : ℕ → Plain
demo_header i = dict (entry (text (codes "source")) (text (demo_file i)) (entry (text (codes "expression")) (text (codes "demo")) no_entries))

-- the text of the snapshot, and its bytes
abbrev pub demo_snapshot : ℕ → ℕ → List ℕ
demo_snapshot i x = file_of (demo_header i) off (demo_value i x)

abbrev pub demo_image : ℕ → ℕ → List ℕ
demo_image i x = encode_utf8_all (demo_snapshot i x)

-- no file is at the paths of so many requests, from one on
abbrev pub AreAbsent : ℕ → ℕ → Files → Type 0
AreAbsent i zero m = Unit {0}
AreAbsent i (suc n) m = (get m (demo_path i) ≡ None) × AreAbsent (i + 1) n m

-- each of so many requests, from a place and a number on, has its snapshot
abbrev pub AreHeld : ℕ → ℕ → ℕ → Files → Type 0
AreHeld i x zero m = Unit {0}
AreHeld i x (suc n) m = (get m (demo_path i) ≡ Some (demo_image i x)) × AreHeld (i + 1) (next_of x) n m

-- how many bytes these snapshots have
abbrev pub bytes_meant : ℕ → ℕ → ℕ → ℕ
bytes_meant i x zero = 0
bytes_meant i x (suc n) = length (demo_image i x) + bytes_meant (i + 1) (next_of x) n

-- each request's snapshot stands, and the lines tell that all passed and how many bytes these snapshots have
pub record PassesAll (words : DemoWords) (lines : List ℕ) (files' : Option Files) : Type 0 where
  pub files : Files
  pub told : files' ≡ Some files
  pub held : AreHeld 0 words.seed words.count files
  pub lines_are : lines ≡ demo_lines words.count words.count (bytes_meant 0 words.seed words.count)

-- each request's snapshot stands in the files of the outside, and the lines that tell of that are written behind what was written before
abbrev pub ShowsAll : DemoWords → Outside → Outside → Type 0
ShowsAll words before after = (lines : List ℕ) × (PassesAll words lines after.files × Becomes before.written after.written (λ w. w ++ encode_utf8_all lines))

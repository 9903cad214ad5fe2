-- Demonstrations worked out by hand.
use Rattle.std.specs.Prelude.{◌≡◌, ℕ, List, [], ◌∷◌, None, Some, pos, codes}
use Rattle.snap_content.specs.Plain.{int, text, list, dict, no_items, item, no_entries, entry}
use Rattle.snap_demo.specs.Answers.{demo_lines}
use Rattle.snap_demo.specs.Numbers.{next_of, numbers_from}
use Rattle.snap_demo.specs.Paths.{demo_path}
use Rattle.snap_demo.specs.Requests.{demo_value, demo_file, demo_name}
use Rattle.snap_demo.specs.Stream.{demo_text}
use Rattle.snap_demo.specs.Words.{demo_mean}

-- the number after 0, after 1, and after the largest; 2 ^ 64 is taken away as often as it goes
abbrev pub AreNumbers : Type 0
AreNumbers =
    (next_of 0 ≡ 1442695040888963407)
    × (next_of 1 ≡ 7806831264735756412)
    × (next_of 18446744073709551615 ≡ 13525302890751722018)
    × (numbers_from 7 2 ≡ 7 ∷ next_of 7 ∷ [])

-- 0 has no tags and the first note; 7 is 4 and 3: three tags, and the second note
abbrev pub AreValues : Type 0
AreValues =
    (demo_value 0 0 ≡ dict (
    entry (text (codes "id")) (int (pos 0)) (
    entry (text (codes "seed")) (int (pos 0)) (
    entry (text (codes "tags")) (list no_items) (
    entry (text (codes "note")) (text (codes "plain")) no_entries)))))
    × (demo_value 0 7 ≡ dict (
    entry (text (codes "id")) (int (pos 0)) (
    entry (text (codes "seed")) (int (pos 7)) (
    entry (text (codes "tags")) (list (item (text (codes "t0")) (item (text (codes "t1")) (item (text (codes "t2")) no_items)))) (
    entry (text (codes "note")) (text (codes "0o17")) no_entries)))))

-- where the request with the number 1234 stands, and its snapshot
abbrev pub ArePlaces : Type 0
ArePlaces =
    (demo_file 1234 ≡ codes "src/d12/demo.rs")
    × (demo_name 1234 ≡ codes "r1234")
    × (demo_path 1234 ≡ codes "demo/src/d12/snapshots/demo__r1234.snap")

-- the document of a request, in which `0o17` is quoted, since it would be read as a number
abbrev pub IsDocument : Type 0
IsDocument =
    demo_text 0 7
    ≡ codes "---\nmodule: demo\nfile: src/d0/demo.rs\nline: 1\nname: r0\nexpr: demo\nvalue:\n  id: 0\n  seed: 7\n  tags:\n    - t0\n    - t1\n    - t2\n  note: \"0o17\"\n"

-- the lines of a demonstration
abbrev pub AreLines : Type 0
AreLines = demo_lines 1 1 83 ≡ codes "requests 1\npassed 1\nbytes 83\n"

-- a leading 0 counts as nothing, the limits themselves are taken, and a sign is none
abbrev pub AreWords : Type 0
AreWords =
    (demo_mean (codes "demo" ∷ codes "007" ∷ codes "01" ∷ []) ≡ Some (record { seed = 7; count = 1 }))
    × (demo_mean (codes "demo" ∷ codes "18446744073709551615" ∷ codes "10000" ∷ []) ≡ Some (record { seed = 18446744073709551615; count = 10000 }))
    × (demo_mean (codes "demo" ∷ codes "18446744073709551616" ∷ codes "1" ∷ []) ≡ None)
    × (demo_mean (codes "demo" ∷ codes "1" ∷ codes "10001" ∷ []) ≡ None)
    × (demo_mean (codes "demo" ∷ codes "+1" ∷ codes "1" ∷ []) ≡ None)
    × (demo_mean (codes "demo" ∷ codes "1" ∷ codes "-1" ∷ []) ≡ None)
    × (demo_mean (codes "demo" ∷ codes "1" ∷ [] ∷ []) ≡ None)
    × (demo_mean (codes "demo" ∷ codes "1" ∷ []) ≡ None)

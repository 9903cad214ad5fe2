-- Which paths the documents of a stream ask for.
use Rattle.std.specs.Prelude.{◌==◌, ◌+◌, ◌-◌, ℕ, List, [], Option, None, is_some, length, if◌then◌else◌}
use Rattle.std.specs.BTreeMap.{insert_entry, is_at}
use Rattle.std.specs.Map.{lookup}
use Rattle.snap_assert.specs.Session.{SessionView, empty_session, opened, closed, text_cmp}
use Rattle.snap_explain.specs.declared.earlier.Earlier.{Earlier}

-- how many blocks of duplicates are open, and each path that a document asked for, with the number of the first that did
pub record Seen : Type 0 where
  pub depth : ℕ
  pub paths : List (List ℕ × ℕ)

-- before the first document
abbrev pub nothing_seen : Seen
nothing_seen = record { depth = 0; paths = [] }

-- a block begins
abbrev pub deeper : Seen → Seen
deeper seen = record seen { depth = seen.depth + 1 }

-- the innermost block ends
abbrev pub shallower : Seen → Seen
shallower seen = record seen { depth = seen.depth - 1 }

-- the document that asked for the path first
abbrev pub first_asker : List ℕ → Seen → Option ℕ
first_asker path seen = lookup (is_at (text_cmp path)) seen.paths

-- the document with this number is the first that asks for the path
abbrev pub with_path : ℕ → List ℕ → Seen → Seen
with_path number path seen = record seen { paths = insert_entry text_cmp seen.paths path number }

-- it asks for the path: where none did before, it is the first
abbrev pub with_asker : ℕ → List ℕ → Seen → Seen
with_asker number path seen = if is_some (first_asker path seen) then seen else with_path number path seen

-- of the first that did, what is told of a request that passes: nothing while a block of duplicates is open, in which requests may
-- share a path
abbrev pub told_first : Option ℕ → ℕ → Option ℕ
told_first first depth = if depth == 0 then first else None

-- the earlier document of which it is told that it asks for the same path
abbrev pub asked_before : List ℕ → Seen → Option ℕ
asked_before path seen = told_first (first_asker path seen) seen.depth

-- what is seen of the documents that came first
abbrev pub seen_of : Earlier → Seen
seen_of earlier = record { depth = length earlier.blocks.items; paths = earlier.paths.entries }

-- what is known of the documents that came first: what a run remembers, and what is seen of them
pub record Known : Type 0 where
  pub session : SessionView
  pub seen : Seen

abbrev pub known_by : SessionView → Earlier → Known
known_by session earlier = record { session = session; seen = seen_of earlier }

-- before the first document
abbrev pub nothing_known : Known
nothing_known = record { session = empty_session; seen = nothing_seen }

-- a block of duplicates begins, or ends
abbrev pub known_within : Known → Known
known_within known = record { session = opened known.session; seen = deeper known.seen }

abbrev pub known_behind : Known → Known
known_behind known = record { session = closed known.session; seen = shallower known.seen }

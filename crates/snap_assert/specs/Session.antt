-- What a session remembers: lists of entries in the order of their keys, as the standard library's maps show them.
use Rattle.std.specs.Prelude.{ℕ, Bool, true, false, List, [], ◌∷◌, Option, None, map, reverse}
use Rattle.std.specs.BTreeMap.{insert_entry, is_at}
use Rattle.std.specs.BTreeSet.{insert_key}
use Rattle.std.specs.Cmp.Lexicographic.{slice_cmp}
use Rattle.std.specs.List.{list_any}
use Rattle.std.specs.Map.{lookup}
use Rattle.std.specs.Option.{option_cmp}
use Rattle.std.specs.Ordering.{nat_cmp, ordering_then}
use Rattle.std.specs.Set.{remove_key}
use Rattle.std.specs.declared.cmp.Ordering.{Ordering}
use Rattle.snap_store.specs.declared.contents.SnapshotContents.{SnapshotContents}
use Rattle.snap_assert_place.specs.Names.{NameKey}
use Rattle.snap_assert_place.specs.SnapshotPath.{flat_module}
use Rattle.snap_assert.specs.declared.session.Session.{Session}
use Rattle.snap_assert.specs.declared.session.Use.{Use}

abbrev pub text_cmp : List ℕ → List ℕ → Ordering
text_cmp a b = slice_cmp nat_cmp a b

-- the order of modules and names
abbrev pub key_cmp : NameKey → NameKey → Ordering
key_cmp a b = ordering_then (text_cmp a.0 b.0) (text_cmp a.1 b.1)

-- under what a block keeps contents: a module and a name, or the function, the file and the line of a literal
abbrev pub BlockKey : Type 0
BlockKey = List ℕ × List ℕ × Option ℕ

-- the order of the keys of a block: by their first text, then their second, then the line
abbrev pub block_cmp : BlockKey → BlockKey → Ordering
block_cmp a b = ordering_then (ordering_then (text_cmp a.0 b.0) (text_cmp a.1 b.1)) (option_cmp nat_cmp a.2 b.2)

-- a literal in the source: its function, its file and its line
abbrev pub LiteralKey : Type 0
LiteralKey = List ℕ × List ℕ × ℕ

-- the order of literals
abbrev pub literal_cmp : LiteralKey → LiteralKey → Ordering
literal_cmp a b = ordering_then (ordering_then (text_cmp a.0 b.0) (text_cmp a.1 b.1)) (nat_cmp a.2 b.2)

-- what an open block keeps: for each key the contents that were asserted first
abbrev pub Block : Type 0
Block = List (BlockKey × SnapshotContents)

-- how each automatic name was used, what each open block keeps, the innermost first, and the literals that were met outside of blocks
pub record SessionView : Type 0 where
  pub uses : List (NameKey × Use)
  pub blocks : List Block
  pub literals : List LiteralKey

-- before the first assertion: no name was made, no block is open, and no literal was met
abbrev pub empty_session : SessionView
empty_session = record { uses = []; blocks = []; literals = [] }

-- what a session is seen as; its last block is the innermost
abbrev pub session_of : Session → SessionView
session_of session = record {
  uses = session.uses.entries;
  blocks = reverse (map (λ block. block.entries) session.blocks.items);
  literals = session.literals.keys;
}

-- with one more block, which keeps nothing
abbrev pub opened : SessionView → SessionView
opened session = record session { blocks = [] ∷ session.blocks }

abbrev pub without_first : List Block → List Block
without_first [] = []
without_first (block ∷ outer) = outer

-- the innermost block taken away, where one is open
abbrev pub closed : SessionView → SessionView
closed session = record session { blocks = without_first session.blocks }

abbrev pub is_filled : List Block → Bool
is_filled [] = false
is_filled (block ∷ outer) = true

-- whether a block is open
abbrev pub is_open : SessionView → Bool
is_open session = is_filled session.blocks

-- how a name was used
abbrev pub use_of : SessionView → NameKey → Option Use
use_of session key = lookup (is_at (key_cmp key)) session.uses

abbrev pub with_use : SessionView → NameKey → Use → SessionView
with_use session key value = record session { uses = insert_entry key_cmp session.uses key value }

-- whether the literal was met
abbrev pub is_met : SessionView → LiteralKey → Bool
is_met session key = list_any (is_at (literal_cmp key)) session.literals

-- the literal is met
abbrev pub with_literal : SessionView → LiteralKey → SessionView
with_literal session key = record session { literals = insert_key literal_cmp session.literals key }

-- the literal is as if it had not been met
abbrev pub without_literal : SessionView → LiteralKey → SessionView
without_literal session key = record session { literals = remove_key (is_at (literal_cmp key)) session.literals }

-- what the innermost block keeps for the key
abbrev pub kept_in : BlockKey → List Block → Option SnapshotContents
kept_in key [] = None
kept_in key (block ∷ outer) = lookup (is_at (block_cmp key)) block

abbrev pub kept_for : SessionView → BlockKey → Option SnapshotContents
kept_for session key = kept_in key session.blocks

abbrev pub put_in : BlockKey → SnapshotContents → List Block → List Block
put_in key contents [] = []
put_in key contents (block ∷ outer) = insert_entry block_cmp block key contents ∷ outer

-- the innermost block keeps these contents for the key
abbrev pub with_kept : SessionView → BlockKey → SnapshotContents → SessionView
with_kept session key contents = record session { blocks = put_in key contents session.blocks }

-- a module, a name, and how often the name was used
abbrev pub Counter : Type 0
Counter = List ℕ × List ℕ × ℕ

abbrev pub use_counted : ℕ → Use
use_counted count = record { prefixed = None; count = count }

-- with this name used so often; whether `test_` stood in front of it is not known
abbrev pub with_counter : SessionView → Counter → SessionView
with_counter session c = with_use session (flat_module c.0, c.1) (use_counted c.2)

-- with these names used so often, of equal names the last
abbrev pub with_counters : List Counter → SessionView → SessionView
with_counters [] session = session
with_counters (c ∷ cs) session = with_counters cs (with_counter session c)

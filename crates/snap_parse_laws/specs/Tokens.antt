-- The tokens of a plain tree.
use Rattle.std.specs.Prelude.{ℕ, List, [], ◌∷◌, ◌++◌, if◌then◌else◌, codes, Option, None, Some}
use Rattle.std.specs.Fmt.{signed_decimal}
use Rattle.snap_content.specs.Plain.{Plain, null, bool, int, text, list, dict, Plains, no_items, item, Entries, no_entries, entry}
use Rattle.snap_content.specs.Quotes.{needs_quotes}
use Rattle.snap_print.specs.Spell.{spell_bool}
use Rattle.snap_print.specs.Blocks.{Blocks, before_more, as_block}
use Rattle.snap_print.specs.Lines.{before_items, before_entries}
use Rattle.snap_scan_tokens.specs.declared.token.TokenType.{TokenType}
use Rattle.snap_scan_tokens.specs.declared.token.TokenType.TheVariants as k
use Rattle.snap_scan_tokens.specs.declared.token.TEncoding.TheVariants.{Utf8}
use Rattle.snap_scan_tokens.specs.declared.token.TScalarStyle.TheVariants as style

-- a text is a scalar in double quotes where it needs them, and a plain one else
abbrev pub text_token : List ℕ → TokenType
text_token s = if needs_quotes s then k.Scalar style.DoubleQuoted s else k.Scalar style.Plain s

-- an item or a value is a literal scalar where it is written as a block
abbrev pub child_tokens : Option (List ℕ) → List TokenType → List TokenType
child_tokens None ts = ts
child_tokens (Some s) ts = k.Scalar style.Literal s ∷ []

abbrev mutual
  pub node_tokens : Blocks → Plain → List TokenType
  node_tokens w null = k.Scalar style.Plain (codes "~") ∷ []
  node_tokens w (bool b) = k.Scalar style.Plain (spell_bool b) ∷ []
  node_tokens w (int z) = k.Scalar style.Plain (signed_decimal z) ∷ []
  node_tokens w (text s) = text_token s ∷ []
  node_tokens w (list no_items) = k.FlowSequenceStart ∷ k.FlowSequenceEnd ∷ []
  node_tokens w (list (item p ps)) =
      k.BlockSequenceStart ∷ k.BlockEntry ∷ (child_tokens (as_block (before_items w ps) p) (node_tokens (before_items w ps) p) ++ item_tokens w ps ++ k.BlockEnd ∷ [])
  node_tokens w (dict no_entries) = k.FlowMappingStart ∷ k.FlowMappingEnd ∷ []
  node_tokens w (dict (entry key v es)) =
      k.BlockMappingStart ∷ k.Key
      ∷ (node_tokens (before_more w) key ++ (k.Value ∷ child_tokens (as_block (before_entries w es) v) (node_tokens (before_entries w es) v)) ++ entry_tokens w es ++ k.BlockEnd ∷ [])

  -- the tokens of further items
  pub item_tokens : Blocks → Plains → List TokenType
  item_tokens w no_items = []
  item_tokens w (item p ps) = k.BlockEntry ∷ (child_tokens (as_block (before_items w ps) p) (node_tokens (before_items w ps) p) ++ item_tokens w ps)

  -- the tokens of further entries
  pub entry_tokens : Blocks → Entries → List TokenType
  entry_tokens w no_entries = []
  entry_tokens w (entry key v es) =
      k.Key ∷ (node_tokens (before_more w) key ++ (k.Value ∷ child_tokens (as_block (before_entries w es) v) (node_tokens (before_entries w es) v)) ++ entry_tokens w es)

-- the tokens of a document with these inside
abbrev pub document_with : List TokenType → List TokenType
document_with inside = k.StreamStart Utf8 ∷ k.DocumentStart ∷ (inside ++ k.StreamEnd ∷ [])

-- the tokens of a document of one tree
abbrev pub document_tokens : Blocks → Plain → List TokenType
document_tokens w p = document_with (node_tokens w p)

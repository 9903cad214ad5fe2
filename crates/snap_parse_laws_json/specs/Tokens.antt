-- The tokens of the JSON text of a plain tree.
use Rattle.std.specs.Prelude.{ℕ, List, [], ◌∷◌, ◌++◌, codes}
use Rattle.std.specs.Fmt.{signed_decimal}
use Rattle.snap_content.specs.Plain.{Plain, null, bool, int, text, list, dict, Plains, no_items, item, Entries, no_entries, entry}
use Rattle.snap_print.specs.Spell.{spell_bool}
use Rattle.snap_scan_tokens.specs.declared.token.TokenType.{TokenType}
use Rattle.snap_scan_tokens.specs.declared.token.TokenType.TheVariants as k
use Rattle.snap_scan_tokens.specs.declared.token.TEncoding.TheVariants.{Utf8}
use Rattle.snap_scan_tokens.specs.declared.token.TScalarStyle.TheVariants as style

-- a text is a scalar in double quotes, everything else a plain one
abbrev pub quoted_token : List ℕ → TokenType
quoted_token s = k.Scalar style.DoubleQuoted s

abbrev pub plain_token : List ℕ → TokenType
plain_token s = k.Scalar style.Plain s

-- a key; nothing else than a text is one
abbrev pub key_tokens : Plain → List TokenType
key_tokens (text s) = k.Key ∷ quoted_token s ∷ k.Value ∷ []
key_tokens other = []

abbrev mutual
  pub json_tokens : Plain → List TokenType
  json_tokens null = plain_token (codes "null") ∷ []
  json_tokens (bool b) = plain_token (spell_bool b) ∷ []
  json_tokens (int z) = plain_token (signed_decimal z) ∷ []
  json_tokens (text s) = quoted_token s ∷ []
  json_tokens (list no_items) = k.FlowSequenceStart ∷ k.FlowSequenceEnd ∷ []
  json_tokens (list (item p ps)) = k.FlowSequenceStart ∷ (json_tokens p ++ (item_tokens ps ++ k.FlowSequenceEnd ∷ []))
  json_tokens (dict no_entries) = k.FlowMappingStart ∷ k.FlowMappingEnd ∷ []
  json_tokens (dict (entry key p es)) =
      k.FlowMappingStart ∷ ((key_tokens key ++ json_tokens p) ++ (entry_tokens es ++ k.FlowMappingEnd ∷ []))

  -- the tokens of further items
  pub item_tokens : Plains → List TokenType
  item_tokens no_items = []
  item_tokens (item p ps) = k.FlowEntry ∷ (json_tokens p ++ item_tokens ps)

  -- the tokens of further entries
  pub entry_tokens : Entries → List TokenType
  entry_tokens no_entries = []
  entry_tokens (entry key p es) = k.FlowEntry ∷ ((key_tokens key ++ json_tokens p) ++ entry_tokens es)

-- the tokens of a text that is a tree's JSON: no document begins by a mark
abbrev pub json_stream_tokens : Plain → List TokenType
json_stream_tokens p = k.StreamStart Utf8 ∷ (json_tokens p ++ k.StreamEnd ∷ [])

-- Trees and their tokens, and where the bounds lie, worked out by hand.
use Rattle.std.specs.Prelude.{ℕ, zero, suc, ◌≡◌, [], ◌∷◌, codes, replicate, pos, negsuc, true, false}
use Rattle.snap_content.specs.Plain.{Plain, null, bool, int, text, list, dict, no_items, item, no_entries, entry}
use Rattle.snap_scan_tokens.specs.declared.token.TokenType.TheVariants as k
use Rattle.snap_scan_tokens.specs.declared.token.TEncoding.TheVariants.{Utf8}
use Rattle.snap_scan_tokens.specs.declared.token.TScalarStyle.TheVariants.{DoubleQuoted, Plain as PlainStyle}
use Rattle.snap_parse_laws_json.specs.Bounded.{is_bounded}
use Rattle.snap_parse_laws_json.specs.Tokens.{json_tokens, json_stream_tokens}

-- `[true,"x"]`
abbrev pub pair : Plain
pair = list (item (bool true) (item (text (codes "x")) no_items))

-- `{"a":-5,"b":[]}`
abbrev pub table : Plain
table = dict (entry (text (codes "a")) (int (negsuc 4)) (entry (text (codes "b")) (list no_items) no_entries))

-- JSON texts and their tokens, which were worked out by hand
pub record AreTokens : Type 0 where
  pub nothing : json_stream_tokens null ≡ k.StreamStart Utf8 ∷ k.Scalar PlainStyle (codes "null") ∷ k.StreamEnd ∷ []
  pub quoted : json_tokens (text (codes "a\n")) ≡ k.Scalar DoubleQuoted (codes "a\n") ∷ []
  pub number : json_tokens (int (pos 10)) ≡ k.Scalar PlainStyle (codes "10") ∷ []
  pub empty : json_tokens (dict no_entries) ≡ k.FlowMappingStart ∷ k.FlowMappingEnd ∷ []
  pub pair :
      json_tokens pair
      ≡ k.FlowSequenceStart ∷ k.Scalar PlainStyle (codes "true") ∷ k.FlowEntry ∷ k.Scalar DoubleQuoted (codes "x") ∷ k.FlowSequenceEnd ∷ []
  pub table :
      json_tokens table
      ≡ k.FlowMappingStart ∷ k.Key ∷ k.Scalar DoubleQuoted (codes "a") ∷ k.Value ∷ k.Scalar PlainStyle (codes "-5") ∷ k.FlowEntry
      ∷ k.Key ∷ k.Scalar DoubleQuoted (codes "b") ∷ k.Value ∷ k.FlowSequenceStart ∷ k.FlowSequenceEnd ∷ k.FlowMappingEnd ∷ []

-- lists in one another, so many levels
abbrev pub nested : ℕ → Plain
nested zero = null
nested (suc n) = list (item (nested n) no_items)

-- a dict of one entry, whose key has so many letters
abbrev pub keyed : ℕ → Plain
keyed n = dict (entry (text (replicate n 97)) null no_entries)

-- where the bounds of levels and of keys lie
pub record AreBounds : Type 0 where
  pub deepest : is_bounded (nested 1023) ≡ true
  pub too_deep : is_bounded (nested 1024) ≡ false
  pub longest : is_bounded (keyed 1022) ≡ true
  pub too_long : is_bounded (keyed 1023) ≡ false

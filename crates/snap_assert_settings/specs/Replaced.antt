-- What documents can say stands in place of what selectors hit.
use Rattle.std.specs.Prelude.{List, [], ◌∷◌, map}
use Rattle.snap_content.specs.Tree.{Tree}
use Rattle.snap_select.specs.Parts.{Parts}
use Rattle.snap_select.specs.Redacted.{redacted}
use Rattle.snap_select.specs.Replacements.{put_of, redaction_by}
use Rattle.snap_select.specs.Selectors.{parts_of}
use Rattle.snap_select.specs.declared.redaction.Redaction.{Redaction}
use Rattle.snap_select.specs.declared.replacement.Replacement.{Replacement}
use Rattle.snap_select.specs.declared.selector.Selector.{Selector}
use Rattle.snap_assert_settings.specs.Redactions.{RedactionView, redaction_at}

-- what a selector consists of, and what is put in place of what it hits
pub record ReplacementView : Type 0 where
  pub parts : Parts
  pub put : Tree → Tree

abbrev pub replacement_of : Selector × Replacement → ReplacementView
replacement_of pair = record { parts = parts_of pair.0; put = put_of pair.1 }

-- what selectors and their replacements are seen as, in their order
abbrev pub replacements_of : List (Selector × Replacement) → List ReplacementView
replacements_of pairs = map replacement_of pairs

-- each in turn
abbrev pub redacted_by : List ReplacementView → Tree → Tree
redacted_by [] t = t
redacted_by (r ∷ rs) t = redacted_by rs (redacted r.parts r.put [] t)

-- the redaction that a replacement stands for
abbrev pub redaction_for : {X : Type 0} {P : X → Type 0} {Y : Type 0} {Q : Y → Type 0} {g : _} → Selector × Replacement → RedactionView (Redaction X Y P Q g)
redaction_for pair = redaction_at (parts_of pair.0) (redaction_by pair.1)

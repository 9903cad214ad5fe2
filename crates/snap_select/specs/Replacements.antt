-- What a document can say stands in place of a value.
use Rattle.snap_content.specs.Tree.{Tree}
use Rattle.snap_content.specs.View.{tree}
use Rattle.snap_select.specs.InOrder.{in_order}
use Rattle.snap_select.specs.declared.redaction.Redaction.{Redaction}
use Rattle.snap_select.specs.declared.redaction.Redaction.TheVariants as redaction
use Rattle.snap_select.specs.declared.replacement.Replacement.{Replacement}
use Rattle.snap_select.specs.declared.replacement.Replacement.TheVariants.{Static, Sorted}

-- the same tree; the value in order
abbrev pub put_of : Replacement → Tree → Tree
put_of (Static content) t = tree content
put_of Sorted t = in_order t

-- as a redaction
abbrev pub redaction_by : {X : Type 0} {P : X → Type 0} {Y : Type 0} {Q : Y → Type 0} {g : _} → Replacement → Redaction X Y P Q g
redaction_by (Static content) = redaction.Static content
redaction_by Sorted = redaction.Sorted

-- Copies of redactions: what is the same in them, and which have none.
use Rattle.std.specs.Prelude.{◌≡◌, Bool, true, false, List, Result, Ok, Err, map}
use Rattle.snap_content.specs.Tree.{Tree}
use Rattle.snap_content.specs.View.{tree}
use Rattle.snap_select.specs.Parts.{Parts}
use Rattle.snap_select.specs.declared.redaction.Redaction.{Redaction}
use Rattle.snap_select.specs.declared.redaction.Redaction.TheVariants as redaction
use Rattle.snap_assert_settings.specs.Redactions.{RedactionView}
use Rattle.snap_assert_settings.specs.declared.copies.CloneError.{CloneError}
use Rattle.snap_assert_settings.specs.declared.copies.CloneError.TheVariants as end

-- what a redaction does: it puts this tree, it puts lists in order, or it calls what the caller gave
pub data Shown : Type 0 where
  puts : Tree → Shown
  sorts : Shown
  asks : Shown

abbrev pub shown_of : {X : Type 0} {P : X → Type 0} {Y : Type 0} {Q : Y → Type 0} {g : _} → Redaction X Y P Q g → Shown
shown_of (redaction.Static content) = puts (tree content)
shown_of redaction.Sorted = sorts
shown_of (redaction.Dynamic object) = asks
shown_of (redaction.Function function) = asks

-- a selector, and what is done at what it hits
pub record ShownAt : Type 0 where
  pub parts : Parts
  pub shown : Shown

abbrev pub shown_at : {X : Type 0} {P : X → Type 0} {Y : Type 0} {Q : Y → Type 0} {g : _} → RedactionView (Redaction X Y P Q g) → ShownAt
shown_at view = record { parts = view.parts; shown = shown_of view.redaction }

-- what redactions do, in their order
abbrev pub shown_redactions : {X : Type 0} {P : X → Type 0} {Y : Type 0} {Q : Y → Type 0} {g : _} → List (RedactionView (Redaction X Y P Q g)) → List ShownAt
shown_redactions views = map shown_at views

-- a redaction that calls an object or a function
abbrev pub is_called : {X : Type 0} {P : X → Type 0} {Y : Type 0} {Q : Y → Type 0} {g : _} → Redaction X Y P Q g → Bool
is_called (redaction.Static content) = false
is_called redaction.Sorted = false
is_called (redaction.Dynamic object) = true
is_called (redaction.Function function) = true

-- whether a redaction calls an object or a function
abbrev pub calls : {X : Type 0} {P : X → Type 0} {Y : Type 0} {Q : Y → Type 0} {g : _} → RedactionView (Redaction X Y P Q g) → Bool
calls view = is_called view.redaction

-- why there is no copy: one that calls something is among them; or memory was short
abbrev pub CloneRefused : Bool → CloneError → Type 0
CloneRefused called end.HasDynamic = called ≡ true
CloneRefused called end.OutOfMemory = Unit {0}

-- there is a copy only where none calls anything
abbrev pub CloneEnd : {T : Type 0} → Bool → Result T CloneError → Type 0
CloneEnd called (Ok copy) = called ≡ false
CloneEnd called (Err error) = CloneRefused called error

-- Redactions: what stands in place of what selectors hit.
use Rattle.std.specs.Prelude.{◌≡◌, ◌⊎◌, ℕ, List, [], ◌∷◌, map}
use Rattle.snap_content.specs.Tree.{Tree}
use Rattle.snap_select.specs.Grammar.{IsSelector}
use Rattle.snap_select.specs.Redacting.{IsRedacted}
use Rattle.snap_select.specs.Parts.{Parts}
use Rattle.snap_select.specs.Put.{Objects, Puts}
use Rattle.snap_select.specs.Refusal.{IsRefused}
use Rattle.snap_select.specs.Selectors.{parts_of}
use Rattle.snap_select.specs.declared.fault.SelectError.{SelectError}
use Rattle.snap_select.specs.declared.fault.SelectError.TheVariants.{OutOfMemory}
use Rattle.snap_select.specs.declared.redaction.Redaction.{Redaction}
use Rattle.snap_select.specs.declared.selector.Selector.{Selector}
use Rattle.snap_assert_settings.specs.declared.redactions.Redactions.{Redactions}

-- what a selector consists of, and what stands in place of what it hits
pub record RedactionView (R : Type 0) : Type 0 where
  pub parts : Parts
  pub redaction : R

-- a redaction for a selector of these parts
abbrev pub redaction_at : {R : Type 0} → Parts → R → RedactionView R
redaction_at parts redaction = record { parts = parts; redaction = redaction }

-- what a selector and its redaction are seen as
abbrev pub redaction_of : {R : Type 0} → Selector × R → RedactionView R
redaction_of pair = redaction_at (parts_of pair.0) pair.1

-- what redactions are seen as, in their order
abbrev pub redactions_of : {X : Type 0} {P : X → Type 0} {Y : Type 0} {Q : Y → Type 0} {g : _} → Redactions X Y P Q g → List (RedactionView (Redaction X Y P Q g))
redactions_of redactions = map redaction_of redactions.items.items

-- each redaction makes its tree of the one before
abbrev pub RedactedBy : {X : Type 0} {P : X → Type 0} {Y : Type 0} {Q : Y → Type 0} {g : _} → Objects X P → List (RedactionView (Redaction X Y P Q g)) → Tree → Tree → Type 0
RedactedBy objects [] c out = out ≡ c
RedactedBy objects (r ∷ rs) c out = (next : Tree) × IsRedacted r.parts (Puts objects r.redaction) c next × RedactedBy objects rs next out

-- the redaction of a text that is a selector
pub record IsRedaction {R : Type 0} (text : List ℕ) (redaction : R) (view : RedactionView R) : Type 0 where
  pub selector : IsSelector text view.parts
  pub redaction_is : view.redaction ≡ redaction

-- each text is a selector, with its parts and what stands beside it as its redaction
abbrev pub AreRedactions : {R : Type 0} → List (List ℕ × R) → List (RedactionView R) → Type 0
AreRedactions [] [] = Unit {0}
AreRedactions [] (r ∷ rs) = ⊥
AreRedactions (p ∷ ps) [] = ⊥
AreRedactions (p ∷ ps) (r ∷ rs) = IsRedaction p.0 p.1 r × AreRedactions ps rs

-- the first text that is no selector is refused as such; or there was not enough memory
abbrev pub AreRefused : {R : Type 0} → List (List ℕ × R) → SelectError → Type 0
AreRefused [] error = error ≡ OutOfMemory
AreRefused (p ∷ ps) error = IsRefused p.0 error ⊎ ((parts : Parts) × IsSelector p.0 parts × AreRefused ps error)

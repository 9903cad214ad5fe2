-- What documents can say stands in place of a value is one tree.
use Rattle.snap_assert_settings.proofs.Prelude.{◌≡◌, List, [], ◌∷◌, map, refl, ap, ◌∙◌, subst, Tree, Objects, Puts, only, parts_of, Redaction, Selector, RedactionView, RedactedBy, replacements_of, redaction_for, redacted_by, settings_of, redactions_in, sorted_where, PrintsAs}
use Rattle.snap_select.specs.Matching.{Step}
use Rattle.snap_select.specs.Replacements.{put_of, redaction_by}
use Rattle.snap_select.specs.declared.replacement.Replacement.{Replacement}
use Rattle.snap_select.specs.declared.replacement.Replacement.TheVariants.{Static, Sorted}
use Rattle.snap_select.proofs.OneRedacted.{one_redacted, weaker_redacted}
use Rattle.snap_assert_settings.specs.declared.settings.Settings.{Settings}

plain_puts : {X : Type 0} {P : X → Type 0} {Y : Type 0} {Q : Y → Type 0} {g : _} (objects : Objects X P) (redaction : Redaction X Y P Q g) (r : Replacement)
    (c : Tree) (steps : List Step) (out : Tree) → redaction ≡ redaction_by r → Puts objects redaction c steps out → only (put_of r) c steps out
plain_puts objects redaction (Static content) c steps out is h = subst (λ x. Puts objects x c steps out) is h
plain_puts objects redaction Sorted c steps out is h = subst (λ x. Puts objects x c steps out) is h

pub plain_redacted : {X : Type 0} {P : X → Type 0} {Y : Type 0} {Q : Y → Type 0} {g : _} (objects : Objects X P) (rs : List (RedactionView (Redaction X Y P Q g)))
    (ps : List (Selector × Replacement)) (c out : Tree) → rs ≡ map redaction_for ps → RedactedBy objects rs c out → out ≡ redacted_by (replacements_of ps) c
plain_redacted objects rs [] c out is h = subst (λ l. RedactedBy objects l c out) is h
plain_redacted objects rs (p ∷ ps) c out is h =
    let k = subst (λ l. RedactedBy objects l c out) is h in
    plain_redacted objects (map redaction_for ps) ps k.0 out refl k.2
    ∙ ap (redacted_by (replacements_of ps))
    (one_redacted (parts_of p.0) (put_of p.1) c k.0
    (weaker_redacted (parts_of p.0) (Puts objects (redaction_by p.1)) (only (put_of p.1)) (λ t steps new q. plain_puts objects (redaction_by p.1) p.1 t steps new refl q) c k.0 k.1))

-- settings whose redactions are such print one tree
pub plain_prints : {X : Type 0} {P : X → Type 0} {Y : Type 0} {Q : Y → Type 0} {g : _} (objects : Objects X P) (settings : Settings X Y P Q g)
    (ps : List (Selector × Replacement)) (c out : Tree) → redactions_in settings ≡ map redaction_for ps → PrintsAs objects settings c out
    → out ≡ redacted_by (replacements_of ps) (sorted_where (settings_of settings).sort_maps c)
plain_prints objects settings ps c out is h =
    plain_redacted objects (redactions_in settings) ps (sorted_where (settings_of settings).sort_maps c) out is h.redacted

use Rattle.snap_scan_properties.proofs.Prelude.{◌≡◌, ◌*◌, ◌+◌, ◌∙◌, [], ◌∷◌, None, slice_index, sym, ap, subst, is_some, and_right, Place, skipped, hexadecimal, Spells}
use Rattle.snap_scan_properties.proofs.Spelled.{spells-octet, no-sign, no-digits}
use Rattle.snap_scan_properties.proofs.octets.octet.Goals as goal

pub returns-then-ch-ne37-clause-value : goal.returns-then-ch-ne37-clause-value
returns-then-ch-ne37-clause-value c = no-sign c.args.cursor.now (λ e. c.if-ch-ne37.true (c.ch.ensures ∙ e))

pub returns-in_default-hexadecimal-clause-value : goal.returns-in_default-hexadecimal-clause-value
returns-in_default-hexadecimal-clause-value c =
    let p : Place = c.args.cursor.now in
    let none : hexadecimal (slice_index p.left 2) ≡ None = ap hexadecimal (sym c.peek-2.ensures) ∙ sym c.in_default-hexadecimal.ensures.value in
    no-digits p (sym c.ch.ensures ∙ c.if-ch-ne37.false) (and_right (is_some (hexadecimal (slice_index p.left 1))) (is_some (hexadecimal (slice_index p.left 2))) (ap is_some none))

pub returns-clause-value : goal.returns-clause-value
returns-clause-value c =
    let p : Place = c.args.cursor.now in
    let P : Place → Type 0 = λ q. Spells p ((c.in-Some.high * 16 + c.in-Some-hexadecimal.low) ∷ []) q in
    let place : c.skip-3.new.self ≡ skipped (skipped (skipped p)) =
    c.skip-3.ensures.value ∙ ap skipped (c.skip-2.ensures.value ∙ ap skipped c.skip.ensures.value) in
    subst P (sym place) (spells-octet p c.in-Some.high c.in-Some-hexadecimal.low (sym c.ch.ensures ∙ c.if-ch-ne37.false)
    (ap hexadecimal (sym c.peek.ensures) ∙ sym c.in-Some.ensures.value) (ap hexadecimal (sym c.peek-2.ensures) ∙ sym c.in-Some-hexadecimal.ensures.value))

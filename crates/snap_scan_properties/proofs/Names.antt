-- Names of anchors, and handles of tags.
use Rattle.snap_scan_properties.proofs.Prelude.{◌≡◌, ◌≢◌, ℕ, ◌==◌, ◌||◌, List, true, false, not, Result, Ok, Err, refl, sym, ap, ◌∙◌, subst, codes, take_while, IfErr, ne_eqb, ScanError, ScanInfo, S22, is_among, IsExplained, IsRefusedBy, is_alpha, is_nothing, Mark, Place, skipped, skipped_while, mark_of, explained, ends_name, named, anchor_from, Found, found, ahead, run_of, local, shorthand}

named-of : (p q r : Place) (text : List ℕ) → q ≡ skipped p → text ≡ take_while is_alpha q.left → r ≡ skipped_while is_alpha q
    → anchor_from p ≡ named (record { value = text; place = r })
named-of p q r text one name place =
    let f : Place → Result (Found (List ℕ)) ScanInfo = λ x. named (run_of is_alpha x) in
    let g : List ℕ → Result (Found (List ℕ)) ScanInfo = λ l. named (record { value = l; place = skipped_while is_alpha q }) in
    let h : Place → Result (Found (List ℕ)) ScanInfo = λ x. named (record { value = text; place = x }) in
    ap f (sym one) ∙ ap g (sym name) ∙ ap h (sym place)

pub anchor-refused : (p q r : Place) (text : List ℕ) → q ≡ skipped p → text ≡ take_while is_alpha q.left → r ≡ skipped_while is_alpha q
    → (is_nothing text || not (ends_name (ahead r))) ≡ true → anchor_from p ≡ Err S22
anchor-refused p q r text one name place wrong = named-of p q r text one name place ∙ rw wrong refl

pub anchor-read : (p q r : Place) (text : List ℕ) → q ≡ skipped p → text ≡ take_while is_alpha q.left → r ≡ skipped_while is_alpha q
    → (is_nothing text || not (ends_name (ahead r))) ≡ false → anchor_from p ≡ found text r
anchor-read p q r text one name place right = named-of p q r text one name place ∙ rw right refl

-- a name without a `!` after it is no handle
pub shorthand-local : (p q : Place) → q ≡ skipped_while is_alpha p → ahead q ≢ 33 → local p ≡ shorthand p
shorthand-local p q is other =
    let sign : (ahead (skipped_while is_alpha p) == 33) ≡ false = ne_eqb (ahead (skipped_while is_alpha p)) 33 (λ e. other (ap ahead is ∙ e)) in
    rw sign refl

pub explained-answer : {T : Type 0} (p : Place) (at : Mark) (r : Result T ScanError) → is_among (codes "%") (ahead p) ≡ true → at ≡ mark_of p
    → IfErr r (λ e. IsRefusedBy (codes "%") at e) → IfErr r (λ e. IsExplained p e)
explained-answer p at (Ok value) sign is h = h
explained-answer p at (Err e) sign is h =
    let P : Mark → Type 0 = λ m. IsRefusedBy (codes "%") m e in
    explained p (codes "%") e sign refl (subst P is h)

use Rattle.snap_scan_properties.proofs.Prelude.{◌≡◌, ◌∙◌, sym, ap, Result, ℕ, false, arith, chars, is_nothing, ScanInfo, Found, found}
use Rattle.snap_scan_properties.proofs.Digits.{parsed-ok, parsed-err, number-read, number-long}
use Rattle.snap_scan_properties.proofs.directive.number_of.Goals as goal

pub returns-then-digits-gt-MAX_DIGITS-clause-value : goal.returns-then-digits-gt-MAX_DIGITS-clause-value
returns-then-digits-gt-MAX_DIGITS-clause-value c = λ p.
    let some : is_nothing (chars c.args.digits.now) ≡ false = sym c.is_nothing.ensures ∙ c.if-is_nothing.false in
    number-long c.args.digits.now c.requires.0 p c.utf8.digits c.requires.1 some (omega arith)

pub returns-in-Ok-clause-value : goal.returns-in-Ok-clause-value
returns-in-Ok-clause-value c = λ p.
    let some : is_nothing (chars c.args.digits.now) ≡ false = sym c.is_nothing.ensures ∙ c.if-is_nothing.false in
    let few = c.if-digits-gt-MAX_DIGITS.false in
    let same = parsed-ok c.args.digits.now c.requires.0 c.in-Ok.number c.utf8.digits c.requires.1 some few c.in-Ok.ensures.value.0 in
    let f : ℕ → Result (Found ℕ) ScanInfo = λ n. found n p in
    number-read c.args.digits.now c.requires.0 p c.utf8.digits c.requires.1 some few ∙ ap f same

pub returns-in-Err-clause-value : goal.returns-in-Err-clause-value
returns-in-Err-clause-value c = λ p.
    let some : is_nothing (chars c.args.digits.now) ≡ false = sym c.is_nothing.ensures ∙ c.if-is_nothing.false in
    absurd (parsed-err c.args.digits.now c.requires.0 c.utf8.digits c.requires.1 some c.if-digits-gt-MAX_DIGITS.false c.in-Err.ensures.value.0)

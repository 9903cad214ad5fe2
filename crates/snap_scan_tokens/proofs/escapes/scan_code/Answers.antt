use Rattle.snap_scan_tokens.proofs.Prelude.{◌≡◌, ◌≤◌, ◌-◌, ◌∙◌, ℕ, suc, Some, None, true, false, sym, refl, slice_index, arith, Place, hexadecimal, are_digits}
use Rattle.snap_scan_tokens.proofs.Backslashes.{digits-small, digits-room, digit-more, digits-same, digits-missing, digits-stand}
use Rattle.snap_scan_tokens.proofs.Places.{travels-on}
use Rattle.snap_scan_tokens.proofs.escapes.scan_code.Goals as goal

pub overflow_mul-value : goal.overflow_mul-value
overflow_mul-value c =
    let few : c.args.further - c.digits.left ≤ 7 = omega (arith, c.requires) in
    omega (arith, digits-room c.digits.value c.in-Some.digit (c.args.further - c.digits.left) c.digits.invariant.small c.in-Some.ensures.small few)

pub overflow_add-value : goal.overflow_add-value
overflow_add-value c =
    let few : c.args.further - c.digits.left ≤ 7 = omega (arith, c.requires) in
    omega (arith, digits-room c.digits.value c.in-Some.digit (c.args.further - c.digits.left) c.digits.invariant.small c.in-Some.ensures.small few)

pub digits-preserved : goal.digits-preserved
digits-preserved c =
    let p : Place = c.digits.cursor in
    let q : Place = c.skip-in-digits.new.self in
    let d : ℕ = c.in-Some.digit in
    let k : ℕ = c.args.further - c.digits.left in
    let more : c.args.further - (c.digits.left - 1) ≡ suc k = omega (arith, c.digits.invariant.few, c.if-left-eq0.false) in
    let one : c.digits.left ≡ suc (c.digits.left - 1) = omega (arith, c.if-left-eq0.false) in
    let digit : hexadecimal (slice_index p.left 0) ≡ Some d = cc in
    record {
      few = omega (arith, c.digits.invariant.few);
      small = rw more (digits-small c.digits.value d k c.digits.invariant.small c.in-Some.ensures.small);
      same = λ text. digit-more c.digits.left (c.digits.left - 1) c.digits.value d text p q one digit c.skip-in-digits.ensures.value ∙ c.digits.invariant.same text;
      fault = digits-same c.digits.left (c.digits.left - 1) d p q one digit c.skip-in-digits.ensures.value ∙ c.digits.invariant.fault;
      travels = travels-on c.digits.invariant.travels c.skip-in-digits.ensures.travels;
    }

pub returns-in_default-clause-info : goal.returns-in_default-clause-info
returns-in_default-clause-info c =
    let p : Place = c.digits.cursor in
    let none : hexadecimal (slice_index p.left 0) ≡ None = cc in
    let missing : are_digits c.args.further c.args.cursor.now.left ≡ false = sym c.digits.invariant.fault ∙ digits-missing c.digits.left p.left none in
    rw missing refl

pub returns-in_default-character-clause-info : goal.returns-in_default-character-clause-info
returns-in_default-character-clause-info c =
    let p : Place = c.digits.cursor in
    let digit : hexadecimal (slice_index p.left 0) ≡ Some c.in-Some.digit = cc in
    let stand : are_digits c.args.further c.args.cursor.now.left ≡ true = sym c.digits.invariant.fault ∙ digits-stand c.digits.left p.left c.in-Some.digit c.if-left-eq0.true digit in
    rw stand refl

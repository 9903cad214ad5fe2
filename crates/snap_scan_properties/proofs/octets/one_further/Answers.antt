use Rattle.snap_scan_properties.proofs.Prelude.{refl, arith}
use Rattle.snap_scan_properties.proofs.Spelled.{breaks-at-one, breaks-at-other}
use Rattle.snap_scan_properties.proofs.octets.one_further.Goals as goal

pub returns-in-None-clause-value : goal.returns-in-None-clause-value
returns-in-None-clause-value c = ((refl, λ k h. h), breaks-at-one c.args.cursor.now c.in-None.ensures.value)

pub returns-in-Some-2-clause-value : goal.returns-in-Some-2-clause-value
returns-in-Some-2-clause-value c = (
  (refl, λ k h. h),
  breaks-at-other c.args.cursor.now c.octet.new.cursor c.in-Some.octet c.in-Some.ensures.value (λ f. absurd (omega (arith, f.0, f.1, c.if-octet-lt192.false))),
)

pub returns-in-Some-2-2-clause-value : goal.returns-in-Some-2-2-clause-value
returns-in-Some-2-2-clause-value c = (
  (refl, λ k h. h),
  breaks-at-other c.args.cursor.now c.octet.new.cursor c.in-Some.octet c.in-Some.ensures.value (λ f. absurd (omega (arith, f.0, f.1, c.if-octet-ge128.false))),
)

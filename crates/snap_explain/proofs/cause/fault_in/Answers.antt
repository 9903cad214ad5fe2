use Rattle.snap_explain.proofs.Prelude.{refl}
use Rattle.snap_explain.specs.Reasons.IsFaultOf.{bad, number, key}
use Rattle.snap_explain.proofs.cause.fault_in.Goals as goal

pub returns-in_ok-bad_fault-in-Err-BadLine : goal.returns-in_ok-bad_fault-in-Err-BadLine
returns-in_ok-bad_fault-in-Err-BadLine g c = λ views are.
    bad (rw c.in-Err-BadLine.field-0-is at (c.in-Err-BadLine.ensures.why views are)) c.in_ok-bad_fault-in-Err-BadLine.ensures

pub returns-in_ok-number_in-in-Err-FloatLine : goal.returns-in_ok-number_in-in-Err-FloatLine
returns-in_ok-number_in-in-Err-FloatLine g c = λ views are.
    number c.in_ok-number_in-in-Err-FloatLine.field-0 refl (rw c.in-Err-FloatLine.field-0-is at (c.in-Err-FloatLine.ensures.why views are))

pub returns-in-Err-JsonKey : goal.returns-in-Err-JsonKey
returns-in-Err-JsonKey g c = λ views are. key refl (rw c.in-Err-JsonKey.field-0-is at (c.in-Err-JsonKey.ensures.why views are))

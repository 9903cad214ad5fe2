-- What standard error is told.
use Rattle.snap_run.proofs.Prelude.{true, ◌≡◌, inl, ℕ, List, [], ◌∷◌, ◌++◌, length, Option, Some, Result, Ok, Err, OnOk, OnErr, refl, sym, ◌∙◌, ap, subst, arith, encode_utf8_all, take_all, Counted, is_fault, Rose, HoldsFront, IsSteady, Status, message, IsSaid}
use Rattle.snap_run.specs.Describe.{description}
use Rattle.snap_run.specs.Program.{tells_document}
use Rattle.snap_run.specs.declared.status.Status.TheVariants as status
use Rattle.snap_io.specs.declared.outside.Fault.{Fault}

pub message_is : (end : Status) → tells_document end ≡ true → message end ≡ encode_utf8_all (description end ++ 10 ∷ [])
message_is status.AllPassed h = cc
message_is status.SomeFailed h = cc
message_is status.BadWords h = cc
message_is (status.BadRequest n) h = refl
message_is (status.Refused n kind) h = refl
message_is (status.FileIo n path) h = refl
message_is status.ReadFault h = cc
message_is status.WriteFault h = cc
message_is status.OutOfMemory h = cc
message_is status.InputTooLong h = cc

steady_or_rose : (before now : ℕ) → IsSteady before now → Rose before now → ⊥
steady_or_rose before now steady rose = omega (arith, steady.same, steady.below_last, rose.rose)

pub said : (end : Status) (bytes : List ℕ) (result : Result (Unit {0}) Fault) (before now : ℕ) (written written' : Option (List ℕ)) → bytes ≡ message end
    → OnOk result ((w : List ℕ) → written ≡ Some w → written' ≡ Some (w ++ bytes)) → OnErr result ((w : List ℕ) → written ≡ Some w → HoldsFront bytes w written')
    → Counted is_fault before now result → IsSaid end before now written written'
said end bytes (Ok done) before now written written' is all part cause = record {
  front = λ w told. record {
    count = length (message end);
    within = omega arith;
    written = all w told ∙ ap (λ b. Some (w ++ b)) (is ∙ sym (take_all (length (message end)) (message end) (omega arith)));
  };
  whole = λ w told steady. inl (all w told ∙ ap (λ b. Some (w ++ b)) is);
}
said end bytes (Err fault) before now written written' is all part cause = record {
  front = λ w told. subst (λ b. HoldsFront b w written') is (part w told);
  whole = λ w told steady. absurd (steady_or_rose before now steady cause);
}

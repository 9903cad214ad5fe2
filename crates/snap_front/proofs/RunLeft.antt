-- What a run of the program takes of its source.
use Rattle.snap_front.proofs.Prelude.{ℕ, List, [], Option, refl, arith}
use Rattle.snap_io_streams.specs.Streams.{input_limit, TakesAtMost}
use Rattle.snap_front.specs.Program.{IsTold, LengthCause}
use Rattle.snap_front.specs.declared.status.FrontStatus.{FrontStatus}
use Rattle.snap_front.specs.declared.status.FrontStatus.TheVariants.{Done, Failed, ReadFault, WriteFault, InputTooLong, OutOfMemory}

none-gone : (left : Option (List ℕ)) (most : ℕ) → TakesAtMost most left left
none-gone left most = λ xs is. record { front = []; given = record { rest = xs; told = is; whole = refl }; within = omega arith }

-- where a text is told nothing is read
pub told-length : (text : List ℕ) (status : FrontStatus) (written now left : Option (List ℕ)) → IsTold text status written now → LengthCause status left left
told-length text Done written now left told = none-gone left input_limit
told-length text (Failed x) written now left told = absurd told
told-length text ReadFault written now left told = absurd told
told-length text WriteFault written now left told = none-gone left input_limit
told-length text InputTooLong written now left told = absurd told
told-length text OutOfMemory written now left told = absurd told

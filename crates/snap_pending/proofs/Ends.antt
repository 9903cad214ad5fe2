-- The ends of saving, exit by exit.
use Rattle.snap_pending.proofs.Prelude.{◌≡◌, ℕ, Bool, false, List, Result, Ok, Err, subst, OnOk, OnErr, IsErrOf, Error, FailedParsingYaml, UnexpectedDataType, MissingField, FileIo, FloatText, JsonKey, NotText, NoFile, OutOfMemory, CallEnd, SavingEnd}

-- what was printed was written, or failed
pub saved : {T : Type 0} → (path : List ℕ) (refused : Bool) (result : Result T Error) → refused ≡ false → CallEnd path result → SavingEnd path refused result
saved path refused (Ok done) accepted end = accepted
saved path refused (Err (FileIo named)) accepted end = (end, accepted)
saved path refused (Err OutOfMemory) accepted end = tt
saved path refused (Err (FailedParsingYaml named)) accepted end = absurd end
saved path refused (Err UnexpectedDataType) accepted end = absurd end
saved path refused (Err MissingField) accepted end = absurd end
saved path refused (Err (FloatText named)) accepted end = absurd end
saved path refused (Err JsonKey) accepted end = absurd end
saved path refused (Err (NotText named)) accepted end = absurd end
saved path refused (Err (NoFile named)) accepted end = absurd end

-- a failed write is no `JsonKey`
no_key_here : {T P : Type 0} → (path : List ℕ) (result : Result T Error) → result ≡ Err JsonKey → CallEnd path result → P
no_key_here {T} {P} path result is end = absurd (never (subst Q is end))
  where
    Q : Result T Error → Type 0
    Q = λ r. CallEnd path r

    never : CallEnd {T = T} path (Err JsonKey) → ⊥
    never h = h

pub no_key : {T P : Type 0} → (path : List ℕ) (result : Result T Error) → CallEnd path result → IsErrOf result JsonKey → P
no_key path result end key = no_key_here path result key end

pub at_ok : {T P Q : Type 0} → (result : Result T Error) → (P → Q) → OnOk result P → OnOk result Q
at_ok (Ok value) f p = f p
at_ok (Err error) f p = tt

pub at_err : {T P : Type 0} → (result : Result T Error) → P → OnErr result P
at_err (Ok value) p = tt
at_err (Err error) p = p

-- How an answer of the system is told.
use Rattle.std.specs.Prelude.{◌≡◌, ◌≢◌, ℕ, Bool, true, false, Option, Some, None, Result, Ok, Err, bit_and}
use Rattle.std.specs.Fs.{metadata_mode, file_type, IsFile}
use Rattle.std.specs.IoError.{error_kind}
use Rattle.std.specs.declared.fs.attrs.Metadata.{Metadata}
use Rattle.std.specs.declared.io.Error.{Error}
use Rattle.std.specs.declared.io.ErrorKind.{ErrorKind}
use Rattle.std.specs.declared.io.ErrorKind.TheVariants.{NotFound, AlreadyExists, IsADirectory}
use Rattle.snap_io.specs.declared.call.Answer.{Answer}
use Rattle.snap_io.specs.declared.call.Answer.TheVariants.{Done, File, Missing, Taken, Other, Failed as NotDone}
use Rattle.snap_io.specs.declared.outside.Fault.{Fault}
use Rattle.snap_io.specs.declared.outside.StoreError.{StoreError}
use Rattle.snap_io.specs.declared.outside.StoreError.TheVariants.{Failed}

-- what was answered, and a fault for each error
abbrev pub IsToldAs : {T : Type 0} → Result T Error → Result T Fault → Type 0
IsToldAs (Ok value) told = told ≡ Ok value
IsToldAs (Err error) told = (fault : Fault) × (told ≡ Err fault)

-- the same, but errors of this kind are no fault
abbrev pub IsToldBut : {T : Type 0} → ErrorKind → Result T Error → Result (Option T) Fault → Type 0
IsToldBut kind (Ok value) told = told ≡ Ok (Some value)
IsToldBut kind (Err error) told = (error_kind error ≡ kind → told ≡ Ok None) × (error_kind error ≢ kind → (fault : Fault) × (told ≡ Err fault))

-- that nothing is there is no fault
abbrev pub IsFoundAs : {T : Type 0} → Result T Error → Result (Option T) Fault → Type 0
IsFoundAs answer told = IsToldBut NotFound answer told

-- that something is there already is no fault
abbrev pub IsMadeAs : {T : Type 0} → Result T Error → Result (Option T) Fault → Type 0
IsMadeAs answer told = IsToldBut AlreadyExists answer told

-- the bits of a mode that say who may read, write and run a file
abbrev pub permission_bits : Metadata → ℕ
permission_bits metadata = bit_and (metadata_mode metadata) 0o777

-- a look tells a regular file with its bits, something else, nothing, or that it failed
abbrev pub IsSeenAs : Result Metadata Error → Answer → Type 0
IsSeenAs (Ok metadata) answer = (IsFile (file_type metadata) → answer ≡ File (permission_bits metadata)) × ((IsFile (file_type metadata) → ⊥) → answer ≡ Other)
IsSeenAs (Err error) answer = (error_kind error ≡ NotFound → answer ≡ Missing) × (error_kind error ≢ NotFound → answer ≡ NotDone)

-- a removal was done, or found nothing, or a folder
abbrev pub IsRemovedAs : {T : Type 0} → Result T Error → Answer → Type 0
IsRemovedAs (Ok value) answer = answer ≡ Done
IsRemovedAs (Err error) answer = (error_kind error ≡ NotFound → answer ≡ Missing) × (error_kind error ≡ IsADirectory → answer ≡ Other) × (error_kind error ≢ NotFound → error_kind error ≢ IsADirectory → answer ≡ NotDone)

-- what a look says of a file that is to be read or written: its bits, or that nothing is there; all else is a fault
abbrev pub bits_told : Answer → Result (Option ℕ) StoreError
bits_told (File bits) = Ok (Some bits)
bits_told Missing = Ok None
bits_told Done = Err Failed
bits_told Taken = Err Failed
bits_told Other = Err Failed
bits_told NotDone = Err Failed

-- what a removal says: whether a file was there, as a folder is none; all else is a fault
abbrev pub gone_told : Answer → Result Bool StoreError
gone_told Done = Ok true
gone_told Missing = Ok false
gone_told Other = Ok false
gone_told (File bits) = Err Failed
gone_told Taken = Err Failed
gone_told NotDone = Err Failed

-- What was asked of the system, and what it answered.
use Rattle.std.specs.Prelude.{◌≡◌, ◌⊎◌, ℕ, List, [], ◌∷◌, take, Option, None, Some, Result, Ok, Err}
use Rattle.snap_io.specs.declared.call.Asked.{Asked}
use Rattle.snap_io.specs.declared.call.Asked.TheVariants.{Look, LookAtLink, Open, Read, MakeFolders, CreateNew, SetBits, OpenToAppend, Write, Flush, Rename, Remove, List as ListFolder, Next}
use Rattle.snap_io.specs.declared.call.Answer.{Answer}
use Rattle.snap_io.specs.declared.call.Answer.TheVariants.{Done, Missing, Taken, Failed}

-- a call with its answer, the bytes of its path, and its own bytes; a rename has the new path as these
abbrev pub Call : Type 0
Call = Asked × Answer × List ℕ × List ℕ

-- the calls so far, the last one first
abbrev pub History : Type 0
History = List Call

-- a call before it is answered
abbrev pub Step : Type 0
Step = Answer → Call

abbrev pub looks : List ℕ → Step
looks path answer = (Look, answer, path, [])

-- a link is seen itself
abbrev pub looks_at_link : List ℕ → Step
looks_at_link path answer = (LookAtLink, answer, path, [])

abbrev pub opens : List ℕ → Step
opens path answer = (Open, answer, path, [])

abbrev pub makes_folders : List ℕ → Step
makes_folders folder answer = (MakeFolders, answer, folder, [])

-- with no bits but these, where they are told; nothing may be there
abbrev pub creates_new : List ℕ → Option ℕ → Step
creates_new path bits answer = (CreateNew bits, answer, path, [])

-- the file that was made gets the bits
abbrev pub sets_bits : ℕ → Step
sets_bits bits answer = (SetBits bits, answer, [], [])

abbrev pub opens_to_append : List ℕ → Step
opens_to_append path answer = (OpenToAppend, answer, path, [])

-- the bytes go to the file that was opened or made last, or to the writer
abbrev pub writes : List ℕ → Step
writes bytes answer = (Write, answer, [], bytes)

abbrev pub flushes : Step
flushes answer = (Flush, answer, [], [])

abbrev pub renames : List ℕ → List ℕ → Step
renames from to answer = (Rename, answer, from, to)

abbrev pub removes : List ℕ → Step
removes path answer = (Remove, answer, path, [])

abbrev pub lists : List ℕ → Step
lists folder answer = (ListFolder, answer, folder, [])

-- the open file gave these bytes; none are its end
abbrev pub gives : List ℕ → Call
gives bytes = (Read, Done, [], bytes)

abbrev pub gives_nothing : Call
gives_nothing = (Read, Failed, [], [])

-- the open folder told names, each ended by a 0; no bytes are its end
abbrev pub tells : List ℕ → Call
tells bytes = (Next, Done, [], bytes)

abbrev pub tells_nothing : Call
tells_nothing = (Next, Failed, [], [])

-- the answer that a result stands for
abbrev pub done_or_failed : {T E : Type 0} → Result T E → Answer
done_or_failed (Ok value) = Done
done_or_failed (Err error) = Failed

abbrev pub found_or_failed : {T E : Type 0} → Result (Option T) E → Answer
found_or_failed (Ok (Some value)) = Done
found_or_failed (Ok None) = Missing
found_or_failed (Err error) = Failed

abbrev pub made_or_taken : {T E : Type 0} → Result (Option T) E → Answer
made_or_taken (Ok (Some value)) = Done
made_or_taken (Ok None) = Taken
made_or_taken (Err error) = Failed

-- the call of a read that put so many bytes at the front of the buffer
abbrev pub read_call : {E : Type 0} → Result ℕ E → List ℕ → Call
read_call (Ok count) buffer = gives (take count buffer)
read_call (Err error) buffer = gives_nothing

-- the same of an open folder
abbrev pub tell_call : {E : Type 0} → Result ℕ E → List ℕ → Call
tell_call (Ok count) buffer = tells (take count buffer)
tell_call (Err error) buffer = tells_nothing

-- the writer was handed the bytes, and took so many of the front
abbrev pub put_call : {E : Type 0} → Result ℕ E → List ℕ → Call
put_call (Ok count) bytes = writes (take count bytes) Done
put_call (Err error) bytes = writes [] Failed

-- The writer took so many bytes of the front, and handed on what it held back. Else it failed at one of both, or took nothing.
abbrev pub SinkWritten : {E : Type 0} → List ℕ → Result ℕ E → History → History → Type 0
SinkWritten bytes (Ok count) before now = now ≡ flushes Done ∷ writes (take count bytes) Done ∷ before
SinkWritten bytes (Err error) before now =
    (now ≡ writes [] Failed ∷ before)
    ⊎ (now ≡ writes [] Done ∷ before)
    ⊎ ((count : ℕ) × (now ≡ flushes Failed ∷ writes (take count bytes) Done ∷ before))

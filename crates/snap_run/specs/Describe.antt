-- What a status says in words, and its number.
use Rattle.std.specs.Prelude.{ℕ, List, ◌++◌, codes}
use Rattle.std.specs.Fmt.{decimal}
use Rattle.snap_run.specs.declared.status.RefusalKind.{RefusalKind}
use Rattle.snap_run.specs.declared.status.RefusalKind.TheVariants.{NameClash, DoctestNeedsName, DuplicateDiffers, NamesExhausted}
use Rattle.snap_run.specs.declared.status.Status.{Status}
use Rattle.snap_run.specs.declared.status.Status.TheVariants.{AllPassed, SomeFailed, BadWords, BadRequest, Refused, FileIo, ReadFault, WriteFault, OutOfMemory, InputTooLong}

abbrev pub kind_text : RefusalKind → List ℕ
kind_text NameClash = codes "NameClash"
kind_text DoctestNeedsName = codes "DoctestNeedsName"
kind_text DuplicateDiffers = codes "DuplicateDiffers"
kind_text NamesExhausted = codes "NamesExhausted"

-- what a status says in words
abbrev pub description : Status → List ℕ
description AllPassed = codes "snap: all passed"
description SomeFailed = codes "snap: some failed"
description BadWords = codes "snap: bad words"
description (BadRequest n) = codes "snap: document " ++ (decimal n ++ codes " is no request")
description (Refused n kind) = codes "snap: document " ++ (decimal n ++ (codes ": " ++ kind_text kind))
description (FileIo n path) = codes "snap: document " ++ (decimal n ++ (codes ": file fault at " ++ path))
description ReadFault = codes "snap: read fault"
description WriteFault = codes "snap: write fault"
description OutOfMemory = codes "snap: out of memory"
description InputTooLong = codes "snap: input too long"

-- the exit status
abbrev pub code_of : Status → ℕ
code_of AllPassed = 0
code_of SomeFailed = 1
code_of BadWords = 2
code_of (BadRequest n) = 3
code_of (Refused n kind) = 4
code_of (FileIo n path) = 5
code_of ReadFault = 6
code_of WriteFault = 7
code_of OutOfMemory = 8
code_of InputTooLong = 9

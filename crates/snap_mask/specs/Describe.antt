-- What a status says in words, and its number.
use Rattle.std.specs.Prelude.{ℕ, List, ◌++◌, codes}
use Rattle.std.specs.Fmt.{decimal}
use Rattle.snap_mask.specs.declared.status.MaskStatus.{MaskStatus}
use Rattle.snap_mask.specs.declared.status.MaskStatus.TheVariants.{Done, BadWords, BadLine, FloatLine, LineTooLong, ReadFault, WriteFault, OutOfMemory, JsonKey, InputTooLong}

-- what is said of a line
abbrev pub line_text : ℕ → List ℕ → List ℕ
line_text line what = codes "snap-mask: line " ++ (decimal line ++ what)

-- what a status says in words
abbrev pub description : MaskStatus → List ℕ
description Done = codes "snap-mask: done"
description BadWords = codes "snap-mask: bad words"
description (BadLine line) = line_text line (codes " is no JSON")
description (FloatLine line) = line_text line (codes " holds a number that is no whole number of 128 bits")
description (LineTooLong line) = line_text line (codes " is longer than 1,048,576 bytes")
description ReadFault = codes "snap-mask: read fault"
description WriteFault = codes "snap-mask: write fault"
description OutOfMemory = codes "snap-mask: out of memory"
description (JsonKey line) = line_text line (codes " has a key that JSON has no text for")
description InputTooLong = codes "snap-mask: input too long"

-- the exit status
abbrev pub code_of : MaskStatus → ℕ
code_of Done = 0
code_of BadWords = 2
code_of (BadLine line) = 3
code_of (FloatLine line) = 4
code_of (LineTooLong line) = 5
code_of ReadFault = 6
code_of WriteFault = 7
code_of OutOfMemory = 8
code_of (JsonKey line) = 9
code_of InputTooLong = 10

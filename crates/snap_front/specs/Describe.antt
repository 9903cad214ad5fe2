-- What a status says in words, and its number.
use Rattle.std.specs.Prelude.{ℕ, List, codes}
use Rattle.snap_front.specs.declared.front_error.FrontError.{FrontError}
use Rattle.snap_front.specs.declared.front_error.FrontError.TheVariants as e
use Rattle.snap_front.specs.declared.reply.Reply.{Reply}
use Rattle.snap_front.specs.declared.reply.Reply.TheVariants as r
use Rattle.snap_front.specs.declared.status.FrontStatus.{FrontStatus}
use Rattle.snap_front.specs.declared.status.FrontStatus.TheVariants.{Done, Failed, ReadFault, WriteFault, InputTooLong, OutOfMemory}

-- what is said of a refusal
abbrev pub reply_text : Reply → List ℕ
reply_text r.Done = codes "snap-front: done"
reply_text r.NotFront = codes "snap-front: the page has no header"
reply_text r.BadHeader = codes "snap-front: the header cannot be read"
reply_text r.NotMap = codes "snap-front: a header is a map"
reply_text (r.Tree part) = codes "snap-front: done"
reply_text r.Absent = codes "snap-front: nothing stands at that path"
reply_text r.NoParent = codes "snap-front: the path leads to no place"
reply_text r.Root = codes "snap-front: a header cannot be removed"
reply_text r.NoName = codes "snap-front: no page has that name"
reply_text (r.Printed text) = codes "snap-front: done"

-- what is said of an error
abbrev pub error_text : FrontError → List ℕ
error_text e.BadWords = codes "snap-front: bad words"
error_text e.NotText = codes "snap-front: the page is no text"
error_text (e.Refused reply) = reply_text reply
error_text e.OutOfMemory = codes "snap-front: out of memory"

-- what a status says in words
abbrev pub description : FrontStatus → List ℕ
description Done = codes "snap-front: done"
description (Failed error) = error_text error
description ReadFault = codes "snap-front: read fault"
description WriteFault = codes "snap-front: write fault"
description InputTooLong = codes "snap-front: input too long"
description OutOfMemory = codes "snap-front: out of memory"

-- the exit status
abbrev pub code_of : FrontStatus → ℕ
code_of Done = 0
code_of (Failed error) = 1
code_of ReadFault = 2
code_of WriteFault = 3
code_of InputTooLong = 4
code_of OutOfMemory = 5

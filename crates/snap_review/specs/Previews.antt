-- What a review would come to, before it changes anything.
use Rattle.std.specs.Prelude.{◌≡◌, Bool, true, false, Option, None, Some, Ok, Err}
use Rattle.snap_io.specs.Files.{Files}
use Rattle.snap_review.specs.Plans.{IsPlanOf}
use Rattle.snap_review.specs.declared.plan.Plan.{Plan}
use Rattle.snap_review.specs.declared.status.ReviewStatus.{ReviewStatus}
use Rattle.snap_review.specs.declared.status.ReviewStatus.TheVariants.{Done, BadWords, FileIo, WriteFault, OutOfMemory}
use Rattle.snap_review.specs.declared.words.Request.{Request}

-- a status that refuses a review: neither is it done, nor was it begun and cut off
abbrev pub is_refusal : ReviewStatus → Bool
is_refusal Done = false
is_refusal (FileIo path) = false
is_refusal WriteFault = false
is_refusal OutOfMemory = false
is_refusal other = true

-- what a request would come to over these files: done where there is a plan of it, and else the reason why there is none
abbrev pub PreviewBy : Request → ReviewStatus → Option Files → Type 0
PreviewBy request Done files = (plan : Plan) × IsPlanOf request files (Ok plan)
PreviewBy request status files = IsPlanOf request files (Err status)

-- what a review over these files would come to, before it changes anything: wrong words ask for no request, and are told as such
abbrev pub PreviewOf : Option Request → ReviewStatus → Option Files → Type 0
PreviewOf None status files = status ≡ BadWords
PreviewOf (Some request) status files = PreviewBy request status files

-- The plan of a request, by what waits.
use Rattle.std.specs.Prelude.{Option, Result}
use Rattle.snap_io.specs.Files.{Files}
use Rattle.snap_review.specs.FilePlanned.{FilePlanEnd}
use Rattle.snap_review.specs.Planned.{IsPlanBy}
use Rattle.snap_review.specs.declared.plan.Plan.{Plan}
use Rattle.snap_review.specs.declared.status.ReviewStatus.{ReviewStatus}
use Rattle.snap_review.specs.declared.words.Request.{Request}
use Rattle.snap_review.specs.declared.words.Target.{Target}
use Rattle.snap_review.specs.declared.words.Target.TheVariants.{Literals, File}

abbrev pub IsPlanFor : Target → Request → Option Files → Result Plan ReviewStatus → Type 0
IsPlanFor Literals request files result = IsPlanBy request.command request files result
IsPlanFor File request files result = FilePlanEnd request.command request files result

-- a plan of the request was made of what was found in these files, or there is none
abbrev pub IsPlanOf : Request → Option Files → Result Plan ReviewStatus → Type 0
IsPlanOf request files result = IsPlanFor request.target request files result

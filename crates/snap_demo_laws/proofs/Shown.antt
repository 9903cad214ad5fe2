-- What is shown of a demonstration that passes all.
use Rattle.snap_demo_laws.proofs.Prelude.{◌≡◌, subst, ℕ, List, Some, Files, AreAbsent, ShowsAll}
use Rattle.snap_demo.specs.declared.words.DemoWords.{DemoWords}
use Rattle.snap_io.specs.Outside.{Outside}
use Rattle.snap_run.specs.Demonstrations.{Demonstrates, IsDemonstrated}
use Rattle.snap_run.specs.Meaning.{a_demonstration, meaning}
use Rattle.snap_run.specs.declared.status.Status.TheVariants.{AllPassed}
use Rattle.snap_demo_laws.proofs.Fresh.{passes_all}
use Rattle.snap_demo_laws.proofs.Limits.{within_limits}

pub shows_all : (words : List (List ℕ)) (said : DemoWords) (files : Files) (before after : Outside) → meaning words ≡ a_demonstration said → before.files ≡ Some files → AreAbsent 0 said.count files
    → Demonstrates AllPassed said before after → ShowsAll said before after
shows_all words said files before after asked there absent shown =
    let limits = within_limits words said asked in
    let done = subst (λ f. IsDemonstrated said shown.0 f after.files) there shown.1.0 in
    (shown.0, (passes_all said shown.0 files after.files limits.seed limits.count absent done, shown.1.1))

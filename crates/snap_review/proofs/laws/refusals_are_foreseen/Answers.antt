use Rattle.snap_review.proofs.Foreseeing.{done_foreseen, refused_foreseen}
use Rattle.snap_review.proofs.laws.refusals_are_foreseen.Goals as goal

pub returns-clause-refused : goal.returns-clause-refused
returns-clause-refused c = λ asked status files after written said. refused_foreseen asked status files after written said

pub returns-clause-done : goal.returns-clause-done
returns-clause-done c = λ asked files after written said. done_foreseen asked files after written said

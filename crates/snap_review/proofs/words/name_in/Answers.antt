use Rattle.snap_review.proofs.Prelude.{[], ap, ◌∙◌, chars-nil, unwrap_or}
use Rattle.snap_review.proofs.words.name_in.Goals as goal

pub returns-in-None : goal.returns-in-None
returns-in-None c = chars-nil ∙ ap (λ name. unwrap_or name []) c.in-None.ensures

use Rattle.std.proofs.lemmas.Result.{IfOk-weaker}
use Rattle.snap_explain.proofs.Prelude.{ap, chars}
use Rattle.snap_explain.proofs.Pages.{why_of_header}
use Rattle.snap_explain.proofs.page.page_told.Goals as goal

pub returns-in-Refused : goal.returns-in-Refused
returns-in-Refused c = IfOk-weaker c.text_told.result _ _ (λ told h. why_of_header c.args.words.now _ _ told.why (ap chars c.in-Ok.ensures.cases.0) h) c.text_told.ensures

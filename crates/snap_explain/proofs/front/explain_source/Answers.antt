use Rattle.snap_explain.proofs.Prelude.{◌∙◌, subst}
use Rattle.snap_explain.specs.Pages.{PageLeaves}
use Rattle.snap_explain.proofs.Pages.{never_bad, page_length, page_files, page_reads}
use Rattle.snap_explain.proofs.front.explain_source.Goals as goal

pub returns-in-Ok-clause-words : goal.returns-in-Ok-clause-words
returns-in-Ok-clause-words g c = never_bad _ c.explain_page.ensures.found

pub returns-in-Ok-clause-leaves : goal.returns-in-Ok-clause-leaves
returns-in-Ok-clause-leaves g c = λ input w e f.
    subst (λ i. PageLeaves c.args.words.now c.explain_page.result i w (g.K.Sink.written c.explain_page.new.sink))
    (c.deref.ensures.value ∙ c.in-Ok.ensures.all input e) (c.explain_page.ensures.leaves w f)

pub returns-in-Ok-clause-length : goal.returns-in-Ok-clause-length
returns-in-Ok-clause-length g c = page_length _ c.in-Ok.document.items _ _ c.in-Ok.ensures.all c.in-Ok.ensures.end c.in-Ok.ensures.within c.explain_page.ensures.found

pub returns-in-Ok-clause-read : goal.returns-in-Ok-clause-read
returns-in-Ok-clause-read g c = page_reads _ _ _ c.in-Ok.ensures.cause c.explain_page.ensures.found

pub returns-in-Ok-clause-file : goal.returns-in-Ok-clause-file
returns-in-Ok-clause-file g c = page_files c.explain_page.result c.explain_page.ensures.found

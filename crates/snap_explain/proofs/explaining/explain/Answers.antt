use Rattle.snap_explain.proofs.Prelude.{◌≡◌, ◌∙◌, sym, subst, refl, None, Some, some_same}
use Rattle.snap_explain.specs.Pages.{FrontRun}
use Rattle.snap_explain.proofs.Asking.{front_no_stream, front_no_rules, front_no_text, cause_front, one_asked}
use Rattle.snap_explain.proofs.explaining.explain.Goals as goal

pub returns-in-Some-clause-words : goal.returns-in-Some-clause-words
returns-in-Some-clause-words g c = cause_front _ _ _ c.in-Some.ensures c.explain_front.ensures.words

pub returns-in-Some-clause-told : goal.returns-in-Some-clause-told
returns-in-Some-clause-told g c = λ text asked. absurd (front_no_text c.args.words.now _ text c.in-Some.ensures asked)

pub returns-in-Some-clause-untouched : goal.returns-in-Some-clause-untouched
returns-in-Some-clause-untouched g c = λ text asked. absurd (front_no_text c.args.words.now _ text c.in-Some.ensures asked)

pub returns-in-Some-clause-refused : goal.returns-in-Some-clause-refused
returns-in-Some-clause-refused g c = λ bad. absurd (c.explain_front.ensures.words bad)

pub returns-in-Some-clause-front : goal.returns-in-Some-clause-front
returns-in-Some-clause-front g c = λ rest is.
    subst (λ rs. FrontRun rs c.explain_front.result (g.S.Source.left c.args.source.now) (g.S.Source.left c.explain_front.new.source)
    (g.K.Sink.written c.args.sink.now) (g.K.Sink.written c.explain_front.new.sink))
    (some_same c.in-Some.rest.now rest (sym c.in-Some.ensures ∙ is)) c.explain_front.ensures.run

pub returns-in-Some-clause-stream : goal.returns-in-Some-clause-stream
returns-in-Some-clause-stream g c = λ said asks. absurd (one_asked c.args.words.now said asks (front_no_stream c.args.words.now _ c.in-Some.ensures))

pub returns-in-Some-clause-leaves : goal.returns-in-Some-clause-leaves
returns-in-Some-clause-leaves g c = λ rules none spelled. absurd (front_no_rules c.args.words.now _ rules c.in-Some.ensures spelled)

pub returns-in-Some-clause-length : goal.returns-in-Some-clause-length
returns-in-Some-clause-length g c = λ asks none. let clash : None ≡ Some c.in-Some.rest.now = sym none ∙ c.in-Some.ensures in cc

pub returns-in-Some-clause-file : goal.returns-in-Some-clause-file
returns-in-Some-clause-file g c = rw c.explain_front.ensures.file refl

pub returns-in-None-clause-words : goal.returns-in-None-clause-words
returns-in-None-clause-words g c = c.explain_others.ensures.words c.in-None.ensures

pub returns-in-None-clause-front : goal.returns-in-None-clause-front
returns-in-None-clause-front g c = λ rest is. let clash : None ≡ Some rest = sym c.in-None.ensures ∙ is in cc

pub returns-in-None-clause-length : goal.returns-in-None-clause-length
returns-in-None-clause-length g c = λ asks _. c.explain_others.ensures.length asks

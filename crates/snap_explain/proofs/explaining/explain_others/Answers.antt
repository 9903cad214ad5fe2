use Rattle.snap_explain.proofs.Prelude.{◌∙◌, sym, some_same, subst, refl}
use Rattle.snap_explain.specs.Streams.{StreamRun}
use Rattle.snap_explain.proofs.Endings.{told_reads_nothing}
use Rattle.snap_explain.proofs.Asking.{no_rules, no_text, cause_stream, cause_text, cause_rules, one_asked}
use Rattle.snap_explain.proofs.explaining.explain_others.Goals as goal

pub returns-in-Some-clause-words : goal.returns-in-Some-clause-words
returns-in-Some-clause-words g c = λ _. cause_stream _ _ _ c.in-Some.ensures c.explain_stream.ensures.words

pub returns-in-Some-clause-told : goal.returns-in-Some-clause-told
returns-in-Some-clause-told g c = λ text asked. absurd (no_text c.args.words.now _ text c.in-Some.ensures asked)

pub returns-in-Some-clause-untouched : goal.returns-in-Some-clause-untouched
returns-in-Some-clause-untouched g c = λ text asked. absurd (no_text c.args.words.now _ text c.in-Some.ensures asked)

pub returns-in-Some-clause-refused : goal.returns-in-Some-clause-refused
returns-in-Some-clause-refused g c = λ bad. absurd (c.explain_stream.ensures.words bad)

pub returns-in-Some-clause-stream : goal.returns-in-Some-clause-stream
returns-in-Some-clause-stream g c = λ said asks.
    subst (λ words. StreamRun words (g.F.Store.files c.args.store.now) c.explain_stream.result (g.S.Source.left c.args.source.now) (g.S.Source.left c.explain_stream.new.source)
    (g.K.Sink.written c.args.sink.now) (g.K.Sink.written c.explain_stream.new.sink))
    (some_same _ said (sym c.in-Some.ensures ∙ asks))
    (record { leaves = c.explain_stream.ensures.leaves; taken = c.explain_stream.ensures.length })

pub returns-in-Some-clause-leaves : goal.returns-in-Some-clause-leaves
returns-in-Some-clause-leaves g c = λ rules none spelled. absurd (no_rules c.args.words.now _ rules c.in-Some.ensures spelled)

pub returns-in-Some-clause-length : goal.returns-in-Some-clause-length
returns-in-Some-clause-length g c = λ other. absurd (one_asked c.args.words.now _ c.in-Some.ensures other)

pub returns-in-Some-text_in-clause-words : goal.returns-in-Some-text_in-clause-words
returns-in-Some-text_in-clause-words g c = λ _. cause_text _ c.in-Some-text_in.text.now _ _ _ c.in-Some-text_in.ensures c.tell.ensures.told

pub returns-in-Some-text_in-clause-stream : goal.returns-in-Some-text_in-clause-stream
returns-in-Some-text_in-clause-stream g c = λ said asks. absurd (one_asked c.args.words.now said asks c.in_default.ensures)

pub returns-in-Some-text_in-clause-length : goal.returns-in-Some-text_in-clause-length
returns-in-Some-text_in-clause-length g c = λ other. told_reads_nothing c.in-Some-text_in.text.now c.tell.result _ _ _ c.tell.ensures.told

pub returns-in-None-clause-words : goal.returns-in-None-clause-words
returns-in-None-clause-words g c = λ none. cause_rules _ _ c.in_default.ensures none c.in-None.ensures c.explain_lines.ensures.words

pub returns-in-None-clause-stream : goal.returns-in-None-clause-stream
returns-in-None-clause-stream g c = λ said asks. absurd (one_asked c.args.words.now said asks c.in_default.ensures)

pub returns-in-None-clause-file : goal.returns-in-None-clause-file
returns-in-None-clause-file g c = rw c.explain_lines.ensures.file refl

use Rattle.snap_explain.proofs.Prelude.{◌∙◌, ap, inl, subst, Some}
use Rattle.snap_explain.specs.Program.{Ends}
use Rattle.snap_explain.proofs.command.program.Goals as goal

pub returns-in-Ok-Some-clause-run : goal.returns-in-Ok-Some-clause-run
returns-in-Ok-Some-clause-run g c =
    let words = rw c.in-Ok-Some.field-0-is at c.in-Ok-Some.ensures.given in
    subst (λ given. Ends c.code_by_words.result given (g.F.Store.files c.args.store.now) (g.S.Source.left c.args.source.now) (g.S.Source.left c.code_by_words.new.source)
    (g.K.Sink.written c.args.sink.now) (g.K.Sink.written c.code_by_words.new.sink))
    (ap Some c.deref.ensures.value ∙ words)
    (inl c.code_by_words.ensures.run)

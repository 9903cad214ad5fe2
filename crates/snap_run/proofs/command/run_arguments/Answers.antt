use Rattle.snap_run.proofs.Prelude.{◌∙◌, ap, Some, inl, subst, IsRunOf, outside}
use Rattle.snap_run.specs.Meaning.{touches_files}
use Rattle.snap_run.specs.Program.{words_or_none}
use Rattle.snap_run.specs.declared.status.Status.TheVariants.{BadWords}
use Rattle.snap_run.proofs.Meanings.{no_texts}
use Rattle.snap_run.proofs.command.run_arguments.Goals as goal

pub returns-in-Ok-Some : goal.returns-in-Ok-Some
returns-in-Ok-Some g c =
    let words = rw c.in-Ok-Some.field-0-is at c.in-Ok-Some.ensures.given in
    let e = c.run.ensures in
    inl (subst (λ given. IsRunOf (words_or_none given) c.run.result (g.S.Source.left c.args.source.now) (outside (g.F.Store.files c.args.store.now) (g.K.Sink.written c.args.sink.now))
    (outside (g.F.Store.files c.run.new.store) (g.K.Sink.written c.run.new.sink)))
    (ap Some c.deref.ensures.value ∙ words)
    (record {
      words_cause = e.words;
      told = λ text asked. (ap g.F.Store.files (e.untouched (ap touches_files asked)), e.told text asked);
      runs = e.runs;
      demonstrated = e.demonstrated;
      unchanged = λ none. (ap g.F.Store.files (e.untouched (ap touches_files none)), ap g.K.Sink.written (e.unsaid none));
    }))

pub returns-in-Ok-None : goal.returns-in-Ok-None
returns-in-Ok-None g c =
    let none = rw c.in-Ok-None.field-0-is at c.in-Ok-None.ensures.given in
    let before = outside (g.F.Store.files c.args.store.now) (g.K.Sink.written c.args.sink.now) in
    inl (subst (λ given. IsRunOf (words_or_none given) BadWords (g.S.Source.left c.args.source.now) before before) none
    (no_texts (g.S.Source.left c.args.source.now) before))

use Rattle.snap_review.proofs.Prelude.{◌∙◌, ap, inl, subst, Some}
use Rattle.snap_review.specs.Program.{RunOfArguments}
use Rattle.snap_review.proofs.invocation.run_arguments.Goals as goal

pub returns-in-Ok-Some : goal.returns-in-Ok-Some
returns-in-Ok-Some g c =
    let words = rw c.in-Ok-Some.field-0-is at c.in-Ok-Some.ensures.given in
    subst (λ given. RunOfArguments given c.review_program.result (g.S.Store.files c.args.store.now) (g.S.Store.files c.review_program.new.store)
    (g.K.Sink.written c.args.sink.now) (g.K.Sink.written c.review_program.new.sink))
    (ap Some c.as_slice.ensures.value ∙ words)
    (inl (record {
      told = λ asked e. (c.review_program.ensures.told asked e, ap g.S.Store.files (c.review_program.ensures.untouched asked e));
      end = c.review_program.ensures.end;
    }))

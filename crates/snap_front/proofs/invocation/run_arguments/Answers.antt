use Rattle.snap_front.proofs.Prelude.{◌∙◌, ap, inl, subst, Some}
use Rattle.snap_front.specs.Program.{RunOfArguments}
use Rattle.snap_front.proofs.invocation.run_arguments.Goals as goal

pub returns-in-Ok-Some : goal.returns-in-Ok-Some
returns-in-Ok-Some g c =
    let words = rw c.in-Ok-Some.field-0-is at c.in-Ok-Some.ensures.given in
    subst (λ given. RunOfArguments given c.front_program.result (g.S.Source.left c.args.source.now) (g.S.Source.left c.front_program.new.source)
    (g.K.Sink.written c.args.sink.now) (g.K.Sink.written c.front_program.new.sink))
    (ap Some c.deref.ensures.value ∙ words)
    (inl (record {
      told = λ asked e. (c.front_program.ensures.told asked e, ap g.S.Source.left (c.front_program.ensures.untouched asked e));
      leaves = c.front_program.ensures.leaves;
      taken = c.front_program.ensures.length;
      end = c.front_program.ensures.end;
    }))

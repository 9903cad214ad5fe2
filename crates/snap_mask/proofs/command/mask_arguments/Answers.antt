use Rattle.snap_mask.proofs.Prelude.{◌∙◌, ap, inl, subst, Some}
use Rattle.snap_mask.specs.Program.{RunOfArguments}
use Rattle.snap_mask.proofs.command.mask_arguments.Goals as goal

pub returns-in-Ok-Some : goal.returns-in-Ok-Some
returns-in-Ok-Some g c =
    let words = rw c.in-Ok-Some.field-0-is at c.in-Ok-Some.ensures.given in
    subst (λ given. RunOfArguments given c.mask.result (g.S.Source.left c.args.source.now) (g.S.Source.left c.mask.new.source)
    (g.K.Sink.written c.args.sink.now) (g.K.Sink.written c.mask.new.sink))
    (ap Some c.deref.ensures.value ∙ words)
    (inl (record { words_cause = c.mask.ensures.words; told = c.mask.ensures.told; leaves = c.mask.ensures.leaves }))

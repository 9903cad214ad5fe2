use Rattle.snap_explain.proofs.Documents.{refusal_said, said_writes, said_files}
use Rattle.snap_run.specs.Runner.{words_of}
use Rattle.snap_explain.specs.Streams.{in_form}
use Rattle.snap_explain.proofs.Foretold.{of_file}
use Rattle.snap_explain.proofs.Prelude.{refl}
use Rattle.snap_explain.proofs.telling.tell_document.Goals as goal

pub tell_request-requires : goal.tell_request-requires
tell_request-requires g c = of_file c.args.document.now _ (rw c.in-Ok.is at c.in_ok-request.ensures)

pub returns-in-Ok-clause-said : goal.returns-in-Ok-clause-said
returns-in-Ok-clause-said g c = λ w e. c.tell_request.ensures.said w (rw c.in-Ok.is at c.in_ok-request.ensures) e

pub returns-in-Err-clause-said : goal.returns-in-Err-clause-said
returns-in-Err-clause-said g c = λ w e.
    rw c.whether_said.ensures (refusal_said c.say_refusal.result (in_form c.args.form (words_of c.args.runner.now)) _ _ _ _ w _ (c.say_refusal.ensures.said w e (rw c.in-Err.is at c.in_ok-request.ensures)))

pub returns-in-Err-clause-write : goal.returns-in-Err-clause-write
returns-in-Err-clause-write g c = rw c.whether_said.ensures (said_writes c.say_refusal.result _ _ c.say_refusal.ensures.cause)

pub returns-in-Err-clause-file : goal.returns-in-Err-clause-file
returns-in-Err-clause-file g c = rw c.whether_said.ensures (said_files c.say_refusal.result _ _ refl)

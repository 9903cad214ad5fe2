use Rattle.std.proofs.lemmas.Result.{IfOk-weaker}
use Rattle.snap_front.proofs.OneAnswer.{one-answer}
use Rattle.snap_front.proofs.answering.front.Goals as goal

pub returns-in-Some-clause-one : goal.returns-in-Some-clause-one
returns-in-Some-clause-one c =
    IfOk-weaker c.answer_of.result _ _ (λ blob given other reads value answer. one-answer c.args.words.now c.args.document.now other blob reads value answer given)
    (c.answer_of.ensures.ok c.args.words.now (rw c.in-Some.is at c.in_ok-request.ensures))

pub returns-in-Some-clause-err : goal.returns-in-Some-clause-err
returns-in-Some-clause-err c = c.answer_of.ensures.err c.args.words.now (rw c.in-Some.is at c.in_ok-request.ensures)

use Rattle.snap_front.proofs.Prelude.{chars, tree, steps_of}
use Rattle.std.proofs.lemmas.Result.{IfOk-weaker}
use Rattle.snap_front.specs.Commands.{reply_of}
use Rattle.snap_front.specs.Stored.{docs_of}
use Rattle.snap_front.proofs.Unprinted.{put-again-none, got-again, set-again, removed-again}
use Rattle.snap_front.proofs.store.FrontStore.apply.Goals as goal

pub returns-in-Put-clause-again : goal.returns-in-Put-clause-again
returns-in-Put-clause-again c = λ maps. IfOk-weaker c.put.result _ _ (λ reply h. put-again-none (docs_of c.args.self.now) (docs_of c.put.new.self) c.in-Put.name (chars c.as_str.result.now) (reply_of reply) h) c.put.ensures.comes

pub returns-in-Get-clause-again : goal.returns-in-Get-clause-again
returns-in-Get-clause-again c = λ maps. IfOk-weaker c.get.result _ _ (λ reply h. got-again (docs_of c.args.self.now) _ _ _ (reply_of reply) h) c.get.ensures

pub returns-in-Set-clause-again : goal.returns-in-Set-clause-again
returns-in-Set-clause-again c = λ maps. IfOk-weaker c.set.result _ _ (λ reply h. set-again (docs_of c.args.self.now) (docs_of c.set.new.self) c.in-Set.name (steps_of c.in-Set.path) (tree c.in-Set.value) (reply_of reply) h) c.set.ensures.comes

pub returns-in-Remove-clause-again : goal.returns-in-Remove-clause-again
returns-in-Remove-clause-again c = λ maps. removed-again (docs_of c.args.self.now) _ _ _ (reply_of c.remove.result) c.remove.ensures

use Rattle.snap_run.proofs.Prelude.{outside}
use Rattle.snap_run.specs.Answers.{words_at}
use Rattle.snap_run.proofs.Meanings.{runs_said}
use Rattle.snap_run.proofs.RunEnds.{complete}
use Rattle.snap_run.proofs.RunKept.{run_keeps}
use Rattle.snap_run.proofs.running.run.Goals as goal

pub returns-in-Some-said_in-clause-kept : goal.returns-in-Some-said_in-clause-kept
returns-in-Some-said_in-clause-kept g c = λ said input is told.
    let a = words_at c.in-Some-said_in.said.workspace.now c.in-Some-said_in.said.update c.in-Some-said_in.said.flags in
    let x = outside (g.F.Store.files c.args.store.now) (g.K.Sink.written c.args.sink.now) in
    let y = outside (g.F.Store.files c.run_said.new.store) (g.K.Sink.written c.run_said.new.sink) in
    run_keeps c.run_said.result said _ input x y (runs_said c.args.words.now a said c.run_said.result _ x y c.in_default.ensures c.in-Some-said_in.ensures is c.run_said.ensures.runs) told

pub returns-in-Some-said_in-clause-complete : goal.returns-in-Some-said_in-clause-complete
returns-in-Some-said_in-clause-complete g c = λ said input is told spelled within source sink store.
    let a = words_at c.in-Some-said_in.said.workspace.now c.in-Some-said_in.said.update c.in-Some-said_in.said.flags in
    let x = outside (g.F.Store.files c.args.store.now) (g.K.Sink.written c.args.sink.now) in
    let y = outside (g.F.Store.files c.run_said.new.store) (g.K.Sink.written c.run_said.new.sink) in
    complete c.run_said.result said _ _ _ _ _ _ _ _ _ x y (runs_said c.args.words.now a said c.run_said.result _ x y c.in_default.ensures c.in-Some-said_in.ensures is c.run_said.ensures.runs)
    c.run_said.ensures.length c.run_said.ensures.read c.run_said.ensures.write c.run_said.ensures.file input told spelled within source sink store

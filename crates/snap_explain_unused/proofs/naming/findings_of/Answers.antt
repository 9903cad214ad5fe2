use Rattle.snap_explain_unused.proofs.Prelude.{subst, FindsLines, run_in}
use Rattle.std.specs.Prelude.{IfOk}
use Rattle.snap_explain_unused.proofs.NamedFiles.{found_of, stops_of}
use Rattle.snap_explain_unused.proofs.naming.findings_of.Goals as goal

pub returns-clause-found : goal.returns-clause-found
returns-clause-found g c =
    found_of c.findings_beside.result (run_in c.args.workspace.now) (g.F.Store.files c.args.store.now) c.args.input.now c.ask_in.new.asked.keys c.in_ok-ask_in.ensures.asked
    (subst (λ fs. IfOk c.findings_beside.result (λ findings. FindsLines c.ask_in.new.asked.keys fs findings)) c.in_ok-ask_in.ensures.same c.findings_beside.ensures.found)

pub returns-clause-stopped : goal.returns-clause-stopped
returns-clause-stopped g c = stops_of c.findings_beside.result (run_in c.args.workspace.now) c.args.input.now c.findings_beside.ensures.taken

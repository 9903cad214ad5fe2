use Rattle.snap_io.proofs.Prelude.{subst, AreNames}
use Rattle.snap_io.proofs.Folders.{name_next, no_next, all_named}
use Rattle.snap_io.proofs.files.MemoryFiles.names_in.Goals as goal

pub loop-path-preserved-in_ok-push : goal.loop-path-preserved-in_ok-push
loop-path-preserved-in_ok-push c =
    name_next _ _ _ _ _ _ _ _ _ _ _ c.in-Some.ensures.steps c.as_str.ensures c.as_str-in-loop-path.ensures c.in-Some-name_behind.ensures c.in_ok-from_str.ensures c.in_ok-push.ensures.ok c.loop-path.invariant

pub loop-path-preserved : goal.loop-path-preserved
loop-path-preserved c = no_next _ _ _ _ _ _ _ _ c.in-Some.ensures.steps c.as_str.ensures c.as_str-in-loop-path.ensures c.in_default.ensures c.loop-path.invariant

pub returns : goal.returns
returns c =
    let iterated = c.into_iter-path-iterator.ensures.into_iter_gives in
    let listed = all_named c.self.inside.tree.entries _ _ c.args.folder.now c.in_ok-front.front c.loop-path.names iterated.5 c.in_ok-front.ensures iterated.0 c.in-None.ensures.steps.0 c.loop-path.invariant in
    subst (λ m. AreNames m c.args.folder.now c.loop-path.names) c.self.view_is listed

use Rattle.std.proofs.Common.{rules}
use Rattle.snap_explain_unused.proofs.Prelude.{◌≡◌, [], ◌∷◌, ◌∙◌, sym, refl, subst, LooksBeside}
use Rattle.snap_explain_unused.proofs.LeftFiles.{LookedSoFar, looked_begin, looked_on, looked_end}
use Rattle.snap_explain_unused.proofs.looking.find_unused.Goals as goal

pub loop-path-init : goal.loop-path-init
loop-path-init g c =
    let all : c.into_iter-path-iterator.result ≡ c.args.asked.now.keys = search rules in
    record {
      so_far = subst (λ it. LookedSoFar c.args.asked.now.keys it c.new-folders.result.keys (g.F.Store.files c.args.store.now) c.args.unused.now.keys) (sym all)
          (looked_begin _ _ _ _ c.new-folders.ensures.empty c.requires);
      count = refl;
      files = refl;
    }

pub loop-path-preserved : goal.loop-path-preserved
loop-path-preserved g c =
    let first : c.loop-path.path-iterator ≡ c.in-Some.path.now ∷ c.next.new.self = search rules in
    record {
      so_far = looked_on c.args.asked.now.keys _ c.next.new.self _ _ c.in-Some.path.now _ _ _ first c.loop-path.invariant.so_far
          (subst (λ fs. LooksBeside c.args.asked.now.keys c.in-Some.path.now fs c.loop-path.folders.keys c.look_beside.new.folders.keys c.loop-path.unused.keys c.look_beside.new.unused.keys) c.loop-path.invariant.files
          c.in_ok-look_beside.ensures.looked);
      count = c.in_ok-look_beside.ensures.cause ∙ c.loop-path.invariant.count;
      files = c.in_ok-look_beside.ensures.same ∙ c.loop-path.invariant.files;
    }

pub returns-clause-found : goal.returns-clause-found
returns-clause-found g c =
    let none : c.loop-path.path-iterator ≡ [] = search rules in
    looked_end c.args.asked.now.keys _ _ _ _ none c.loop-path.invariant.so_far

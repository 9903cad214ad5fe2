use Rattle.snap_assert.proofs.Prelude.{◌∙◌, sym, ap, is_among}
use Rattle.snap_assert.proofs.Covering.{strays_kept, all_kept}
use Rattle.snap_assert.proofs.listed.Listed.stray_paths.Goals as goal

pub returns-clause-strays : goal.returns-clause-strays
returns-clause-strays g c = λ file folder m told covered.
    strays_kept c.args.path.now m _ _ _ file (ap (is_among c.list.new.self.folders.keys) (sym folder) ∙ c.in_ok-list.ensures.known)
    (c.in_ok-list.ensures.covered m told covered) c.in_ok-beside.ensures.strays c.in_ok-beside.ensures.ordered

pub returns-clause-all : goal.returns-clause-all
returns-clause-all g c = all_kept c.args.path.now _ _ c.in_ok-beside.ensures.strays

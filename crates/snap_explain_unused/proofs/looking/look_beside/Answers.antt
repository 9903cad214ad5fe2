use Rattle.snap_explain_unused.proofs.Prelude.{◌≡◌, ◌||◌, ◌∙◌, sym, ap, subst, List, ℕ, bytes_eq, is_among, parent_of, LooksInto}
use Rattle.snap_explain_unused.proofs.LeftFiles.{folder_found, folder_known}
use Rattle.snap_explain_unused.proofs.looking.look_beside.Goals as goal

pub returns-then-holds-clause-looked : goal.returns-then-holds-clause-looked
returns-then-holds-clause-looked g c =
    folder_known _ c.args.path.now _ c.args.folders.now.keys _ (ap (is_among c.args.folders.now.keys) (sym c.in_ok-folder.ensures) ∙ sym c.holds.ensures ∙ c.if-holds.true)

pub returns-clause-looked : goal.returns-clause-looked
returns-clause-looked g c =
    let grows : (d : List ℕ) → is_among c.add.new.paths.keys d ≡ (bytes_eq (parent_of c.args.path.now) d || is_among c.args.folders.now.keys d) = λ d.
    c.in_ok-add.ensures d ∙ ap (λ x. bytes_eq x d || is_among c.args.folders.now.keys d) c.in_ok-folder.ensures in
    record {
      grows = grows;
      found = folder_found _ c.args.path.now _ _ _ _ _ grows
          (subst (λ d. LooksInto c.args.asked.now.keys d (g.F.Store.files c.args.store.now) c.args.unused.now.keys c.look_into.new.unused.keys) c.in_ok-folder.ensures c.in_ok-look_into.ensures.looked);
    }

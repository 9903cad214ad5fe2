use Rattle.snap_assert.proofs.Prelude.{◌∙◌, ◌++◌, refl, ap, codes, parent_of, settings_of, place_of}
use Rattle.snap_assert_place.proofs.FilePaths.{path_of-file}
use Rattle.snap_assert_place.specs.SnapshotPath.{new_meta}
use Rattle.snap_assert.proofs.Printing.{view_is}
use Rattle.snap_assert.specs.Steps.{asked_for}
use Rattle.snap_assert.proofs.prepare.prepare.Goals as goal

pub returns : goal.returns
returns g c = λ subject held.
    let settings = settings_of c.args.settings.now in
    let place = place_of c.args.place.now in
    let contents = c.in_ok-snapshot.ensures.contents ∙ held.contents in
    let metadata = c.in_ok-snapshot.ensures.metadata ∙ ap (λ k. record (new_meta settings place) { kind = k }) held.kind in
    record {
      path = c.in_ok-path.ensures;
      file_path = path_of-file settings place c.args.name.now;
      folder = c.in_ok-folder.ensures ∙ ap parent_of c.in_ok-path.ensures;
      pending = c.in_ok-push_ascii.ensures.ok ∙ ap (λ t. t ++ codes ".new") (c.in_ok-pending.ensures ∙ c.in_ok-path.ensures);
      contents = contents;
      body = held.body;
      metadata = metadata;
      module_name = c.in_ok-snapshot.ensures.module_name;
      name = c.in_ok-snapshot.ensures.name;
      view = view_is c.in_ok-snapshot.snapshot (asked_for settings place c.args.name.now subject) c.in_ok-snapshot.ensures.module_name c.in_ok-snapshot.ensures.name metadata contents c.in_ok-snapshot.ensures.legacy c.in_ok-snapshot.ensures.number;
      kind = refl;
    }

use Rattle.snap_pending.proofs.Prelude.{refl, codes, last_value, meta_of}
use Rattle.std.proofs.lemmas.Result.{err_from_is_err_and}
use Rattle.snap_pending.specs.Told.LacksInHeld.{lacks_metadata, lacks_text}
use Rattle.snap_pending.proofs.Parts.{metadata_refused, contents_refused, no_metadata_there, no_contents_there, metadata_there, contents_there, named_end}
use Rattle.snap_pending.proofs.snapshots.snapshot_of_pairs.Goals as goal

pub returns-in_err-metadata : goal.returns-in_err-metadata
returns-in_err-metadata c =
    let told = err_from_is_err_and c.from_residual.result c.from_residual.ensures.1 in
    rw (told.1, told.2) (λ entries made. metadata_refused entries (last_value (codes "metadata") entries) c.in_err-metadata.field-0.0 refl (c.in_err-metadata.ensures entries made))

pub returns-in_err-contents : goal.returns-in_err-contents
returns-in_err-contents c =
    let told = err_from_is_err_and c.from_residual-in_err-contents.result c.from_residual-in_err-contents.ensures.1 in
    rw (told.1, told.2) (λ entries made. contents_refused entries (last_value (codes "snapshot") entries) c.in_err-contents.field-0.0 refl (c.in_err-contents.ensures entries made))

pub returns-in_default : goal.returns-in_default
returns-in_default c = λ entries made.
    lacks_metadata entries refl (no_metadata_there (last_value (codes "metadata") entries) c.in_ok-metadata.metadata c.in_default.is (c.in_ok-metadata.ensures entries made))

pub returns-in_default-contents : goal.returns-in_default-contents
returns-in_default-contents c = λ entries made.
    lacks_text entries refl (no_contents_there (last_value (codes "snapshot") entries) c.in_ok-contents.contents c.in_default-contents.is (c.in_ok-contents.ensures entries made))

pub returns : goal.returns
returns c = λ entries made.
    named_end entries (meta_of c.in-Some.metadata) c.in-Some-contents.contents c.named_snapshot.result
    (metadata_there (last_value (codes "metadata") entries) c.in_ok-metadata.metadata c.in-Some.metadata c.in-Some.is (c.in_ok-metadata.ensures entries made))
    (contents_there (last_value (codes "snapshot") entries) c.in_ok-contents.contents c.in-Some-contents.contents c.in-Some-contents.is (c.in_ok-contents.ensures entries made))
    (c.named_snapshot.ensures entries made)

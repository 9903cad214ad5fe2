use Rattle.snap_assert.proofs.Prelude.{refl}
use Rattle.snap_assert.proofs.ApprovedPaths.{unchanged_beside, unchanged_without, unwritten_in_place}
use Rattle.snap_assert.proofs.laws.only_in_place_is_the_approved_file_written.Goals as goal

pub returns : goal.returns
returns c = record { approved = λ path. (unchanged_beside path, unchanged_without path); waiting = λ path. (unwritten_in_place path, refl) }

use Rattle.snap_assert.proofs.OpenBlocks.{none_open, first_kept, agreeing, differing}
use Rattle.snap_assert.proofs.laws.a_block_keeps_the_first.Goals as goal

pub returns : goal.returns
returns c = record { none_open = none_open; first = first_kept; agrees = agreeing; differs = differing }

use Rattle.snap_io.proofs.Prelude.{◌∙◌, refl}
use Rattle.snap_io.proofs.Asking.{gave_none, gave_more}
use Rattle.snap_io.proofs.reading.read_pieces.Goals as goal

pub loop-disk-init : goal.loop-disk-init
loop-disk-init g c = record { gave = gave_none _ _ c.new-bytes.ensures.items; room = refl }

pub loop-disk-preserved : goal.loop-disk-preserved
loop-disk-preserved g c = record {
  gave = gave_more _ _ _ _ _ _ c.loop-disk.invariant.gave c.in-Ok.ensures.noted c.in_ok-extend_from_slice.ensures.items;
  room = c.read.auto.buffer ∙ c.loop-disk.invariant.room;
}

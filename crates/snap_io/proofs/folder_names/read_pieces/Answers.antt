use Rattle.snap_io.proofs.Prelude.{refl, ap, ◌∙◌, length, inl, inr, arith}
use Rattle.snap_io.proofs.Asking.{told_none, told_more}
use Rattle.snap_io.proofs.folder_names.read_pieces.Goals as goal

pub loop-init : goal.loop-init
loop-init g c = record { told = told_none _ _ c.new-names.ensures; within = omega (arith, ap length c.new-names.ensures); turns = omega arith; room = refl }

pub returns-then-len-most : goal.returns-then-len-most
returns-then-len-most g c =
    let told = told_more _ _ _ _ _ _ c.loop.invariant.told c.in_ok-count.ensures.noted c.in_ok-push_names.ensures in
    (c.push_names.new.names, inr (inl (told, omega (arith, c.len.ensures, c.if-len-most.true))))

pub loop-preserved : goal.loop-preserved
loop-preserved g c = record {
  told = told_more _ _ _ _ _ _ c.loop.invariant.told c.in_ok-count.ensures.noted c.in_ok-push_names.ensures;
  within = omega (arith, c.len.ensures, c.if-len-most.false);
  turns = omega (arith, ap length c.in_ok-count.ensures.noted, c.loop.invariant.turns);
  room = c.next.auto.buffer ∙ c.loop.invariant.room;
}

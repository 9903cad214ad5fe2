use Rattle.std.proofs.Common.{◌++◌, take, drop, Some, ap, sym, ◌∙◌, arith, append_assoc, take-add}
use Rattle.snap_io_streams.proofs.streams.write_all.Goals as goal

pub loop-done-preserved : goal.loop-done-preserved
loop-done-preserved g c =
    let done = c.loop-done.done in
    let bytes = c.args.bytes.now in
    record {
      within = omega (arith, c.in_ok-count.ensures.bound, c.split_at.ensures.back_len);
      front = λ w e. c.in_ok-count.ensures.bytes (w ++ take done bytes) (c.loop-done.invariant.front w e)
          ∙ ap (λ r. Some ((w ++ take done bytes) ++ take c.in_ok-count.count r)) c.split_at.ensures.back
          ∙ ap Some (append_assoc w (take done bytes) (take c.in_ok-count.count (drop done bytes)) ∙ ap (λ t. w ++ t) (sym (take-add done c.in_ok-count.count bytes)));
      count = c.in_ok-count.ensures.cause ∙ c.loop-done.invariant.count;
    }

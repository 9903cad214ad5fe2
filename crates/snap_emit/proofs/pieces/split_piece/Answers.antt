use Rattle.snap_emit.proofs.Prelude.{rules, sym, ◌∙◌, chars}
use Rattle.snap_emit.proofs.NumberPieces.{passed-more}
use Rattle.snap_emit.proofs.pieces.split_piece.Goals as goal

pub loop-c-preserved : goal.loop-c-preserved
loop-c-preserved c = record {
  utf8 = search rules;
  so_far =
      passed-more (chars c.args.text.now) (chars c.loop-c.rest.now) (chars c.in-Some.more.now) c.in-Some.c c.loop-c.invariant.so_far c.in-Some.ensures
      (sym c.ends_piece.ensures ∙ c.if-ends_piece.false);
}

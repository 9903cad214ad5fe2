use Rattle.snap_emit.proofs.Prelude.{rules, sym, ◌∙◌, IfOk-weaker, chars}
use Rattle.snap_emit.proofs.NumberPieces.{number-cut, number-whole}
use Rattle.snap_emit.proofs.pieces.has_number_piece.Goals as goal

pub returns-then-branch : goal.returns-then-branch
returns-then-branch c =
    sym (sym c.loop-piece.invariant.so_far
    ∙ number-cut (chars c.loop-piece.rest.now) (chars c.in-Some.piece.now) (chars c.in-Some.more.now) _ c.in-Some.ensures.cut (sym c.if-branch.true ∙ c.in_ok-is_number_piece.ensures))

pub loop-piece-preserved : goal.loop-piece-preserved
loop-piece-preserved c = record {
  utf8 = search rules;
  so_far =
      sym (number-cut (chars c.loop-piece.rest.now) (chars c.in-Some.piece.now) (chars c.in-Some.more.now) _ c.in-Some.ensures.cut (sym c.if-branch.false ∙ c.in_ok-is_number_piece.ensures))
      ∙ c.loop-piece.invariant.so_far;
}

pub returns : goal.returns
returns c = IfOk-weaker c.is_number_piece-2.result _ _ (λ has is. is ∙ sym (number-whole (chars c.loop-piece.rest.now) c.in_default.ensures.cut) ∙ c.loop-piece.invariant.so_far) c.is_number_piece-2.ensures

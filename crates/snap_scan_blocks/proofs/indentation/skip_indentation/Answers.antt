use Rattle.snap_scan_blocks.proofs.Prelude.{◌≡◌, ◌∙◌, ℕ, Bool, true, nat_lt, slice_index, sym, ap, Mark, Place, with_breaks}
use Rattle.snap_scan_blocks.proofs.Between.{between-space, opened-space}
use Rattle.snap_scan_tokens.proofs.Places.{travels-on}
use Rattle.snap_scan_blocks.proofs.indentation.skip_indentation.Goals as goal

pub spaces-preserved : goal.spaces-preserved
spaces-preserved c =
    let p : Place = c.spaces.cursor in
    let q : Place = c.skip.new.self in
    let n : ℕ = c.args.indentation in
    let f : Mark → ℕ = λ m. m.col in
    let g : ℕ → Bool = λ j. nat_lt j n in
    let is : slice_index p.left 0 ≡ 32 = sym c.ch.ensures ∙ c.spaces-test.true in
    let column : c.col.result ≡ p.col = c.col.ensures ∙ ap f c.mark.ensures in
    let inside : nat_lt p.col n ≡ true = sym (c.is_indented.ensures ∙ ap g column) ∙ c.if-is_indented.true in
    record {
      passed = λ breaks. ((λ literal m. between-space n literal (with_breaks breaks m) p q is inside c.skip.ensures.value ∙ (c.spaces.invariant.passed breaks).0 literal m), opened-space n p q is inside c.skip.ensures.value ∙ (c.spaces.invariant.passed breaks).1);
      travels = travels-on c.spaces.invariant.travels c.skip.ensures.travels;
    }

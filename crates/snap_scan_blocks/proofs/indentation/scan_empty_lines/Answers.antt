use Rattle.snap_scan_blocks.proofs.Prelude.{◌≡◌, ◌∙◌, ◌++◌, ℕ, List, [], ◌∷◌, Bool, true, nat_lt, slice_index, sym, ap, subst, arith, is_break, Mark, Place, with_breaks}
use Rattle.snap_scan_blocks.proofs.Between.{between_at, between-tab, between-break, opened-break}
use Rattle.snap_scan_tokens.proofs.Places.{travels-on}
use Rattle.snap_scan_blocks.proofs.indentation.scan_empty_lines.Goals as goal

pub returns-then-is_indented-clause-refused : goal.returns-then-is_indented-clause-refused
returns-then-is_indented-clause-refused c = λ literal l.
    let q : Place = c.skip_indentation.new.cursor in
    let n : ℕ = c.args.indentation in
    let f : Mark → ℕ = λ m. m.col in
    let g : ℕ → Bool = λ j. nat_lt j n in
    let is : slice_index q.left 0 ≡ 9 = sym c.ch.ensures ∙ c.if-ch-eq9.true in
    let column : c.col.result ≡ q.col = c.col.ensures ∙ ap f c.mark.ensures in
    let inside : nat_lt q.col n ≡ true = sym (c.is_indented.ensures ∙ ap g column) ∙ c.if-is_indented.true in
    sym ((c.skip_indentation.ensures.value c.lines.breaks).0 literal l ∙ c.lines.invariant.passed.0 literal l)
    ∙ between-tab n literal (with_breaks c.lines.breaks l) q is inside

pub returns-then-not-is_break-clause-value : goal.returns-then-not-is_break-clause-value
returns-then-not-is_break-clause-value c = (
  (λ literal l. (c.skip_indentation.ensures.value c.lines.breaks).0 literal l ∙ c.lines.invariant.passed.0 literal l),
  (c.skip_indentation.ensures.value c.lines.breaks).1 ∙ c.lines.invariant.passed.1,
)

pub lines-preserved : goal.lines-preserved
lines-preserved c =
    let q : Place = c.skip_indentation.new.cursor in
    let r : Place = c.skip_break.new.self in
    let n : ℕ = c.args.indentation in
    let broken : is_break (slice_index q.left 0) ≡ true = first_of (cc, grind arith) in
    let added : c.push.new.self ≡ c.lines.breaks ++ 10 ∷ [] = c.in_ok-push.ensures.ok in
    record {
      passed = (
        (λ literal l.
            let P : List ℕ → Type 0 = λ b. between_at n literal (with_breaks b l) r ≡ between_at n literal (with_breaks c.args.breaks.now l) c.args.cursor.now in
            subst P (sym added) (between-break n literal (with_breaks c.lines.breaks l) q r broken c.skip_break.ensures.value
            ∙ (c.skip_indentation.ensures.value c.lines.breaks).0 literal l ∙ c.lines.invariant.passed.0 literal l)),
        opened-break n q r broken c.skip_break.ensures.value ∙ (c.skip_indentation.ensures.value c.lines.breaks).1 ∙ c.lines.invariant.passed.1,
      );
      travels = travels-on (travels-on c.lines.invariant.travels c.skip_indentation.ensures.travels) c.skip_break.ensures.travels;
    }

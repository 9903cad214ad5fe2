use Rattle.snap_scan_blocks.proofs.Prelude.{◌≡◌, ◌≢◌, ◌≤◌, ◌==◌, ◌∙◌, ◌++◌, max, ℕ, List, [], ◌∷◌, true, false, slice_index, refl, sym, ap, subst, arith, is_break, Mark, Place, first_sign, with_breaks}
use Rattle.snap_scan_blocks.proofs.Between.{between_at, between-break, opened-break}
use Rattle.snap_scan_blocks.proofs.Leading.{widest_at, widest-run, first-run, between-run, opened-run, widest-break, first-break, widest-end, first-end}
use Rattle.snap_scan_tokens.proofs.Places.{travels-on}
use Rattle.snap_scan_blocks.proofs.indentation.scan_leading_lines.Goals as goal

other-sign : (c s : ℕ) → c ≢ s → (c == s) ≡ false
other-sign c s other = grind arith

pub returns-then-ch-eq9-clause-refused : goal.returns-then-ch-eq9-clause-refused
returns-then-ch-eq9-clause-refused c =
    let q : Place = c.skip_while.new.self in
    let is : slice_index q.left 0 ≡ 9 = sym c.ch.ensures ∙ c.if-ch-eq9.true in
    let space : (slice_index q.left 0 == 32) ≡ false = rw is refl in
    let broken : is_break (slice_index q.left 0) ≡ false = rw is refl in
    let same : first_sign q.left ≡ first_sign c.args.cursor.now.left = first-run c.lines.cursor q c.skip_while.ensures.value ∙ c.lines.invariant.sign in
    let e : first_sign c.args.cursor.now.left ≡ 9 = sym same ∙ first-end q.left space broken ∙ is in
    rw e refl

pub returns-then-not-is_break-clause-column : goal.returns-then-not-is_break-clause-column
returns-then-not-is_break-clause-column c =
    let q : Place = c.skip_while.new.self in
    let f : Mark → ℕ = λ m. m.col in
    let column : c.col.result ≡ q.col = c.col.ensures ∙ ap f c.mark.ensures in
    let space : (slice_index q.left 0 == 32) ≡ false = c.skip_while.ensures.end in
    let broken : is_break (slice_index q.left 0) ≡ false = first_of (cc, grind arith) in
    omega (arith, c.wider-reached.ensures, column, widest-end q.left q.col space broken, widest-run c.lines.cursor q c.skip_while.ensures.value, c.lines.invariant.column)

pub returns-then-not-is_break-clause-value : goal.returns-then-not-is_break-clause-value
returns-then-not-is_break-clause-value c = λ n most.
    let p : Place = c.lines.cursor in
    let q : Place = c.skip_while.new.self in
    let f : Mark → ℕ = λ m. m.col in
    let column : c.col.result ≡ q.col = c.col.ensures ∙ ap f c.mark.ensures in
    let space : (slice_index q.left 0 == 32) ≡ false = c.skip_while.ensures.end in
    let broken : is_break (slice_index q.left 0) ≡ false = first_of (cc, grind arith) in
    let end : widest_at q ≡ q.col = widest-end q.left q.col space broken in
    let run : widest_at q ≡ widest_at p = widest-run p q c.skip_while.ensures.value in
    let whole : widest_at c.args.cursor.now ≤ n = omega (arith, c.wider-reached.ensures, column, end, run, c.lines.invariant.column) in
    let small : widest_at p ≤ n = omega (arith, c.lines.invariant.column, whole) in (
      (λ literal l. between-run n literal (with_breaks c.lines.breaks l) p q small c.skip_while.ensures.value ∙ (c.lines.invariant.passed n whole).0 literal l),
      opened-run n p q small c.skip_while.ensures.value ∙ (c.lines.invariant.passed n whole).1,
    )

pub returns-then-not-is_break-clause-sign : goal.returns-then-not-is_break-clause-sign
returns-then-not-is_break-clause-sign c =
    let q : Place = c.skip_while.new.self in
    let space : (slice_index q.left 0 == 32) ≡ false = c.skip_while.ensures.end in
    let broken : is_break (slice_index q.left 0) ≡ false = first_of (cc, grind arith) in
    let same : first_sign q.left ≡ first_sign c.args.cursor.now.left = first-run c.lines.cursor q c.skip_while.ensures.value ∙ c.lines.invariant.sign in
    let e : first_sign c.args.cursor.now.left ≡ slice_index q.left 0 = sym same ∙ first-end q.left space broken in
    rw e (other-sign (slice_index q.left 0) 9 (λ h. c.if-ch-eq9.false (c.ch.ensures ∙ h)))

pub lines-preserved : goal.lines-preserved
lines-preserved c =
    let p : Place = c.lines.cursor in
    let q : Place = c.skip_while.new.self in
    let r : Place = c.skip_break.new.self in
    let f : Mark → ℕ = λ m. m.col in
    let column : c.col.result ≡ q.col = c.col.ensures ∙ ap f c.mark.ensures in
    let broken : is_break (slice_index q.left 0) ≡ true = first_of (cc, grind arith) in
    let run : widest_at q ≡ widest_at p = widest-run p q c.skip_while.ensures.value in
    let past : max q.col (widest_at r) ≡ widest_at q = widest-break q r broken c.skip_break.ensures.value in
    let added : c.push.new.self ≡ c.lines.breaks ++ 10 ∷ [] = c.in_ok-push.ensures.ok in
    record {
      column = omega (arith, c.wider-reached.ensures, column, run, past, c.lines.invariant.column);
      sign = first-break q r broken c.skip_break.ensures.value ∙ first-run p q c.skip_while.ensures.value ∙ c.lines.invariant.sign;
      passed = λ n most.
          let small : widest_at p ≤ n = omega (arith, c.lines.invariant.column, most) in (
            (λ literal l.
                let P : List ℕ → Type 0 = λ b. between_at n literal (with_breaks b l) r ≡ between_at n literal (with_breaks c.args.breaks.now l) c.args.cursor.now in
                subst P (sym added) (between-break n literal (with_breaks c.lines.breaks l) q r broken c.skip_break.ensures.value
                ∙ between-run n literal (with_breaks c.lines.breaks l) p q small c.skip_while.ensures.value ∙ (c.lines.invariant.passed n most).0 literal l)),
            opened-break n q r broken c.skip_break.ensures.value ∙ opened-run n p q small c.skip_while.ensures.value ∙ (c.lines.invariant.passed n most).1,
          );
      travels = travels-on (travels-on c.lines.invariant.travels c.skip_while.ensures.travels) c.skip_break.ensures.travels;
    }

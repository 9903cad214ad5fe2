use Rattle.snap_scan_blocks.proofs.Prelude.{◌≡◌, ◌≢◌, ◌==◌, ◌||◌, ◌∙◌, ℕ, Bool, true, false, not, slice_index, refl, sym, ap, subst, arith, Option, Some, None, Ok, Err, InLine, ScanError, OutOfMemory, Syntax, is_break, is_of, Mark, Place, Lines, Read, stop, with_breaks, ended, IsRefusedLine, ReadsLines}
use Rattle.snap_scan_blocks.proofs.Between.{between_at, within_at, between-stop, between-line, within-end, within-break}
use Rattle.std.proofs.lemmas.Result.{err_from_is_err_and}
use Rattle.snap_scan_tokens.proofs.Places.{travels-on}
use Rattle.snap_scan_blocks.proofs.lines.Lines.scan.Goals as goal
use Rattle.snap_scan_blocks.proofs.lines.Lines.scan.Goals.{then-lines-test+else-col-indentation, else-lines-test}

begins-of : (c j n : ℕ) → c ≢ 0 → j ≡ n → (c == 0 || not (j == n)) ≡ false
begins-of c j n some at_n =
    let nul : (c == 0) ≡ false = grind arith in
    let same : (j == n) ≡ true = grind arith in
    rw (nul, same) refl

nul-of : (c j n : ℕ) → c ≡ 0 → (c == 0 || not (j == n)) ≡ true
nul-of c j n is = rw is refl

aside-by : (c j n : ℕ) (z : Bool) → (c == 0) ≡ z → (j == n) ≡ false → (c == 0 || not (j == n)) ≡ true
aside-by c j n true is apart = rw is refl
aside-by c j n false is apart = rw (is, apart) refl

aside-of : (c j n : ℕ) → j ≢ n → (c == 0 || not (j == n)) ≡ true
aside-of c j n other = let apart : (j == n) ≡ false = grind arith in aside-by c j n (c == 0) refl apart

break-by : (c : ℕ) (b : Bool) → is_break c ≡ b → (c == 0) ≡ false → is_of InLine c ≡ false → is_break c ≡ true
break-by c true is nul end = is
break-by c false is nul end = absurd (let h = rw (is, nul) at end in cc)

break-of : (c : ℕ) → is_of InLine c ≡ false → c ≢ 0 → is_break c ≡ true
break-of c end some =
    let nul : (c == 0) ≡ false = grind arith in
    break-by c (is_break c) refl nul end

-- the lines end here, as they do in the rule
stopped : {T : Type 0} (t : T) (o : Option Read) (l : Lines) (p : Place) → o ≡ stop l p → ReadsLines o (Ok t) l p
stopped t o l p is = let P : Option Read → Type 0 = λ x. ReadsLines x (Ok t) l p in subst P (sym is) (refl, refl)

-- the lines are refused here, as they are in the rule
refused : (T : Type 0) (n : ℕ) (literal : Bool) (o : Option Read) (m l : Lines) (r s : Place) (e : ScanError) → between_at n literal (ended m) r ≡ o
    → IsRefusedLine n m.breaks r e → ReadsLines {T = T} o (Err e) l s
refused T n literal None m l r s e is bad = tt
refused T n literal (Some x) m l r s OutOfMemory is bad = refl
refused T n literal (Some x) m l r s (Syntax mark info) is bad = absurd (let h : None ≡ Some x = sym (bad literal (ended m)) ∙ is in cc)

pub returns-then-ch-eq0-clause-value : goal.returns-then-ch-eq0-clause-value
returns-then-ch-eq0-clause-value c =
    let n : ℕ = c.args.indentation in
    let b : Bool = c.args.literal in
    let p : Place = c.lines.cursor in
    let q : Place = c.scan_line.new.cursor in
    let m : Lines = c.scan_line.new.self in
    let f : Mark → ℕ = λ x. x.col in
    let column : p.col ≡ n = sym (c.col.ensures ∙ ap f c.mark.ensures) ∙ c.if-col-indentation.true in
    let begins : (slice_index p.left 0 == 0 || not (p.col == n)) ≡ false = begins-of (slice_index p.left 0) p.col n (λ h. c.lines-test.true (c.ch.ensures ∙ h)) column in
    let line : within_at n b m q ≡ between_at n b c.lines.self p = between-line n b c.lines.self m p q c.lines.invariant.stands begins c.in_ok-scan_line.ensures.place c.in_ok-scan_line.ensures.value in
    let end : slice_index q.left 0 ≡ 0 = sym c.ch-in-lines.ensures ∙ c.if-ch-eq0.true in
    stopped tt (between_at n b c.args.self.now c.args.cursor.now) m q (sym c.lines.invariant.same ∙ sym line ∙ within-end n b m q end)

pub returns-in_err-scan_empty_lines-clause-value : goal.returns-in_err-scan_empty_lines-clause-value
returns-in_err-scan_empty_lines-clause-value c =
    let n : ℕ = c.args.indentation in
    let b : Bool = c.args.literal in
    let p : Place = c.lines.cursor in
    let q : Place = c.scan_line.new.cursor in
    let r : Place = c.skip_break.new.self in
    let m : Lines = c.scan_line.new.self in
    let f : Mark → ℕ = λ x. x.col in
    let column : p.col ≡ n = sym (c.col.ensures ∙ ap f c.mark.ensures) ∙ c.if-col-indentation.true in
    let begins : (slice_index p.left 0 == 0 || not (p.col == n)) ≡ false = begins-of (slice_index p.left 0) p.col n (λ h. c.lines-test.true (c.ch.ensures ∙ h)) column in
    let line : within_at n b m q ≡ between_at n b c.lines.self p = between-line n b c.lines.self m p q c.lines.invariant.stands begins c.in_ok-scan_line.ensures.place c.in_ok-scan_line.ensures.value in
    let broken : is_break (slice_index q.left 0) ≡ true = break-of (slice_index q.left 0) c.in_ok-scan_line.ensures.end (λ h. c.if-ch-eq0.false (c.ch-in-lines.ensures ∙ h)) in
    let past : between_at n b (ended m) r ≡ within_at n b m q = within-break n b m q r broken c.skip_break.ensures.value in
    let told = err_from_is_err_and c.from_residual-in_err-scan_empty_lines.result c.from_residual-in_err-scan_empty_lines.ensures.1 in
    rw (told.1, told.2) (refused (Unit {0}) n b (between_at n b c.args.self.now c.args.cursor.now) m (with_breaks c.scan_empty_lines.new.breaks (ended m)) r c.scan_empty_lines.new.cursor c.in_err-scan_empty_lines.field-0.0
    (past ∙ line ∙ c.lines.invariant.same) c.in_err-scan_empty_lines.ensures.refused)

pub lines-preserved : goal.lines-preserved
lines-preserved c =
    let n : ℕ = c.args.indentation in
    let b : Bool = c.args.literal in
    let p : Place = c.lines.cursor in
    let q : Place = c.scan_line.new.cursor in
    let r : Place = c.skip_break.new.self in
    let m : Lines = c.scan_line.new.self in
    let f : Mark → ℕ = λ x. x.col in
    let column : p.col ≡ n = sym (c.col.ensures ∙ ap f c.mark.ensures) ∙ c.if-col-indentation.true in
    let begins : (slice_index p.left 0 == 0 || not (p.col == n)) ≡ false = begins-of (slice_index p.left 0) p.col n (λ h. c.lines-test.true (c.ch.ensures ∙ h)) column in
    let line : within_at n b m q ≡ between_at n b c.lines.self p = between-line n b c.lines.self m p q c.lines.invariant.stands begins c.in_ok-scan_line.ensures.place c.in_ok-scan_line.ensures.value in
    let broken : is_break (slice_index q.left 0) ≡ true = break-of (slice_index q.left 0) c.in_ok-scan_line.ensures.end (λ h. c.if-ch-eq0.false (c.ch-in-lines.ensures ∙ h)) in
    let past : between_at n b (ended m) r ≡ within_at n b m q = within-break n b m q r broken c.skip_break.ensures.value in
    record {
      stands = c.in_ok-scan_empty_lines.ensures.stands;
      same = c.in_ok-scan_empty_lines.ensures.value.0 b (ended m) ∙ past ∙ line ∙ c.lines.invariant.same;
      travels = travels-on (travels-on (travels-on c.lines.invariant.travels c.scan_line.ensures.travels) c.skip_break.ensures.travels) c.scan_empty_lines.ensures.travels;
    }

pub returns-clause-value : goal.returns-clause-value
returns-clause-value c =
    let n : ℕ = c.args.indentation in
    let b : Bool = c.args.literal in
    let p : Place = c.lines.cursor in
    let f : Mark → ℕ = λ x. x.col in
    let end : (slice_index p.left 0 == 0 || not (p.col == n)) ≡ true = elim c.lines-test.branch [
      | then-lines-test+else-col-indentation w ↦ aside-of (slice_index p.left 0) p.col n (λ h. w.if-col-indentation.false (w.col.ensures ∙ ap f w.mark.ensures ∙ h))
      | else-lines-test w ↦ nul-of (slice_index p.left 0) p.col n (sym c.ch.ensures ∙ w.lines-test.false)
    ] in
    stopped tt (between_at n b c.args.self.now c.args.cursor.now) c.lines.self p (sym c.lines.invariant.same ∙ between-stop n b c.lines.self p c.lines.invariant.stands end)

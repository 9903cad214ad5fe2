use Rattle.snap_scan_tokens.proofs.Prelude.{◌≡◌, ◌∙◌, ◌==◌, false, slice_index, sym, subst, Gap, Place, double_at}
use Rattle.snap_scan_tokens.proofs.Doubles.{double-word}
use Rattle.snap_scan_tokens.proofs.quoted.take_in_double.Goals as goal

pub returns-clause-value : goal.returns-clause-value
returns-clause-value c =
    let p : Place = c.args.cursor.now in
    let q : Place = c.take_word.new.cursor in
    let inside = c.requires.inside in
    let other : (slice_index p.left 0 == 34) ≡ false = inside.going in
    let P : Gap → Type 0 = λ g. double_at c.take_word.new.text g q ≡ double_at c.args.text.now c.args.gap.now p in
    subst P (sym c.in_ok-take_word.ensures.gap) (double-word c.args.text.now c.take_word.new.text c.args.gap.now p q inside.blank inside.broken inside.sign inside.some (λ e. absurd (let is = rw e at other in cc)) (λ e. c.if-ch-eq92.false (c.ch.ensures ∙ e)) c.in_ok-take_word.ensures.place c.in_ok-take_word.ensures.text)

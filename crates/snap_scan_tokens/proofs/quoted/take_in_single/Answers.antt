use Rattle.snap_scan_tokens.proofs.Prelude.{◌≡◌, ◌∙◌, sym, subst, Gap, Place, single_at}
use Rattle.snap_scan_tokens.proofs.Singles.{single-word}
use Rattle.snap_scan_tokens.proofs.quoted.take_in_single.Goals as goal

pub returns-clause-value : goal.returns-clause-value
returns-clause-value c =
    let p : Place = c.args.cursor.now in
    let q : Place = c.take_word.new.cursor in
    let inside = c.requires.inside in
    let P : Gap → Type 0 = λ g. single_at c.take_word.new.text g q ≡ single_at c.args.text.now c.args.gap.now p in
    subst P (sym c.in_ok-take_word.ensures.gap) (single-word c.args.text.now c.take_word.new.text c.args.gap.now p q inside.blank inside.broken inside.sign inside.some (λ e. c.if-ch-eq39.false (c.ch.ensures ∙ e)) c.in_ok-take_word.ensures.place c.in_ok-take_word.ensures.text)

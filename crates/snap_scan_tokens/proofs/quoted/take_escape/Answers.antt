use Rattle.snap_scan_tokens.proofs.Prelude.{◌≡◌, ◌∙◌, ◌++◌, ℕ, List, [], ◌∷◌, rules, subst, sym, ap, refl, chars, Gap, gap_of, no_gap, joined, Piece, before, Place, double, double_at, escape}
use Rattle.snap_scan_tokens.proofs.Doubles.{double-none, double-escape}
use Rattle.snap_scan_tokens.proofs.quoted.take_escape.Goals as goal

pub returns-in_ok-push-in-Ok-Some-clause-value : goal.returns-in_ok-push-in-Ok-Some-clause-value
returns-in_ok-push-in-Ok-Some-clause-value c =
    let p : Place = c.args.cursor.now in
    let s : Place = c.skip.new.self in
    let q : Place = c.scan_escape.new.cursor in
    let d : ℕ = c.in-Ok-Some.character in
    let text : List ℕ = c.args.text.now.text ++ joined (gap_of c.args.gap.now (before c.args.text.now.behind p.left)) in
    let put : c.join.new.self ≡ record { text = c.args.text.now.text ++ joined (gap_of c.args.gap.now (before c.args.text.now.behind (chars c.rest.result.now))); behind = chars c.rest.result.now } = search rules in
    let f : Piece → List ℕ = λ t. t.text in
    let so : c.join.new.self.text ≡ text = ap f put ∙ rw c.rest.ensures refl in
    let pushed : c.push.new.self ≡ record { text = c.join.new.self.text ++ d ∷ []; behind = chars c.rest-in-Ok-Some.result.now } = search rules in
    let all : c.push.new.self ≡ record { text = text ++ d ∷ []; behind = q.left } = pushed ∙ rw (so, c.rest-in-Ok-Some.ensures) refl in
    let value : (t : List ℕ) → escape t s.left s ≡ double no_gap (t ++ d ∷ []) q.left q = rw c.in-Ok-Some.field-0-is at c.in-Ok-Some.ensures.value in
    let P : Gap → Type 0 = λ g. double_at c.push.new.self g q ≡ double_at c.args.text.now c.args.gap.now p in
    subst P (sym c.none.ensures) (double-none (text ++ d ∷ []) c.push.new.self q all ∙ sym (value text) ∙ sym (double-escape c.args.text.now c.args.gap.now p s c.requires.place c.requires.sign c.skip.ensures.value))

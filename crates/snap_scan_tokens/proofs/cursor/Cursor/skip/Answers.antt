use Rattle.snap_scan_tokens.proofs.Prelude.{ap, sym, subst, ◌∙◌, arith, rules, length, ℕ, List, ◌≡◌, ◌∷◌, chars, EndsIn, Place}
use Rattle.snap_scan_tokens.proofs.Pieces.{ends-next}
use Rattle.snap_scan_tokens.proofs.Places.{later-next}
use Rattle.snap_scan_tokens.proofs.cursor.Cursor.skip.Goals as goal

pub invariant_of-self : goal.invariant_of-self
invariant_of-self c =
    let is : chars c.self.inside.rest.now ≡ c.in-Some.first ∷ chars c.in-Some.rest.now = c.in-Some.ensures in
    let longer = ap length is in
    (omega arith, omega arith, omega arith)

pub invariant_of-self-else-first-eq10 : goal.invariant_of-self-else-first-eq10
invariant_of-self-else-first-eq10 c =
    let is : chars c.self.inside.rest.now ≡ c.in-Some.first ∷ chars c.in-Some.rest.now = c.in-Some.ensures in
    let longer = ap length is in
    (omega arith, omega arith, omega arith)

pub returns-then-first-eq10-clause-travels : goal.returns-then-first-eq10-clause-travels
returns-then-first-eq10-clause-travels c =
    let left : c.args.self.now.left ≡ c.in-Some.first ∷ chars c.in-Some.rest.now = ap (λ (p : Place). p.left) (sym c.self.view_is) ∙ c.in-Some.ensures in
    record {
      onward = λ p h. later-next p c.args.self.now _ (search rules) h;
      within = λ all h. let P : List ℕ → Type 0 = λ l. EndsIn all l in ends-next all c.in-Some.first (chars c.in-Some.rest.now) (subst P left h);
      sum = search rules;
      lighter = search rules;
    }

pub returns-else-first-eq10-clause-travels : goal.returns-else-first-eq10-clause-travels
returns-else-first-eq10-clause-travels c =
    let left : c.args.self.now.left ≡ c.in-Some.first ∷ chars c.in-Some.rest.now = ap (λ (p : Place). p.left) (sym c.self.view_is) ∙ c.in-Some.ensures in
    record {
      onward = λ p h. later-next p c.args.self.now _ (search rules) h;
      within = λ all h. let P : List ℕ → Type 0 = λ l. EndsIn all l in ends-next all c.in-Some.first (chars c.in-Some.rest.now) (subst P left h);
      sum = search rules;
      lighter = search rules;
    }

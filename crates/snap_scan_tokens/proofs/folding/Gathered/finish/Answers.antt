use Rattle.snap_scan_tokens.proofs.Prelude.{◌≡◌, ℕ, List, [], ◌++◌, sym, ap, ◌∙◌, chars, Piece, before}
use Rattle.snap_scan_tokens.proofs.Empties.{nil-is}
use Rattle.snap_scan_tokens.proofs.folding.Gathered.finish.Goals as goal

pub returns-then-is_nothing : goal.returns-then-is_nothing
returns-then-is_nothing c =
    let part : List ℕ = before (chars c.self.inside.from.now) (chars c.self.inside.rest.now) in
    let none : c.self.inside.copied ≡ [] = nil-is c.self.inside.copied (sym c.is_nothing.ensures ∙ c.if-is_nothing.true) in
    let text : Piece → List ℕ = λ p. p.text in
    let behind : List ℕ → List ℕ = λ l. l ++ part in
    c.borrowed.ensures ∙ c.before_rest-part.ensures part c.self.invariant ∙ ap behind (sym none) ∙ ap text c.self.view_is

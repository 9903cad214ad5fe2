use Rattle.snap_scan.proofs.Prelude.{ℕ, subst, sym, slice_index, TokenKind, Begins, kind_of_sign}
use Rattle.snap_scan.proofs.Beginnings.{sign-begins}
use Rattle.snap_scan.proofs.kind.kind_here.Goals as goal

pub returns-clause-begins : goal.returns-clause-begins
returns-clause-begins c =
    let p = c.args.cursor.now in
    let first = c.ch-first.result in
    let kind = kind_of_sign c.args.in_flow c.args.adjacent p first in
    let P : TokenKind → Type 0 = λ k. Begins k (slice_index p.left 0) in
    let Q : ℕ → Type 0 = λ n. Begins kind n in
    subst P (sym c.kind_of_sign.ensures) (subst Q c.ch-first.ensures (sign-begins c.args.in_flow c.args.adjacent p first c.if-first-eq0.false))

use Rattle.std.proofs.Common.{ap, sym, refl}
use Rattle.std.proofs.lemmas.Result.{err_from_is_err_and}
use Rattle.snap_assert.proofs.Innermost.{stays_kept, is_kept}
use Rattle.snap_assert.proofs.session.Session.put_kept.Goals as goal

pub returns-in_err-insert-clause-err : goal.returns-in_err-insert-clause-err
returns-in_err-insert-clause-err c =
    let told = err_from_is_err_and c.from_residual.result c.from_residual.ensures.1 in
    rw (told.1)
    (ap (λ bs. record { uses = c.args.self.now.uses.entries; blocks = bs; literals = c.args.self.now.literals.keys })
    (stays_kept (λ block. block.entries) c.args.self.now.blocks.items _ c.in-Some.block.now c.insert.new.self (sym c.args.self.now.blocks.ok.0) (c.in-Some.ensures.variant.0 refl)
    c.in-Some.ensures.value c.in_err-insert.ensures.err))

pub returns-clause-ok : goal.returns-clause-ok
returns-clause-ok c =
    ap (λ bs. record { uses = c.args.self.now.uses.entries; blocks = bs; literals = c.args.self.now.literals.keys })
    (is_kept (λ block. block.entries) c.args.self.now.blocks.items _ c.in-Some.block.now c.insert.new.self c.args.key c.args.contents (sym c.args.self.now.blocks.ok.0) (c.in-Some.ensures.variant.0 refl)
    c.in-Some.ensures.value c.in_ok-insert.ensures.entries)

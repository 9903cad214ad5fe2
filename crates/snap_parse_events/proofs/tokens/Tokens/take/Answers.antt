use Rattle.snap_parse_events.proofs.Prelude.{rules, ◌≡◌, None}
use Rattle.std.proofs.lemmas.Result.{err_from_is_err_and}
use Rattle.snap_parse_events.proofs.Taken.{taken-some, taken-not}
use Rattle.snap_parse_events.proofs.tokens.Tokens.take.Goals as goal

pub returns-in_err-token-clause-takes : goal.returns-in_err-token-clause-takes
returns-in_err-token-clause-takes c = λ ts will.
    let held : c.args.self.now.held ≡ None = search rules in
    let p = err_from_is_err_and c.from_residual.result c.from_residual.ensures.1 in
    rw (p.1, p.2) (taken-not c.args.self.now.held c.args.self.now.scanner c.next_token.new.self _ (record { scanner = c.next_token.new.self; held = c.take.new.self }) ts held c.in_err-token.ensures.owed will)

pub returns-in-Some-2-clause-takes : goal.returns-in-Some-2-clause-takes
returns-in-Some-2-clause-takes c = λ ts will.
    let held : c.args.self.now.held ≡ None = search rules in
    let left : c.take.new.self ≡ None = search rules in
    taken-some c.args.self.now.held c.take.new.self c.args.self.now.scanner c.next_token.new.self c.in_ok-token.field-0 c.in-Some-2.token ts held left c.in-Some-2.is
    c.in_ok-token.ensures.owed c.in_ok-token.ensures.kept will

use Rattle.snap_emit_values.proofs.Prelude.{◌≤◌, ◌-◌, ap, ◌∙◌, arith, on_ok_weaker, on_err_weaker, is_ascii, list_all, IsBegun, blanks}
use Rattle.snap_emit_values.proofs.Begun.{on_err}
use Rattle.snap_emit_values.proofs.Spaces.{more_blanks, blanks_begun, all_blanks, ascii_blanks}
use Rattle.snap_emit_values.proofs.blanks.push_blanks.Goals as goal

pub wide-preserved : goal.wide-preserved
wide-preserved c = record {
  added = more_blanks c.args.out.now c.wide.out c.push_ascii.new.self c.wide.done 64 c.wide.invariant.added c.in_ok-push_ascii.ensures.ok;
  within = omega arith;
}

pub returns-in_err-push_ascii-clause-err : goal.returns-in_err-push_ascii-clause-err
returns-in_err-push_ascii-clause-err c =
    let h : IsBegun c.args.out.now c.push_ascii.new.self (blanks c.args.count) =
    blanks_begun c.args.out.now c.wide.out c.push_ascii.new.self c.args.count c.wide.done c.wide.invariant.added c.wide.invariant.within
    c.in_err-push_ascii.ensures.err in
    on_err c.from_residual.result _ h

pub push_ascii-requires-2 : goal.push_ascii-requires-2
push_ascii-requires-2 c =
    let few : c.args.count - c.wide.done ≤ 64 = omega (arith, c.wide-test.false) in
    ap (list_all is_ascii) c.front.ensures ∙ ascii_blanks (c.args.count - c.wide.done) few

pub returns-clause-ok : goal.returns-clause-ok
returns-clause-ok c =
    let few : c.args.count - c.wide.done ≤ 64 = omega (arith, c.wide-test.false) in
    on_ok_weaker c.push_ascii-2.result
    (λ h. all_blanks c.args.out.now c.wide.out c.push_ascii-2.new.self c.front.result.now c.args.count c.wide.done c.wide.invariant.added
    c.wide.invariant.within few c.front.ensures h)
    c.push_ascii-2.ensures.ok

pub returns-clause-err : goal.returns-clause-err
returns-clause-err c =
    on_err_weaker c.push_ascii-2.result
    (λ h. blanks_begun c.args.out.now c.wide.out c.push_ascii-2.new.self c.args.count c.wide.done c.wide.invariant.added c.wide.invariant.within h)
    c.push_ascii-2.ensures.err

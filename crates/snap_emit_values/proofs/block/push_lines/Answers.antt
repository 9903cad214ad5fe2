use Rattle.snap_emit_values.proofs.Prelude.{◌≡◌, List, ℕ, [], ◌++◌, chars, break_at, shifted, IsBegun, rules, sym, ap, ◌∙◌, append-nil, on_err_weaker, on_ok_weaker}
use Rattle.snap_emit_values.proofs.Begun.{added_twice, on_err}
use Rattle.snap_emit_values.proofs.Shifting.{one-line, split-on, begun-at}
use Rattle.snap_emit_values.proofs.block.push_lines.Goals as goal

pub returns-in_err-push_line-clause-err : goal.returns-in_err-push_line-clause-err
returns-in_err-push_line-clause-err c =
    let k : ℕ = c.args.column in
    let line : List ℕ = chars c.in-Some.line.now in
    let behind : List ℕ = chars c.in-Some.behind.now in
    let h : IsBegun c.args.out.now c.push_line.new.out (shifted c.args.column (chars c.args.text.now)) =
    begun-at c.args.out.now c.lines.out c.push_line.new.out c.lines.invariant.done (line ++ break_at k) (shifted k behind) (shifted k (chars c.args.text.now)) c.lines.invariant.added
    (split-on k (chars c.args.text.now) c.lines.invariant.done (chars c.lines.rest.now) line behind c.lines.invariant.split c.in-Some.ensures.cut) c.in_err-push_line.ensures.err in
    on_err c.from_residual.result _ h

pub lines-preserved : goal.lines-preserved
lines-preserved c =
    let k : ℕ = c.args.column in
    let line : List ℕ = chars c.in-Some.line.now in
    let behind : List ℕ = chars c.in-Some.behind.now in
    record {
      utf8 = search rules;
      done = c.lines.invariant.done ++ (line ++ break_at k);
      added = added_twice c.args.out.now c.lines.out c.push_line.new.out c.lines.invariant.done (line ++ break_at k) c.lines.invariant.added c.in_ok-push_line.ensures.ok;
      split = split-on k (chars c.args.text.now) c.lines.invariant.done (chars c.lines.rest.now) line behind c.lines.invariant.split c.in-Some.ensures.cut;
    }

pub returns-clause-ok : goal.returns-clause-ok
returns-clause-ok c =
    let k : ℕ = c.args.column in
    let rest : List ℕ = chars c.lines.rest.now in
    let done : List ℕ = c.lines.invariant.done in
    let all : shifted k (chars c.args.text.now) ≡ done ++ rest = c.lines.invariant.split ∙ ap (λ (x : List ℕ). done ++ x) (one-line k rest c.in_default.ensures.cut) in
    on_ok_weaker c.push_run.result
    (λ h. added_twice c.args.out.now c.lines.out c.push_run.new.out done rest c.lines.invariant.added h ∙ ap (λ (x : List ℕ). c.args.out.now ++ x) (sym all))
    c.push_run.ensures.ok

pub returns-clause-err : goal.returns-clause-err
returns-clause-err c =
    let k : ℕ = c.args.column in
    let rest : List ℕ = chars c.lines.rest.now in
    let done : List ℕ = c.lines.invariant.done in
    let all : shifted k (chars c.args.text.now) ≡ done ++ rest ++ [] =
    c.lines.invariant.split ∙ ap (λ (x : List ℕ). done ++ x) (one-line k rest c.in_default.ensures.cut) ∙ sym (append-nil (done ++ rest)) in
    on_err_weaker c.push_run.result
    (λ h. begun-at c.args.out.now c.lines.out c.push_run.new.out done rest [] (shifted k (chars c.args.text.now)) c.lines.invariant.added all h)
    c.push_run.ensures.err

use Rattle.snap_emit_values.proofs.Prelude.{[], ◌∷◌, ◌++◌, refl, sym, ap, ◌∙◌, append_assoc, append-nil, rules, flat_map, chars, escaped, quoted, IsBegun}
use Rattle.snap_emit_values.proofs.Begun.{added_twice, on_err}
use Rattle.snap_emit_values.proofs.Quoting.{quoted_at}
use Rattle.snap_print.proofs.BareRuns.{run_split, step_after, escaped-bare}
use Rattle.snap_emit_values.proofs.scalars.push_quoted.Goals as goal

pub returns-in_err-push_run-clause-err : goal.returns-in_err-push_run-clause-err
returns-in_err-push_run-clause-err c =
    let run = chars c.bare_run.result.0.now in
    let rest = chars c.bare_run.result.1.now in
    let h : IsBegun c.args.out.now c.push_run.new.out (quoted (chars c.args.value.now)) =
    quoted_at c.args.out.now (c.args.out.now ++ 34 ∷ []) c.push.new.self c.push_run.new.out [] (chars c.args.value.now) run (flat_map escaped rest) refl
    (c.in_ok-push.ensures.ok ∙ sym (append-nil (c.args.out.now ++ 34 ∷ [])))
    (run_split escaped escaped-bare (chars c.args.value.now) run rest c.bare_run.ensures.whole c.bare_run.ensures.bare)
    c.in_err-push_run.ensures.err in
    on_err c.from_residual-in_err-push_run.result _ h

pub loop-c-init : goal.loop-c-init
loop-c-init c = record {
  utf8 = search rules;
  done = chars c.bare_run.result.0.now;
  added = c.in_ok-push_run.ensures.ok ∙ ap (λ x. x ++ chars c.bare_run.result.0.now) c.in_ok-push.ensures.ok;
  split = run_split escaped escaped-bare (chars c.args.value.now) (chars c.bare_run.result.0.now) (chars c.bare_run.result.1.now) c.bare_run.ensures.whole c.bare_run.ensures.bare;
}

pub returns-in_err-push_escaped-clause-err : goal.returns-in_err-push_escaped-clause-err
returns-in_err-push_escaped-clause-err c =
    let h : IsBegun c.args.out.now c.push_escaped.new.out (quoted (chars c.args.value.now)) =
    quoted_at c.args.out.now (c.args.out.now ++ 34 ∷ []) c.loop-c.out c.push_escaped.new.out c.loop-c.invariant.done (chars c.args.value.now)
    (escaped c.in-Some.c) (flat_map escaped (chars c.in-Some.behind.now)) refl c.loop-c.invariant.added
    (c.loop-c.invariant.split ∙ ap (λ x. c.loop-c.invariant.done ++ flat_map escaped x) c.in-Some.ensures) c.in_err-push_escaped.ensures.err in
    on_err c.from_residual-in_err-push_escaped.result _ h

pub returns-in_err-push_run-2-clause-err : goal.returns-in_err-push_run-2-clause-err
returns-in_err-push_run-2-clause-err c =
    let h : IsBegun c.args.out.now c.push_run-in-Some.new.out (quoted (chars c.args.value.now)) =
    quoted_at c.args.out.now (c.args.out.now ++ 34 ∷ []) c.push_escaped.new.out c.push_run-in-Some.new.out
    (c.loop-c.invariant.done ++ escaped c.in-Some.c) (chars c.args.value.now)
    (chars c.bare_run-in-Some.result.0.now) (flat_map escaped (chars c.bare_run-in-Some.result.1.now)) refl
    (added_twice (c.args.out.now ++ 34 ∷ []) c.loop-c.out c.push_escaped.new.out c.loop-c.invariant.done (escaped c.in-Some.c)
    c.loop-c.invariant.added c.in_ok-push_escaped.ensures.ok)
    (step_after escaped escaped-bare (chars c.args.value.now) c.loop-c.invariant.done (chars c.loop-c.rest.now) (chars c.in-Some.behind.now)
    (chars c.bare_run-in-Some.result.0.now) (chars c.bare_run-in-Some.result.1.now) c.in-Some.c c.loop-c.invariant.split c.in-Some.ensures
    c.bare_run-in-Some.ensures.whole c.bare_run-in-Some.ensures.bare)
    c.in_err-push_run-2.ensures.err in
    on_err c.from_residual-in_err-push_run-2.result _ h

pub loop-c-preserved : goal.loop-c-preserved
loop-c-preserved c =
    let opened = c.args.out.now ++ 34 ∷ [] in
    let done = c.loop-c.invariant.done in
    let run = chars c.bare_run-in-Some.result.0.now in
    let rest = chars c.bare_run-in-Some.result.1.now in
    record {
      utf8 = search rules;
      done = (done ++ escaped c.in-Some.c) ++ run;
      added = added_twice opened c.push_escaped.new.out c.push_run-in-Some.new.out (done ++ escaped c.in-Some.c) run
          (added_twice opened c.loop-c.out c.push_escaped.new.out done (escaped c.in-Some.c) c.loop-c.invariant.added c.in_ok-push_escaped.ensures.ok)
          c.in_ok-push_run-2.ensures.ok;
      split = step_after escaped escaped-bare (chars c.args.value.now) done (chars c.loop-c.rest.now) (chars c.in-Some.behind.now) run rest c.in-Some.c
          c.loop-c.invariant.split c.in-Some.ensures c.bare_run-in-Some.ensures.whole c.bare_run-in-Some.ensures.bare
          ∙ sym (append_assoc (done ++ escaped c.in-Some.c) run (flat_map escaped rest));
    }

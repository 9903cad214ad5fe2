use Rattle.snap_json.proofs.Prelude.{◌≡◌, [], ◌++◌, sym, ap, ◌∙◌, rules, append_assoc, append-nil, flat_map, chars, json_escaped, whole}
use Rattle.snap_json.proofs.Behind.{on_exit, stopped_first, stopped_behind, stopped_as, added_behind, added_as}
use Rattle.snap_json.proofs.Runs.{json-bare}
use Rattle.snap_print.proofs.BareRuns.{run_split, step_first, step_after}
use Rattle.snap_json.proofs.strings.write_characters.Goals as goal

pub returns-in_err-write_run : goal.returns-in_err-write_run
returns-in_err-write_run c =
    let run = chars c.bare_run.result.0.now in
    let rest = chars c.bare_run.result.1.now in
    on_exit c.from_residual.result c.from_residual.ensures.1
    (stopped_as (whole (run ++ flat_map json_escaped rest)) (whole (flat_map json_escaped (chars c.args.value.now)))
    (ap whole (sym (run_split json_escaped json-bare (chars c.args.value.now) run rest c.bare_run.ensures.whole c.bare_run.ensures.bare)))
    (stopped_first (whole (flat_map json_escaped rest)) c.in_err-write_run.ensures))

pub loop-c-init : goal.loop-c-init
loop-c-init c = record {
  utf8 = search rules;
  done = chars c.bare_run.result.0.now;
  added = c.in_ok-write_run.ensures;
  split = run_split json_escaped json-bare (chars c.args.value.now) (chars c.bare_run.result.0.now) (chars c.bare_run.result.1.now) c.bare_run.ensures.whole
      c.bare_run.ensures.bare;
}

pub returns-in_err-write_escaped : goal.returns-in_err-write_escaped
returns-in_err-write_escaped c =
    let all = chars c.args.value.now in
    let done = c.loop-c.invariant.done in
    let text = chars c.loop-c.rest.now in
    let behind = chars c.in-Some.behind.now in
    on_exit c.from_residual-in_err-write_escaped.result c.from_residual-in_err-write_escaped.ensures.1
    (stopped_as (whole (done ++ (json_escaped c.in-Some.c ++ flat_map json_escaped behind))) (whole (flat_map json_escaped all))
    (ap whole (sym (step_first json_escaped all done text behind c.in-Some.c c.loop-c.invariant.split c.in-Some.ensures)))
    (stopped_behind c.loop-c.invariant.added (stopped_first (whole (flat_map json_escaped behind)) c.in_err-write_escaped.ensures)))

pub returns-in_err-write_run-2 : goal.returns-in_err-write_run-2
returns-in_err-write_run-2 c =
    let all = chars c.args.value.now in
    let done = c.loop-c.invariant.done in
    let text = chars c.loop-c.rest.now in
    let behind = chars c.in-Some.behind.now in
    let run = chars c.bare_run-in-Some.result.0.now in
    let rest = chars c.bare_run-in-Some.result.1.now in
    on_exit c.from_residual-in_err-write_run-2.result c.from_residual-in_err-write_run-2.ensures.1
    (stopped_as (whole ((done ++ json_escaped c.in-Some.c) ++ (run ++ flat_map json_escaped rest))) (whole (flat_map json_escaped all))
    (ap whole (sym (step_after json_escaped json-bare all done text behind run rest c.in-Some.c c.loop-c.invariant.split c.in-Some.ensures
    c.bare_run-in-Some.ensures.whole c.bare_run-in-Some.ensures.bare)))
    (stopped_behind (added_behind c.loop-c.invariant.added c.in_ok-write_escaped.ensures)
    (stopped_first (whole (flat_map json_escaped rest)) c.in_err-write_run-2.ensures)))

pub loop-c-preserved : goal.loop-c-preserved
loop-c-preserved c =
    let all = chars c.args.value.now in
    let done = c.loop-c.invariant.done in
    let text = chars c.loop-c.rest.now in
    let behind = chars c.in-Some.behind.now in
    let run = chars c.bare_run-in-Some.result.0.now in
    let rest = chars c.bare_run-in-Some.result.1.now in
    record {
      utf8 = search rules;
      done = (done ++ json_escaped c.in-Some.c) ++ run;
      added = added_behind (added_behind c.loop-c.invariant.added c.in_ok-write_escaped.ensures) c.in_ok-write_run-2.ensures;
      split = step_after json_escaped json-bare all done text behind run rest c.in-Some.c c.loop-c.invariant.split c.in-Some.ensures
          c.bare_run-in-Some.ensures.whole c.bare_run-in-Some.ensures.bare
          ∙ sym (append_assoc (done ++ json_escaped c.in-Some.c) run (flat_map json_escaped rest));
    }

pub returns : goal.returns
returns c =
    let done = c.loop-c.invariant.done in
    let end : chars c.loop-c.rest.now ≡ [] = search rules in
    added_as (whole done) (whole (flat_map json_escaped (chars c.args.value.now)))
    (ap whole (sym (c.loop-c.invariant.split ∙ ap (λ x. done ++ flat_map json_escaped x) end ∙ append-nil done)))
    c.loop-c.invariant.added

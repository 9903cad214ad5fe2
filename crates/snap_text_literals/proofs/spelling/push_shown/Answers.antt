use Rattle.snap_text_literals.proofs.Prelude.{◌≡◌, ◌++◌, true, rules, list_any, chars, shown, is_line_end}
use Rattle.snap_text_literals.proofs.LineParts.{framed_past, framed_end, on_ok}
use Rattle.snap_text_literals.proofs.spelling.push_shown.Goals as goal

pub loop-line-preserved : goal.loop-line-preserved
loop-line-preserved c = record {
  utf8 = search rules;
  same = framed_past _ _ _ _ _ _ _ c.in-Some.ensures.line c.in_ok-push_line.ensures c.loop-line.invariant.same;
}

pub returns : goal.returns
returns c =
    let indentation = chars c.args.indentation.now in
    let text = chars c.args.text.now in
    let broken : list_any is_line_end text ≡ true = search rules in
    on_ok c.push_str-2.result _ (c.push_str-2.new.self ≡ c.args.made.now ++ shown indentation text)
    (λ last. framed_end indentation text _ _ _ _ _ _ c.in_default.ensures.line broken c.loop-line.invariant.same c.in_ok-push_line-2.ensures c.in_ok-push_ascii.ensures.ok last) c.push_str-2.ensures.ok

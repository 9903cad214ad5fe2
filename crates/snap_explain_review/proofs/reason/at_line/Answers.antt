use Rattle.snap_explain_review.proofs.Prelude.{◌<◌, ◌^◌, arith}
use Rattle.std.proofs.lemmas.Fmt.{IsAscii-decimal_wide}
use Rattle.snap_content.proofs.Ascii.{list_all-IsAscii}
use Rattle.snap_explain_review.proofs.reason.at_line.Goals as goal

pub push_ascii-requires-2 : goal.push_ascii-requires-2
push_ascii-requires-2 c =
    let range : c.args.number < 10 ^ 64 = omega arith in
    rw (c.as_str.ensures.value, c.in_ok-digits.ensures.ok) (list_all-IsAscii _ (IsAscii-decimal_wide c.args.number range))

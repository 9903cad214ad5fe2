use Rattle.snap_review.proofs.Prelude.{◌<◌, ◌^◌, arith}
use Rattle.std.proofs.lemmas.Fmt.{IsAscii-decimal_wide}
use Rattle.snap_content.proofs.Ascii.{list_all-IsAscii}
use Rattle.snap_review.proofs.status.line_text.Goals as goal

pub push_ascii-requires : goal.push_ascii-requires
push_ascii-requires c =
    let range : c.args.line < 10 ^ 64 = omega arith in
    rw (c.as_str.ensures.value, c.in_ok-digits.ensures.ok) (list_all-IsAscii _ (IsAscii-decimal_wide c.args.line range))

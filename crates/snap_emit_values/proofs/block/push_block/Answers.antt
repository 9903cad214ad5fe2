use Rattle.snap_emit_values.proofs.Prelude.{◌≡◌, ℕ, List, ◌++◌, refl, ap, ◌∙◌, on_err_weaker, IsBegun, Blocks, chars, core, kept_ends, is_inside, block_sign, empty_lines, break_at, shifted, line_ends, block_text, place}
use Rattle.snap_emit_values.proofs.Begun.{begun_first, begun_then, begun_as, on_err}
use Rattle.snap_emit_values.proofs.block.push_block.Goals as goal

-- the lines of a block and what is after them, from what the code was told of the text
abbrev lines : ℕ → List ℕ → ℕ → List ℕ
lines k trimmed more = shifted k trimmed ++ line_ends more

abbrev told : ℕ → ℕ → List ℕ → ℕ → List ℕ
told k kept trimmed more = block_sign kept ++ (break_at k ++ lines k trimmed more)

same : (k : ℕ) (w : Blocks) (text trimmed : List ℕ) (kept more : ℕ) → trimmed ≡ core text → kept ≡ kept_ends text → more ≡ empty_lines (is_inside w) kept
    → told k kept trimmed more ≡ block_text k w text
same k w text trimmed kept more one two three =
    ap (λ x. told k kept x more) one ∙ ap (λ n. told k kept (core text) n) three
    ∙ ap (λ n. told k n (core text) (empty_lines (is_inside w) n)) two

pub returns-in_err-push_sign-clause-err : goal.returns-in_err-push_sign-clause-err
returns-in_err-push_sign-clause-err c =
    let k = c.args.column in
    let w = place c.args.blocks in
    let text = chars c.args.text.now in
    let trimmed = chars c.trim_line_ends-trimmed.result.now in
    let kept = c.count_line_ends-kept.result in
    let more = empty_lines (is_inside w) kept in
    let h : IsBegun c.args.out.now c.push_sign.new.out (block_text c.args.column (place c.args.blocks) (chars c.args.text.now)) =
    begun_as c.args.out.now c.push_sign.new.out (told k kept trimmed more) (block_text k w text)
    (same k w text trimmed kept more c.trim_line_ends-trimmed.ensures c.count_line_ends-kept.ensures refl)
    (begun_first c.args.out.now c.push_sign.new.out (block_sign kept) (break_at k ++ lines k trimmed more) c.in_err-push_sign.ensures.err) in
    on_err c.from_residual.result _ h

pub returns-in_err-break_line-clause-err : goal.returns-in_err-break_line-clause-err
returns-in_err-break_line-clause-err c =
    let k = c.args.column in
    let w = place c.args.blocks in
    let text = chars c.args.text.now in
    let trimmed = chars c.trim_line_ends-trimmed.result.now in
    let kept = c.count_line_ends-kept.result in
    let more = empty_lines (is_inside w) kept in
    let h : IsBegun c.args.out.now c.break_line.new.out (block_text c.args.column (place c.args.blocks) (chars c.args.text.now)) =
    begun_as c.args.out.now c.break_line.new.out (told k kept trimmed more) (block_text k w text)
    (same k w text trimmed kept more c.trim_line_ends-trimmed.ensures c.count_line_ends-kept.ensures refl)
    (begun_then c.args.out.now c.push_sign.new.out c.break_line.new.out (block_sign kept) (break_at k ++ lines k trimmed more) c.in_ok-push_sign.ensures.ok
    (begun_first c.push_sign.new.out c.break_line.new.out (break_at k) (lines k trimmed more) c.in_err-break_line.ensures.err)) in
    on_err c.from_residual-in_err-break_line.result _ h

pub returns-in_err-push_lines-clause-err : goal.returns-in_err-push_lines-clause-err
returns-in_err-push_lines-clause-err c =
    let k = c.args.column in
    let w = place c.args.blocks in
    let text = chars c.args.text.now in
    let trimmed = chars c.trim_line_ends-trimmed.result.now in
    let kept = c.count_line_ends-kept.result in
    let more = empty_lines (is_inside w) kept in
    let h : IsBegun c.args.out.now c.push_lines.new.out (block_text c.args.column (place c.args.blocks) (chars c.args.text.now)) =
    begun_as c.args.out.now c.push_lines.new.out (told k kept trimmed more) (block_text k w text)
    (same k w text trimmed kept more c.trim_line_ends-trimmed.ensures c.count_line_ends-kept.ensures refl)
    (begun_then c.args.out.now c.push_sign.new.out c.push_lines.new.out (block_sign kept) (break_at k ++ lines k trimmed more) c.in_ok-push_sign.ensures.ok
    (begun_then c.push_sign.new.out c.break_line.new.out c.push_lines.new.out (break_at k) (lines k trimmed more) c.in_ok-break_line.ensures.ok
    (begun_first c.break_line.new.out c.push_lines.new.out (shifted k trimmed) (line_ends more) c.in_err-push_lines.ensures.err))) in
    on_err c.from_residual-in_err-push_lines.result _ h

pub returns-clause-err : goal.returns-clause-err
returns-clause-err c =
    let k = c.args.column in
    let w = place c.args.blocks in
    let text = chars c.args.text.now in
    let trimmed = chars c.trim_line_ends-trimmed.result.now in
    let kept = c.count_line_ends-kept.result in
    let more = c.empty_lines.result in
    on_err_weaker c.push_line_ends.result
    (λ h. begun_as c.args.out.now c.push_line_ends.new.out (told k kept trimmed more) (block_text k w text)
    (same k w text trimmed kept more c.trim_line_ends-trimmed.ensures c.count_line_ends-kept.ensures c.empty_lines.ensures)
    (begun_then c.args.out.now c.push_sign.new.out c.push_line_ends.new.out (block_sign kept) (break_at k ++ lines k trimmed more) c.in_ok-push_sign.ensures.ok
    (begun_then c.push_sign.new.out c.break_line.new.out c.push_line_ends.new.out (break_at k) (lines k trimmed more) c.in_ok-break_line.ensures.ok
    (begun_then c.break_line.new.out c.push_lines.new.out c.push_line_ends.new.out (shifted k trimmed) (line_ends more) c.in_ok-push_lines.ensures.ok h))))
    c.push_line_ends.ensures.err

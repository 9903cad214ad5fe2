use Rattle.std.proofs.Common.{◌-◌, take, drop, length}
use Rattle.snap_mask.proofs.Prelude.{ap, ◌∙◌, selected}
use Rattle.snap_mask.proofs.RulesRead.{first_word, first_put}
use Rattle.snap_mask.proofs.rules.put_at.Goals as goal

pub returns-in_ok-put_text-in-len1-up-clause-rule : goal.returns-in_ok-put_text-in-len1-up-clause-rule
returns-in_ok-put_text-in-len1-up-clause-rule c =
    let words = c.args.words.now in
    first_put words c.args.selector.now c.text-item.result (take (length words - 1) (drop 1 words)) c.in-Some.selector c.in_ok-put_text-in-len1-up.field-0
    (first_word words c.text-item.result c.in-len1-up.len_at_least c.text-item.is)
    ((rw c.in-Some.is at c.in_ok-selector-in-len1-up.ensures) ∙ ap selected c.as_str.ensures) c.in_ok-put_text-in-len1-up.ensures

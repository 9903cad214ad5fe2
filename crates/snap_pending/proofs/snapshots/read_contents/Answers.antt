use Rattle.snap_pending.proofs.Prelude.{codes, last_value}
use Rattle.snap_pending.proofs.Texts.{contents_told}
use Rattle.snap_pending.proofs.snapshots.read_contents.Goals as goal

pub returns-in_ok-from_str-in-Some-text_named : goal.returns-in_ok-from_str-in-Some-text_named
returns-in_ok-from_str-in-Some-text_named c = λ entries made.
    contents_told (last_value (codes "snapshot") entries) _ _ c.inline_contents.result (c.in-Some-text_named.ensures.made entries made)
    c.in_ok-from_str-in-Some-text_named.ensures c.inline_contents.ensures

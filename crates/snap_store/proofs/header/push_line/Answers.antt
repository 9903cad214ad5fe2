use Rattle.snap_store.proofs.Headers.{line_pushed}
use Rattle.snap_store.proofs.header.push_line.Goals as goal

pub returns-in_ok-push_field : goal.returns-in_ok-push_field
returns-in_ok-push_field c = λ rest. line_pushed _ _ _ _ rest c.in-Some.is (c.in_ok-push_field.ensures rest)

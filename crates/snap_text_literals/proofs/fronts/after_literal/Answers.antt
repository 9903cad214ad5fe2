use Rattle.snap_text_literals.proofs.LiteralFronts.{quoted_literal, raw_literal, quoted_refused, raw_refused}
use Rattle.snap_text_literals.proofs.fronts.after_literal.Goals as goal

pub returns-in-Some : goal.returns-in-Some
returns-in-Some c = quoted_literal _ _ _ _ c.in_ok-first.ensures c.if-first-eq34.true c.in-Some.ensures

pub returns-in-None : goal.returns-in-None
returns-in-None c = quoted_refused _ _ _ c.in_ok-first.ensures c.if-first-eq34.true c.in-None.ensures

pub returns-in-Some-after_raw : goal.returns-in-Some-after_raw
returns-in-Some-after_raw c = raw_literal _ _ _ _ c.in_ok-first.ensures c.if-first-eq114.true c.in-Some-after_raw.ensures

pub returns-in-None-after_raw : goal.returns-in-None-after_raw
returns-in-None-after_raw c = raw_refused _ _ _ c.in_ok-first.ensures c.if-first-eq114.true c.in-None-after_raw.ensures

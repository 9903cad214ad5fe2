use Rattle.snap_text_literals.proofs.LiteralFronts.{raw_forward, raw_back, raw_none}
use Rattle.snap_text_literals.proofs.fronts.after_raw.Goals as goal

pub returns-in-None : goal.returns-in-None
returns-in-None c = λ b h.
    let p = raw_back _ _ _ c.split_hashes-count.ensures.is c.split_hashes-count.ensures.whole b h in
    c.in-None.ensures p.0 p.1

pub returns-in-Some-after_body : goal.returns-in-Some-after_body
returns-in-Some-after_body c = raw_forward _ _ _ _ c.split_hashes-count.ensures.is c.in-Some.ensures _ c.in-Some-after_body.ensures

pub returns-in-None-after_body : goal.returns-in-None-after_body
returns-in-None-after_body c = raw_none _ _ _ _ c.split_hashes-count.ensures.is c.split_hashes-count.ensures.whole c.in-Some.ensures c.in-None-after_body.ensures

use Rattle.snap_text_literals.proofs.Outcomes.{raw_result}
use Rattle.snap_text_literals.proofs.Reading.{raw_body}
use Rattle.snap_text_literals.proofs.read.read_raw.Goals as goal

pub returns-in-Some : goal.returns-in-Some
returns-in-Some c =
    raw_result c.read_body.result _ _ _ _ c.split_hashes-count.ensures.is c.split_hashes-count.ensures.whole c.in-Some.ensures c.read_body.ensures

pub returns-in-None : goal.returns-in-None
returns-in-None c = λ t h.
    let p = raw_body _ _ _ c.split_hashes-count.ensures.is c.split_hashes-count.ensures.whole t h in
    c.in-None.ensures p.0 p.1

use Rattle.snap_text_literals.proofs.Prelude.{chars}
use Rattle.snap_text_literals.proofs.Outcomes.{literal_result}
use Rattle.snap_text_literals.proofs.read.read_literal.Goals as goal

pub returns-then-first-eq114 : goal.returns-then-first-eq114
returns-then-first-eq114 c =
    literal_result c.read_raw.result (chars c.args.source.now) (chars c.in-Some.rest.now) c.in-Some.first c.in-Some.ensures c.if-first-eq114.true c.read_raw.ensures

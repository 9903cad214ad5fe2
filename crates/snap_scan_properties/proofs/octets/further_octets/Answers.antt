use Rattle.snap_scan_properties.proofs.Prelude.{◌≡◌, arith}
use Rattle.snap_scan_properties.proofs.Spelled.{continues-none, answers-at}
use Rattle.snap_scan_properties.proofs.octets.further_octets.Goals as goal

pub returns-then-count-eq0-clause-value : goal.returns-then-count-eq0-clause-value
returns-then-count-eq0-clause-value c = continues-none c.args.cursor.now c.args.count c.args.bits c.if-count-eq0.true

pub returns-then-count-eq1-clause-value : goal.returns-then-count-eq1-clause-value
returns-then-count-eq1-clause-value c =
    answers-at c.args.cursor.now c.one_further.new.cursor c.args.count 1 c.args.bits c.one_further.result c.if-count-eq1.true c.one_further.ensures.value

pub returns-then-count-eq2-clause-value : goal.returns-then-count-eq2-clause-value
returns-then-count-eq2-clause-value c =
    answers-at c.args.cursor.now c.two_further.new.cursor c.args.count 2 c.args.bits c.two_further.result c.if-count-eq2.true c.two_further.ensures.value

pub returns-clause-value : goal.returns-clause-value
returns-clause-value c =
    let last : c.args.count ≡ 3 = omega (arith, c.requires.count, c.if-count-eq0.false, c.if-count-eq1.false, c.if-count-eq2.false) in
    answers-at c.args.cursor.now c.three_further.new.cursor c.args.count 3 c.args.bits c.three_further.result last c.three_further.ensures.value

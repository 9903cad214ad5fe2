use Rattle.snap_str.proofs.Cuts.{CutsFirst, lacks}
use Rattle.snap_str.proofs.Bytes.{splits_round}
use Rattle.snap_str.proofs.cut.split_at_byte.Goals as goal

pub returns-in-None-clause-cut : goal.returns-in-None-clause-cut
returns-in-None-clause-cut c = lacks c.args.mark c.args.text.now c.utf8.text c.in-None.ensures

pub returns-in-Some-clause-cut : goal.returns-in-Some-clause-cut
returns-in-Some-clause-cut c =
    let s : CutsFirst c.args.mark c.args.text.now c.split_at-in-Some.result.0.now c.split_at.result.1.now =
    splits_round c.args.mark c.args.text.now c.split_at-in-Some.result.0.now c.split_at.result.1.now c.in-Some.at c.requires c.utf8.text c.in-Some.ensures c.split_at-in-Some.ensures.front c.split_at.ensures.back in
    s.cut

pub returns-in-Some-clause-shorter : goal.returns-in-Some-clause-shorter
returns-in-Some-clause-shorter c =
    let s : CutsFirst c.args.mark c.args.text.now c.split_at-in-Some.result.0.now c.split_at.result.1.now =
    splits_round c.args.mark c.args.text.now c.split_at-in-Some.result.0.now c.split_at.result.1.now c.in-Some.at c.requires c.utf8.text c.in-Some.ensures c.split_at-in-Some.ensures.front c.split_at.ensures.back in
    s.shorter

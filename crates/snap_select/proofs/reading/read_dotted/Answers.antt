use Rattle.snap_select.proofs.Prelude.{chars}
use Rattle.snap_select.proofs.Readers.{wildcard_read, name_read}
use Rattle.snap_select.proofs.reading.read_dotted.Goals as goal

pub returns-in-Some-clause-ok : goal.returns-in-Some-clause-ok
returns-in-Some-clause-ok c = wildcard_read (chars c.args.text.now) (chars c.in-Some.rest.now) c.read_wildcard.result.0 (chars c.read_wildcard.result.1.now) c.in-Some.ensures c.read_wildcard.ensures.read

pub returns-in-Some-split_name-clause-ok : goal.returns-in-Some-split_name-clause-ok
returns-in-Some-split_name-clause-ok c =
    let n = c.in-Some-split_name in
    name_read (chars c.args.text.now) (chars n.name.now) c.borrowed.result (chars n.rest.now) n.ensures c.borrowed.ensures

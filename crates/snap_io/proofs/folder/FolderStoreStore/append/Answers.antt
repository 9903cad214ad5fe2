use Rattle.snap_io.proofs.Prelude.{ap, rules, encode_utf8_all, encodes-chars}
use Rattle.snap_io.proofs.folder.FolderStoreStore.append.Goals as goal

pub returns-clause-asked : goal.returns-clause-asked
returns-clause-asked g c = rw (← ap encode_utf8_all c.as_str.ensures, encodes-chars c.as_str.result.now c.as_str.utf8, c.counted.ensures.same, c.counted.ensures.asked) (grind rules)

use Rattle.snap_parse_laws.proofs.Documents.{dumped-source}
use Rattle.snap_parse_laws.proofs.laws.dumped_texts_owe_their_tokens.Goals as goal

pub returns : goal.returns
returns c = dumped-source

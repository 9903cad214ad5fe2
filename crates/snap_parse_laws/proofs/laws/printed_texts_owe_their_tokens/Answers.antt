use Rattle.snap_parse_laws.proofs.Documents.{plain-source}
use Rattle.snap_parse_laws.proofs.laws.printed_texts_owe_their_tokens.Goals as goal

pub returns : goal.returns
returns c = plain-source

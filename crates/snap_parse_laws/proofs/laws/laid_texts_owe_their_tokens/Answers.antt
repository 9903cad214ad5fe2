use Rattle.snap_parse_laws.proofs.Documents.{laid-source}
use Rattle.snap_parse_laws.proofs.laws.laid_texts_owe_their_tokens.Goals as goal

pub returns : goal.returns
returns c = laid-source

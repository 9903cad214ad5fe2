use Rattle.snap_parse_laws_json.proofs.Texts.{text-source}
use Rattle.snap_parse_laws_json.proofs.laws.json_texts_owe_their_tokens.Goals as goal

pub returns : goal.returns
returns c = text-source

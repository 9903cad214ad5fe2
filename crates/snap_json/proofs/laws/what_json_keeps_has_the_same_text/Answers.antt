use Rattle.snap_json.proofs.Kept.{text_kept}
use Rattle.snap_json.proofs.laws.what_json_keeps_has_the_same_text.Goals as goal

pub returns : goal.returns
returns c = text_kept

use Rattle.snap_text.proofs.Prelude.{inr, raw_of, kind_of}
use Rattle.snap_text.proofs.Agreeing.{files_older}
use Rattle.snap_text.proofs.laws.files_agree_by_their_older_forms.Goals as goal

pub returns : goal.returns
returns c = λ a b h k. (files_older (kind_of a) (kind_of b) (raw_of a) (raw_of b) h k, inr)

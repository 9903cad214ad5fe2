use Rattle.snap_text_literals.proofs.Prelude.{refl, inline_normal, spelled}
use Rattle.snap_text_literals.proofs.InlineLaw.{comes-back}
use Rattle.snap_text_literals.proofs.laws.inline_law.Goals as goal

pub returns : goal.returns
returns c = λ indentation text. comes-back (spelled indentation (inline_normal text)) indentation text refl

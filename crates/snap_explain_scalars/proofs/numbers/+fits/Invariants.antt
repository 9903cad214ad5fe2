use Rattle.snap_explain_scalars.proofs.Prelude.{length, chars}
use Rattle.snap_explain_scalars.proofs.numbers.+fits.Given as goal

abbrev pub decreases-fits : goal.decreases-fits
decreases-fits l = length (chars l.text.now)

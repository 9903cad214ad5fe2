use Rattle.snap_assert_place.proofs.Prelude.{◌∙◌, ap, unwrap_or, [], refl, chars-ascii, name_of}
use Rattle.snap_assert_place.proofs.paths.name_of_file.Goals as goal

pub returns-in-None : goal.returns-in-None
returns-in-None c = chars-ascii [] refl ∙ ap (λ o. unwrap_or o []) (c.in-None.ensures ∙ ap name_of c.file.ensures)

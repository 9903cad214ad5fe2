use Rattle.snap_select.proofs.Prelude.{◌≡◌, sym, ◌∙◌, selects}
use Rattle.snap_select.proofs.Outcomes.{selector_selects}
use Rattle.snap_select.proofs.laws.parts_are_unique.Goals as goal

pub returns : goal.returns
returns c text a b h k = let e : selects a ≡ selects b = sym (selector_selects text a h) ∙ selector_selects text b k in cc

use Rattle.snap_mask.proofs.Prelude.{ap, sym, Some, ◌∙◌, chars}
use Rattle.snap_select.specs.Selectors.{parts_of}
use Rattle.snap_select.proofs.Outcomes.{selector_selected}
use Rattle.snap_mask.proofs.RulesRead.{selected-none}
use Rattle.snap_mask.proofs.rules.read_selector.Goals as goal

pub returns-in_ok-make_static-in-Ok : goal.returns-in_ok-make_static-in-Ok
returns-in_ok-make_static-in-Ok c =
    ap Some c.in_ok-make_static-in-Ok.ensures ∙ sym (selector_selected (chars c.args.text.now) (parts_of c.in-Ok.selector) c.in-Ok.ensures.ok)

pub returns-in-Err-Parse : goal.returns-in-Err-Parse
returns-in-Err-Parse c = sym (selected-none (chars c.args.text.now) (rw c.in-Err-Parse.field-0-is at c.in-Err-Parse.ensures.refused).refused)

use Rattle.snap_select.proofs.Prelude.{ap, step_of, step_text}
use Rattle.snap_select.proofs.ShownPaths.{shown_item}
use Rattle.snap_select.proofs.content_path.ShownItemDisplay.fmt.Goals as goal

pub returns-in-Content-clause-writes : goal.returns-in-Content-clause-writes
returns-in-Content-clause-writes g c = λ plain ok.
    shown_item g.W.Write.write_str_gives c.args.f.now c.write_str.new.self c.args.self.now.item.now _ c.key_text.result.now (ap (λ x. step_text (step_of x)) c.in-Content.is) c.key_text.ensures c.key_text.utf8 (c.write_str.ensures.writes plain ok)

pub returns-in-Field-clause-writes : goal.returns-in-Field-clause-writes
returns-in-Field-clause-writes g c = λ plain ok.
    shown_item g.W.Write.write_str_gives c.args.f.now c.write_str-in-Field.new.self c.args.self.now.item.now _ c.as_str.result.now (ap (λ x. step_text (step_of x)) c.in-Field.is) c.as_str.ensures c.as_str.utf8 (c.write_str-in-Field.ensures.writes plain ok)

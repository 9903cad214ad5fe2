use Rattle.snap_select.proofs.Prelude.{◌+◌, ◌∷◌, [], take, rules, map, HasWritten, step_of, step_text, items_of}
use Rattle.snap_select.proofs.ShownPaths.{shown_more, items_more}
use Rattle.snap_select.proofs.content_path.ContentPathDisplay.fmt.Goals as goal

pub loop-item-preserved : goal.loop-item-preserved
loop-item-preserved g c = λ plain.
    let took = g.W.Write.write_str_gives in
    let xs = items_of c.args.self.now in
    let i = c.loop-item.item-index in
    let item = c.item-item.result in
    let shown = c.loop-item.invariant plain in
    let one : HasWritten took c.loop-item.f (46 ∷ []) c.write_str.new.self = c.in_ok-write_str.ensures.writes shown.plain (search rules) in
    let two : HasWritten took c.write_str.new.self (step_text (step_of item)) c.fmt.new.f = c.in_ok-fmt.ensures.writes one.plain (search rules) in
    shown_more took c.args.f.now c.loop-item.f c.write_str.new.self c.fmt.new.f (map step_of (take i xs)) (step_of item) (map step_of (take (i + 1) xs)) (items_more xs i item c.loop-item-test.true c.item-item.is) shown one two

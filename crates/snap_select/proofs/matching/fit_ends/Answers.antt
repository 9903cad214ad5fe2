use Rattle.snap_select.proofs.Prelude.{◌-◌, length, take, drop, map, sym, ap, ◌∙◌, step_of, fit_each, last_of}
use Rattle.snap_select.proofs.Lasts.{last_of-map, rest_of}
use Rattle.snap_select.proofs.matching.fit_ends.Goals as goal

pub returns : goal.returns
returns c =
    let segments = c.args.segments.now in
    let path = c.args.path.now in
    let count = c.args.count in
    let steps = take (length path - (length path - count)) (drop (length path - count) path) in
    c.fit_each.ensures
    ∙ ap (λ x. fit_each x (map step_of steps)) (rest_of (length segments - count) segments)
    ∙ ap (λ x. fit_each (last_of count segments) (map step_of x)) (rest_of (length path - count) path)
    ∙ ap (λ x. fit_each (last_of count segments) x) (sym (last_of-map step_of count path))

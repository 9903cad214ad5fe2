use Rattle.snap_io.proofs.Prelude.{◌+◌, ◌∷◌, take, drop, ap, sym, ◌∙◌, add-one, slice_split, is_zero}
use Rattle.snap_io.proofs.Parts.{one_name, first_name}
use Rattle.snap_io.proofs.folder_names.split_name.Goals as goal

pub returns-in-None-clause-cut : goal.returns-in-None-clause-cut
returns-in-None-clause-cut c = one_name c.args.bytes.now c.in-None.ensures

pub returns-in-Some-clause-cut : goal.returns-in-Some-clause-cut
returns-in-Some-clause-cut c =
    let bytes = c.args.bytes.now in
    let at = c.in-Some.at in
    let first = c.in-Some.ensures in
    first_name bytes at first.0.high first.0.before first.1
    ∙ ap (λ n. take at bytes ∷ slice_split is_zero (drop n bytes)) (sym (add-one at))
    ∙ ap (λ name. name ∷ slice_split is_zero (drop (at + 1) bytes)) (sym c.split_at.ensures.front)
    ∙ ap (λ more. c.split_at.result.0.now ∷ slice_split is_zero more) (sym c.split_at-in-Some.ensures.back)

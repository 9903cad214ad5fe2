use Rattle.snap_yaml.proofs.Prelude.{Option, sym, ap, ◌∙◌, Value, value_of, array_list, value_at_index}
use Rattle.snap_yaml.proofs.Views.{value-Array, item-found}
use Rattle.snap_yaml.proofs.yaml.Yaml.get_at.Goals as goal

pub returns-in-Array : goal.returns-in-Array
returns-in-Array c =
    let f : Value → Option Value = λ x. value_at_index c.args.index x in
    item-found c.get.result (array_list c.in-Array.items) c.args.index c.get.ensures ∙ ap f (sym (ap value_of c.in-Array.is ∙ value-Array c.in-Array.items))

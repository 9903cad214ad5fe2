use Rattle.snap_yaml.proofs.Prelude.{List, ℕ, Bool, sym, ap, ◌∙◌, chars, bytes_eq, same_texts, Value, value_of, is_text}
use Rattle.snap_yaml.proofs.Views.{value-String}
use Rattle.snap_yaml.proofs.yaml.Yaml.is_text.Goals as goal

pub returns-in-String : goal.returns-in-String
returns-in-String c =
    let name = c.args.text.now in
    let f : List ℕ → Bool = λ own. bytes_eq own (chars name) in
    let g : Value → Bool = λ x. is_text (chars name) x in
    c.eq.ensures ∙ same_texts c.as_str.result.now name c.as_str.utf8 c.utf8.text ∙ ap f c.as_str.ensures ∙ ap g (sym (ap value_of c.in-String.is ∙ value-String c.in-String.own))

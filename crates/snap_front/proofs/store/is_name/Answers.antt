use Rattle.snap_front.proofs.Prelude.{ℕ, List, ap, ◌∙◌, chars, bytes_eq}
use Rattle.snap_front.proofs.store.is_name.Goals as goal

pub returns : goal.returns
returns c = c.is_same_text.ensures ∙ ap (λ (x : List ℕ). bytes_eq x (chars c.as_str-right.result.now)) c.as_str-left.ensures ∙ ap (bytes_eq c.args.text.now) c.as_str-right.ensures

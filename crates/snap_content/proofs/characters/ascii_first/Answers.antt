use Rattle.snap_content.proofs.Prelude.{◌<◌, ◌∷◌, List, ℕ, ap, sym, ◌∙◌, subst, get_or, chars}
use Rattle.snap_content.proofs.FirstByte.{after_first, first_is, some_byte}
use Rattle.snap_content.proofs.characters.ascii_first.Goals as goal

pub range_from-requires : goal.range_from-requires
range_from-requires c = λ _.
    let P : List ℕ → Type 0 = λ t. get_or t 0 0 < 128 in
    after_first c.args.text.now c.utf8.text (some_byte c.args.text.now _ c.as_bytes-bytes.ensures.value (sym c.if-is_empty.false ∙ c.is_empty.ensures)) (subst P c.as_bytes-bytes.ensures.value c.if-bytes-ge128.false)

pub returns : goal.returns
returns c =
    let P : List ℕ → Type 0 = λ t. get_or t 0 0 < 128 in
    first_is c.args.text.now c.range_from.result.now c.utf8.text (some_byte c.args.text.now _ c.as_bytes-bytes.ensures.value (sym c.if-is_empty.false ∙ c.is_empty.ensures)) (subst P c.as_bytes-bytes.ensures.value c.if-bytes-ge128.false) c.range_from.ensures.value
    ∙ ap (λ t. get_or t 0 0 ∷ chars c.range_from.result.now) (sym c.as_bytes-bytes.ensures.value)

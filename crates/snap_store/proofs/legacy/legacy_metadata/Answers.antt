use Rattle.snap_store.proofs.Prelude.{refl, codes, chars, meta_of}
use Rattle.snap_content.proofs.Ascii.{chars-ascii}
use Rattle.snap_store.proofs.LegacyFields.{field_told, both_told}
use Rattle.snap_store.proofs.legacy.legacy_metadata.Goals as goal

pub returns : goal.returns
returns c =
    let text = chars c.args.text.now in
    let lines = chars c.behind_first_line-lines.result.now in
    let source = c.in_ok-source.source in
    let expression = c.in_ok-expression.expression in
    let behind = c.behind_first_line-lines.ensures in
    both_told text source expression (meta_of c.empty-metadata.result) (meta_of c.set_source.new.self) (meta_of c.set_expression.new.self)
    c.empty-metadata.ensures c.set_source.ensures c.set_expression.ensures
    (field_told text lines (codes "source") source (chars-ascii (codes "source") refl) behind c.in_ok-source.ensures)
    (field_told text lines (codes "expression") expression (chars-ascii (codes "expression") refl) behind c.in_ok-expression.ensures)

use Rattle.snap_store.proofs.Prelude.{sym, ◌∙◌}
use Rattle.snap_store.proofs.Outcomes.{header_read, refused_header, refused_fields, fields_no_fault, read_as}
use Rattle.std.proofs.lemmas.Result.{err_from_is_err_and}
use Rattle.snap_store.proofs.reading.headed_snapshot.Goals as goal

pub returns-in_err-header-clause-end : goal.returns-in_err-header-clause-end
returns-in_err-header-clause-end c = λ file text there split.
    let told = err_from_is_err_and c.from_residual-in_err-header.result c.from_residual-in_err-header.ensures.1 in
    rw (told.1, told.2) (refused_header text _ c.args.path.now file c.args.headed c.in_err-header.field-0.0 there split c.as_str.ensures c.in_err-header.ensures.end)

pub returns-in_err-metadata-clause-end : goal.returns-in_err-metadata-clause-end
returns-in_err-metadata-clause-end c = λ file text there split.
    let told = err_from_is_err_and c.from_residual-in_err-metadata.result c.from_residual-in_err-metadata.ensures.1 in
    let made = c.in_ok-header.ensures in
    let has = header_read text _ c.args.headed c.in_ok-header.header split c.as_str.ensures made.end made.numbers made.stream made.nodes in
    rw (told.1, told.2) (refused_fields text c.args.path.now file has.plain _ c.in_err-metadata.field-0.0 there has.read (c.in_err-metadata.ensures.read has.plain has.tree_is))

pub returns-in_err-metadata-clause-no_fault : goal.returns-in_err-metadata-clause-no_fault
returns-in_err-metadata-clause-no_fault c =
    let told = err_from_is_err_and c.from_residual-in_err-metadata.result c.from_residual-in_err-metadata.ensures.1 in
    let read = c.in_ok-header.ensures.end in
    λ count. rw (told.1, told.2) (fields_no_fault read.plain c.in_err-metadata.field-0.0 count (c.in_err-metadata.ensures.read read.plain read.tree_is))

pub returns-clause-end : goal.returns-clause-end
returns-clause-end c = λ file text there split.
    let told = c.in_ok-header.ensures in
    let has = header_read text _ c.args.headed c.in_ok-header.header split c.as_str.ensures told.end told.numbers told.stream told.nodes in
    let gives = c.in_ok-metadata.ensures.read has.plain has.tree_is in
    let kept = c.with_number_text.ensures in
    let made = c.from_components-snapshot.ensures in
    read_as text c.args.headed.body file has.plain _ c.in_ok-metadata.metadata c.with_number_text.result _ c.contents_of-contents.result there has.read gives
    c.kind.ensures split.body_is (kept.metadata ∙ made.metadata) (sym (kept.legacy ∙ made.legacy)) (sym kept.number) (sym (kept.contents ∙ made.contents))
    c.contents_of-contents.ensures

use Rattle.snap_scan_blocks.proofs.Prelude.{◌≡◌, ◌∙◌, ℕ, List, codes, refl, sym, subst, Ok, ScanError, block_fault, header_fault, Mark, Place, BlockScalar, Lines, between, header_from, with_breaks, Passes, IsRefusedOpening, ReadsLines}
use Rattle.snap_scan_tokens.specs.Causes.{IsRefusedBy, IsFault}
use Rattle.snap_scan_tokens.specs.declared.info.ScanInfo.{ScanInfo}
use Rattle.snap_scan_tokens.specs.declared.info.ScanInfo.TheVariants.{S28}
use Rattle.snap_scan_tokens.proofs.Places.{travels-on}
use Rattle.snap_scan_tokens.proofs.Explained.{explained, explained-at}
use Rattle.snap_scan_blocks.proofs.Blocks.{Begun, refused-opening, block-read, late-fault, early-fault}
use Rattle.std.proofs.lemmas.Result.{err_from_is_err_and}
use Rattle.snap_scan_blocks.proofs.block_scalar.scan_block_scalar.Goals as goal

pub returns-in_err-header-clause-cause : goal.returns-in_err-header-clause-cause
returns-in_err-header-clause-cause c =
    let told = err_from_is_err_and c.from_residual.result c.from_residual.ensures.1 in
    let error = c.in_err-header.field-0.0 in
    let P : Mark → Type 0 = λ m. IsRefusedBy (codes "|>") m error in
    rw (told.1, told.2) (explained c.args.cursor.now (codes "|>") error c.requires refl (subst P c.mark-start.ensures c.in_err-header.ensures.cause))

pub returns-in_err-indentation-clause-value : goal.returns-in_err-indentation-clause-value
returns-in_err-indentation-clause-value c =
    let told = err_from_is_err_and c.from_residual-in_err-indentation.result c.from_residual-in_err-indentation.ensures.1 in
    let error = c.in_err-indentation.field-0.0 in
    let P : Lines → Type 0 = λ l. IsRefusedOpening c.in_ok-header.header.indentation c.args.indent l.breaks c.scan_header.new.cursor error in
    rw (told.1, told.2) (refused-opening c.args.indent c.args.literal (header_from c.args.cursor.now) c.in_ok-header.header c.scan_header.new.cursor c.scan_opening.new.cursor error
    c.in_ok-header.ensures.value (subst P c.new-lines.ensures c.in_err-indentation.ensures.refused))

pub returns-in_err-indentation-clause-cause : goal.returns-in_err-indentation-clause-cause
returns-in_err-indentation-clause-cause c =
    let told = err_from_is_err_and c.from_residual-in_err-indentation.result c.from_residual-in_err-indentation.ensures.1 in
    let moved = travels-on c.scan_header.ensures.travels c.scan_opening.ensures.travels in
    rw (told.1, told.2) (explained-at c.args.cursor.now c.scan_opening.new.cursor (codes "|>") c.in_err-indentation.field-0.0 c.requires refl moved.sum moved.lighter c.in_err-indentation.ensures.cause)

pub returns-in_err-scan-clause-cause : goal.returns-in_err-scan-clause-cause
returns-in_err-scan-clause-cause c =
    let told = err_from_is_err_and c.from_residual-in_err-scan.result c.from_residual-in_err-scan.ensures.1 in
    let moved = travels-on (travels-on c.scan_header.ensures.travels c.scan_opening.ensures.travels) c.scan.ensures.travels in
    rw (told.1, told.2) (explained-at c.args.cursor.now c.scan.new.cursor (codes "|>") c.in_err-scan.field-0.0 c.requires refl moved.sum moved.lighter c.in_err-scan.ensures.cause)

pub returns-clause-value : goal.returns-clause-value
returns-clause-value c =
    let p : Place = c.scan_header.new.cursor in
    let q : Place = c.scan_opening.new.cursor in
    let r : Place = c.scan.new.cursor in
    let n : ℕ = c.in_ok-indentation.indentation in
    let breaks : List ℕ = c.scan_opening.new.breaks in
    let scalar : BlockScalar = record { mark = c.mark-mark.result; text = c.owned.result } in
    let P : Lines → Type 0 = λ l. Passes n l.breaks p breaks q in
    let Q : Lines → Type 0 = λ l. ReadsLines (between n c.args.literal (with_breaks breaks l) q.left q) (Ok c.in_ok-scan.field-0) c.scan.new.self r in
    let begun : Begun c.args.indent c.in_ok-header.header p n breaks q = record {
      indentation = c.in_ok-indentation.ensures.indentation;
      tab = c.in_ok-indentation.ensures.tab;
      passed = subst P c.new-lines.ensures c.in_ok-indentation.ensures.value;
      stands = c.in_ok-indentation.ensures.stands;
    } in
    block-read c.in_ok-scan.field-0 c.args.indent c.args.literal (header_from c.args.cursor.now) c.in_ok-header.header p n breaks q r c.scan.new.self scalar
    c.in_ok-header.ensures.value begun (subst Q c.new-lines.ensures c.in_ok-scan.ensures.value) (c.owned.ensures ∙ c.in_ok-text.ensures) c.mark-mark.ensures

pub returns-in_err-header-clause-info : goal.returns-in_err-header-clause-info
returns-in_err-header-clause-info c =
    let told = err_from_is_err_and c.from_residual.result c.from_residual.ensures.1 in
    let p : Place = c.args.cursor.now in
    let error = c.in_err-header.field-0.0 in
    let same : block_fault p ≡ header_fault p = early-fault (header_from p) error c.scan_header.new.cursor (header_fault p) c.in_err-header.ensures.value in
    let P : ScanError → Type 0 = λ e. IsFault (block_fault p) e in
    rw (told.1, told.2) (subst P (sym c.in_err-header.ensures.info) (sym same))

pub returns-in_err-indentation-clause-info : goal.returns-in_err-indentation-clause-info
returns-in_err-indentation-clause-info c =
    let told = err_from_is_err_and c.from_residual-in_err-indentation.result c.from_residual-in_err-indentation.ensures.1 in
    let p : Place = c.args.cursor.now in
    let error = c.in_err-indentation.field-0.0 in
    let same : block_fault p ≡ S28 = late-fault (header_from p) c.in_ok-header.header c.scan_header.new.cursor (header_fault p) c.in_ok-header.ensures.value in
    let P : ScanInfo → Type 0 = λ info. IsFault info error in
    rw (told.1, told.2) (subst P (sym same) c.in_err-indentation.ensures.info)

pub returns-in_err-scan-clause-info : goal.returns-in_err-scan-clause-info
returns-in_err-scan-clause-info c =
    let told = err_from_is_err_and c.from_residual-in_err-scan.result c.from_residual-in_err-scan.ensures.1 in
    let p : Place = c.args.cursor.now in
    let error = c.in_err-scan.field-0.0 in
    let same : block_fault p ≡ S28 = late-fault (header_from p) c.in_ok-header.header c.scan_header.new.cursor (header_fault p) c.in_ok-header.ensures.value in
    let P : ScanInfo → Type 0 = λ info. IsFault info error in
    rw (told.1, told.2) (subst P (sym same) c.in_err-scan.ensures.info)

-- A block scalar from what its parts read.
use Rattle.snap_scan_blocks.proofs.Prelude.{◌≡◌, ℕ, List, [], Bool, true, false, refl, sym, ap, ◌∙◌, subst, Option, Some, None, is_some, if◌then◌else◌, Ok, Err, BlockScalar, Lines, Block, Read, between, opened, lines_from, indentation_of, is_bad_tab, content_of, block_of, block_behind, ReadsBlock, Headed, ReadsHeader, no_lines, with_breaks, chomped, Passes, is_open, IsRefusedOpening, ReadsLines, ScanError, OutOfMemory, Syntax, Mark, Place, mark_of}
use Rattle.snap_scan_blocks.specs.declared.header.Header.{Header}
use Rattle.snap_scan_tokens.specs.declared.info.ScanInfo.{ScanInfo}
use Rattle.snap_scan_tokens.specs.declared.info.ScanInfo.TheVariants.{S28}
use Rattle.snap_scan_blocks.proofs.Between.{opened-stop}

-- out of memory is an answer to any text
pub no-memory : (o : Option Block) (p : Place) (e : ScanError) → e ≡ OutOfMemory → ReadsBlock o (Err e) p
no-memory None p e is = tt
no-memory (Some b) p e is = is

-- what was read of the header
header-is : (o : Option Headed) (header : Header) (p : Place) → ReadsHeader o (Ok header) p → o ≡ Some (record { header = header; place = p })
header-is None header p reads = absurd reads
header-is (Some h) header p reads =
    let f : Header → Option Headed = λ x. Some (record { header = x; place = p }) in
    let g : Place → Option Headed = λ x. Some (record { header = h.header; place = x }) in
    sym (ap f reads.0 ∙ ap g reads.1)

refused-opening-so : (indent : Option ℕ) (literal : Bool) (header : Header) (p q : Place) (e : ScanError) → IsRefusedOpening header.indentation indent [] p e
    → ReadsBlock (block_behind indent literal (Some (record { header = header; place = p }))) (Err e) q
refused-opening-so indent literal header p q OutOfMemory refused = no-memory (block_behind indent literal (Some (record { header = header; place = p }))) q OutOfMemory refl
refused-opening-so indent literal header p q (Syntax mark info) refused =
    let P : Option Read → Type 0 = λ o. ReadsBlock (block_of header (content_of header.indentation indent p) o) (Err (Syntax mark info)) q in
    subst P (sym (refused literal no_lines)) tt

-- what stands before the first line is refused
pub refused-opening : (indent : Option ℕ) (literal : Bool) (o : Option Headed) (header : Header) (p q : Place) (e : ScanError) → ReadsHeader o (Ok header) p
    → IsRefusedOpening header.indentation indent [] p e → ReadsBlock (block_behind indent literal o) (Err e) q
refused-opening indent literal o header p q e reads refused =
    let P : Option Headed → Type 0 = λ x. ReadsBlock (block_behind indent literal x) (Err e) q in
    subst P (sym (header-is o header p reads)) (refused-opening-so indent literal header p q e refused)

-- where the lines begin, as the header and the first lines have it
pub record Begun (indent : Option ℕ) (header : Header) (p : Place) (n : ℕ) (breaks : List ℕ) (q : Place) : Type 0 where
  pub indentation : n ≡ indentation_of header.indentation indent p
  pub tab : is_bad_tab header.indentation p ≡ false
  pub passed : Passes n [] p breaks q
  pub stands : is_open n q ≡ true

lines-are : (indent : Option ℕ) (literal : Bool) (header : Header) (p : Place) (n : ℕ) (breaks : List ℕ) (q : Place) → Begun indent header p n breaks q
    → between n literal (with_breaks breaks no_lines) q.left q ≡ lines_from header.indentation indent literal no_lines p
lines-are indent literal header p n breaks q b =
    let f : ℕ → Option Read = λ m. between m literal no_lines p.left p in
    rw b.tab (b.passed.0 literal no_lines ∙ ap f b.indentation)

mark-is : (indent : Option ℕ) (header : Header) (p : Place) (n : ℕ) (breaks : List ℕ) (q : Place) → Begun indent header p n breaks q
    → mark_of q ≡ content_of header.indentation indent p
mark-is indent header p n breaks q b =
    let f : Place → Mark = λ x. mark_of x in
    let g : ℕ → Place = λ m. opened m p.left p in
    ap f (sym (opened-stop n q b.stands) ∙ b.passed.1 ∙ ap g b.indentation)

read-so : {T : Type 0} (t : T) (header : Header) (mark : Mark) (o : Option Read) (p : Place) (lines : Lines) (scalar : BlockScalar) → ReadsLines o (Ok t) lines p
    → scalar.text ≡ chomped header.chomping lines → scalar.mark ≡ mark → ReadsBlock (block_of header mark o) (Ok scalar) p
read-so t header mark None p lines scalar reads text place = absurd reads
read-so t header mark (Some r) p lines scalar reads text place =
    let f : Lines → List ℕ = λ l. chomped header.chomping l in
    (text ∙ ap f reads.0, place, reads.1)

-- the block scalar is read
pub block-read : {T : Type 0} (t : T) (indent : Option ℕ) (literal : Bool) (o : Option Headed) (header : Header) (p : Place) (n : ℕ) (breaks : List ℕ) (q r : Place) (lines : Lines) (scalar : BlockScalar)
    → ReadsHeader o (Ok header) p → Begun indent header p n breaks q
    → ReadsLines (between n literal (with_breaks breaks no_lines) q.left q) (Ok t) lines r
    → scalar.text ≡ chomped header.chomping lines → scalar.mark ≡ mark_of q → ReadsBlock (block_behind indent literal o) (Ok scalar) r
block-read t indent literal o header p n breaks q r lines scalar reads b read text place =
    let P : Option Headed → Type 0 = λ x. ReadsBlock (block_behind indent literal x) (Ok scalar) r in
    let Q : Option Read → Type 0 = λ x. ReadsLines x (Ok t) lines r in
    subst P (sym (header-is o header p reads))
    (read-so t header (content_of header.indentation indent p) (lines_from header.indentation indent literal no_lines p) r lines scalar
    (subst Q (lines-are indent literal header p n breaks q b) read) text (place ∙ mark-is indent header p n breaks q b))

-- what is at fault once a header was read, and where none was
pub late-fault : (o : Option Headed) (header : Header) (p : Place) (info : ScanInfo) → ReadsHeader o (Ok header) p → (if is_some o then S28 else info) ≡ S28
late-fault None header p info reads = absurd reads
late-fault (Some h) header p info reads = refl

pub early-fault : (o : Option Headed) (e : ScanError) (p : Place) (info : ScanInfo) → ReadsHeader o (Err e) p → (if is_some o then S28 else info) ≡ info
early-fault None e p info reads = refl
early-fault (Some h) e p info reads = absurd reads

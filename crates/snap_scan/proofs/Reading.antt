-- What the reading of a token makes of a state.
use Rattle.snap_scan.proofs.Prelude.{◌≡◌, ◌≤◌, ◌+◌, ℕ, Bool, true, false, List, [], ◌∷◌, Option, Some, None, Result, Ok, Err, length, sym, ap, arith, refl, ◌∙◌, if◌then◌else◌, MatchOption, Place, Later, mark_of, Mark, Plain, plain_from, ReadsPlain, Quoted, ReadsQuoted, TokenType, TScalarStyle, ScanError, Syntax, OutOfMemory, S2, TokenKind, is_required, State, Gives, at, pushed, allowing, keyless, saved, unrolled, is_key_owed, in_flow, refused, read, IsTokenOf, Does, MayFail, IsExplained, closed, directive, read_key, plain, plain_read, quoted_read, block_read, Block, block_from, ReadsBlock, BlockScalar, innermost}
use Rattle.snap_scan.proofs.Soundness.{either}
use Rattle.snap_scan_tokens.specs.declared.plain.PlainScalar.{PlainScalar}
use Rattle.snap_scan_tokens.specs.declared.token.TokenType.TheVariants as k
use Rattle.snap_scan_tokens.specs.declared.token.TScalarStyle.TheVariants as style
use Rattle.snap_scan.specs.declared.kind.TokenKind.TheVariants.{Directive}

-- a token that was read is put after the held ones
pub does-read : {T : Type 0} (kind : TokenKind) (s : State) (p : Place) (mark : Mark) (token : TokenType) (r : Result T ScanError) (new : State) → IsTokenOf kind token
    → mark ≡ mark_of s.place → Later s.place p → length p.left + 1 ≤ length s.place.left
    → Gives r new (pushed (at mark token) (record s { place = p })) → Does (read kind s) r new
does-read kind s p mark token (Ok x) new is marks later further gives =
    rw gives (record { token = token; is = is; later = later; further = further; leaves = ap (λ (m : Mark). pushed (at m token) (record s { place = p })) marks })
does-read kind s p mark token (Err OutOfMemory) new is marks later further gives = tt
does-read kind s p mark token (Err (Syntax m i)) new is marks later further gives = absurd (cc)

-- the same of a token that may be a simple key
pub does-read-here : {T : Type 0} (kind : TokenKind) (s t u : State) (p : Place) (mark : Mark) (token : TokenType) (r : Result T ScanError) (new : State) → IsTokenOf kind token
    → is_key_owed s ≡ false → t ≡ saved s → u ≡ allowing false t → mark ≡ mark_of s.place
    → Later u.place p → length p.left + 1 ≤ length u.place.left
    → Gives r new (pushed (at mark token) (record u { place = p })) → Does (read_key kind s) r new
does-read-here kind s t u p mark token r new is free saved_is allowed_is marks later further gives =
    let same : u ≡ allowing false (saved s) = allowed_is ∙ ap (λ (v : State). allowing false v) saved_is in
    let starts : mark ≡ mark_of u.place = marks ∙ sym (ap (λ (v : State). mark_of v.place) same) in
    let reads = does-read kind u p mark token r new is starts later further gives in
    rw free (rw same at reads)

-- a directive, after which all blocks are closed
pub does-directive : {T : Type 0} (s t u v : State) (p : Place) (mark : Mark) (token : TokenType) (r : Result T ScanError) (new : State) → IsTokenOf Directive token
    → t ≡ unrolled None s → is_required t.keys.key ≡ false → u ≡ keyless t → v ≡ allowing false u → mark ≡ mark_of v.place
    → Later v.place p → length p.left + 1 ≤ length v.place.left
    → Gives r new (pushed (at mark token) (record v { place = p })) → Does (directive s) r new
does-directive s t u v p mark token r new is unrolled_is free removed_is allowed_is marks later further gives =
    let same : v ≡ closed s = allowed_is ∙ ap (λ (w : State). allowing false w) (removed_is ∙ ap (λ (w : State). keyless w) unrolled_is) in
    let keys : t.keys ≡ s.keys = ap (λ (w : State). w.keys) unrolled_is ∙ either (λ v. v.keys ≡ s.keys) (in_flow s) s _ refl refl in
    let unowed : is_required s.keys.key ≡ false = cc in
    let reads = does-read Directive v p mark token r new is marks later further gives in
    rw unowed (rw same at reads)

-- a plain scalar is put after the held tokens
told-plain : {T : Type 0} (s t u : State) (o : Option Plain) (scalar : PlainScalar) (p : Place) (mark : Mark) (r : Result T ScanError) (new : State)
    → t ≡ saved s → u ≡ allowing scalar.is_broken (record t { place = p }) → mark ≡ mark_of s.place → ReadsPlain o (Ok scalar) p → Later t.place p
    → length p.left + 1 ≤ length t.place.left → Gives r new (pushed (at mark (k.Scalar style.Plain scalar.text)) u) → Does (plain_read o s) r new
told-plain s t u None scalar p mark r new saved_is allowed_is marks reads later further gives = absurd reads
told-plain s t u (Some x) scalar p mark (Ok y) new saved_is allowed_is marks reads later further gives =
    let at_saved : t.place ≡ s.place = ap (λ (v : State). v.place) saved_is in
    let at_new : new.place ≡ p = ap (λ (v : State). v.place) gives ∙ ap (λ (v : State). v.place) allowed_is in
    let shorter = ap (λ (q : Place). length q.left) at_saved in
    let same = ap (λ (q : Place). length q.left) at_new in
    record {
      is = rw (gives, allowed_is, saved_is, marks, reads.0, reads.1, reads.2);
      later = rw at_new (rw at_saved at later);
      further = omega (arith, further, shorter, same);
    }
told-plain s t u (Some x) scalar p mark (Err OutOfMemory) new saved_is allowed_is marks reads later further gives = tt
told-plain s t u (Some x) scalar p mark (Err (Syntax m i)) new saved_is allowed_is marks reads later further gives = absurd (cc)

pub does-plain : {T : Type 0} (s t u : State) (indent : Option ℕ) (flow : Bool) (scalar : PlainScalar) (p : Place) (mark : Mark) (r : Result T ScanError) (new : State)
    → is_key_owed s ≡ false → t ≡ saved s → u ≡ allowing scalar.is_broken (record t { place = p }) → mark ≡ mark_of s.place → indent ≡ innermost t.columns → flow ≡ in_flow s
    → ReadsPlain (plain_from indent flow t.place) (Ok scalar) p → Later t.place p → length p.left + 1 ≤ length t.place.left
    → Gives r new (pushed (at mark (k.Scalar style.Plain scalar.text)) u) → Does (plain s) r new
does-plain s t u indent flow scalar p mark r new free saved_is allowed_is marks indent_is flow_is reads later further gives =
    let same : plain_from indent flow t.place ≡ plain_from (innermost s.columns) (in_flow s) s.place = rw (indent_is, flow_is, saved_is) in
    let o = plain_from (innermost s.columns) (in_flow s) s.place in
    rw free (told-plain s t u o scalar p mark r new saved_is allowed_is marks (rw same at reads) later further gives)

-- a quoted scalar is put after the held tokens
told-quoted : {T : Type 0} (written : TScalarStyle) (s t : State) (o : Option Quoted) (text : List ℕ) (p : Place) (n : ℕ) (mark : Mark) (r : Result T ScanError) (new : State)
    → t ≡ allowing false (saved s) → n ≡ p.index → mark ≡ mark_of s.place → ReadsQuoted o (Ok text) p → Later t.place p → length p.left + 1 ≤ length t.place.left
    → Gives r new (pushed (at mark (k.Scalar written text)) (record t { place = p; adjacent = n })) → Does (quoted_read written o s) r new
told-quoted written s t None text p n mark r new saved_is index_is marks reads later further gives = absurd reads
told-quoted written s t (Some x) text p n mark (Ok y) new saved_is index_is marks reads later further gives =
    let at_saved : t.place ≡ s.place = ap (λ (v : State). v.place) saved_is in
    let at_new : new.place ≡ p = ap (λ (v : State). v.place) gives in
    let shorter = ap (λ (q : Place). length q.left) at_saved in
    let same = ap (λ (q : Place). length q.left) at_new in
    record {
      is = rw (gives, saved_is, marks, index_is, reads.0, reads.1);
      later = rw at_new (rw at_saved at later);
      further = omega (arith, further, shorter, same);
    }
told-quoted written s t (Some x) text p n mark (Err OutOfMemory) new saved_is index_is marks reads later further gives = tt
told-quoted written s t (Some x) text p n mark (Err (Syntax m i)) new saved_is index_is marks reads later further gives = absurd (cc)

pub does-quoted : {T : Type 0} (written : TScalarStyle) (from : Place → Option Quoted) (s t u : State) (text : List ℕ) (p : Place) (n : ℕ) (mark : Mark) (r : Result T ScanError) (new : State)
    → is_key_owed s ≡ false → t ≡ saved s → u ≡ allowing false t → n ≡ p.index → mark ≡ mark_of s.place → ReadsQuoted (from u.place) (Ok text) p
    → Later u.place p → length p.left + 1 ≤ length u.place.left → Gives r new (pushed (at mark (k.Scalar written text)) (record u { place = p; adjacent = n }))
    → Does (if is_key_owed s then refused (mark_of s.place) S2 else quoted_read written (from s.place) s) r new
does-quoted written from s t u text p n mark r new free saved_is allowed_is index_is marks reads later further gives =
    let same : u ≡ allowing false (saved s) = allowed_is ∙ ap (λ (v : State). allowing false v) saved_is in
    rw free (told-quoted written s u (from s.place) text p n mark r new same index_is marks (rw (ap (λ (v : State). v.place) same) at reads) later further gives)

-- a block scalar is put after the held tokens
told-block : {T : Type 0} (written : TScalarStyle) (s t : State) (o : Option Block) (scalar : BlockScalar) (p : Place) (r : Result T ScanError) (new : State)
    → t ≡ allowing true (saved s) → ReadsBlock o (Ok scalar) p → Later t.place p → length p.left + 1 ≤ length t.place.left → t.place.index ≤ scalar.mark.index → scalar.mark.index ≤ p.index
    → Gives r new (pushed (at scalar.mark (k.Scalar written scalar.text)) (record t { place = p })) → Does (block_read written o s) r new
told-block written s t None scalar p r new saved_is reads later further from until gives = absurd reads
told-block written s t (Some x) scalar p (Ok y) new saved_is reads later further from until gives =
    let at_saved : t.place ≡ s.place = ap (λ (v : State). v.place) saved_is in
    let at_new : new.place ≡ p = ap (λ (v : State). v.place) gives in
    let shorter = ap (λ (q : Place). length q.left) at_saved in
    let same = ap (λ (q : Place). length q.left) at_new in
    let begun = ap (λ (q : Place). q.index) at_saved in
    let ended = ap (λ (q : Place). q.index) at_new in
    let marked = ap (λ (m : Mark). m.index) reads.1 in (
      record {
        is = rw (gives, saved_is, reads.0, reads.1, reads.2);
        later = rw at_new (rw at_saved at later);
        further = omega (arith, further, shorter, same);
      },
      omega (arith, from, begun, marked),
      omega (arith, until, ended, marked),
    )
told-block written s t (Some x) scalar p (Err OutOfMemory) new saved_is reads later further from until gives = tt
told-block written s t (Some x) scalar p (Err (Syntax m i)) new saved_is reads later further from until gives = absurd (cc)

pub does-block : {T : Type 0} (written : TScalarStyle) (literal : Bool) (s t u : State) (indent : Option ℕ) (scalar : BlockScalar) (p : Place) (r : Result T ScanError) (new : State)
    → is_key_owed s ≡ false → t ≡ saved s → u ≡ allowing true t → indent ≡ innermost u.columns → ReadsBlock (block_from indent literal u.place) (Ok scalar) p
    → Later u.place p → length p.left + 1 ≤ length u.place.left → u.place.index ≤ scalar.mark.index → scalar.mark.index ≤ p.index
    → Gives r new (pushed (at scalar.mark (k.Scalar written scalar.text)) (record u { place = p }))
    → Does (if is_key_owed s then refused (mark_of s.place) S2 else block_read written (block_from (innermost s.columns) literal s.place) s) r new
does-block written literal s t u indent scalar p r new free saved_is allowed_is indent_is reads later further from until gives =
    let same : u ≡ allowing true (saved s) = allowed_is ∙ ap (λ (v : State). allowing true v) saved_is in
    let here_is : block_from indent literal u.place ≡ block_from (innermost s.columns) literal s.place = rw (indent_is, same) refl in
    let o = block_from (innermost s.columns) literal s.place in
    rw free (told-block written s u o scalar p r new same (rw here_is at reads) later further from until gives)

-- a block scalar that isn't read
failed-block : (written : TScalarStyle) (o : Option Block) (s : State) (e : ScanError) (p : Place) → ReadsBlock o (Err e) p → IsExplained s.place e → MayFail e (block_read written o s)
failed-block written o s OutOfMemory p reads cause = tt
failed-block written None s (Syntax m i) p reads cause = cause
failed-block written (Some b) s (Syntax m i) p reads cause = absurd (cc)

pub fails-block : (written : TScalarStyle) (literal : Bool) (s t u : State) (indent : Option ℕ) (e : ScanError) (p : Place)
    → is_key_owed s ≡ false → t ≡ saved s → u ≡ allowing true t → indent ≡ innermost u.columns → ReadsBlock (block_from indent literal u.place) (Err e) p → IsExplained u.place e
    → MayFail e (if is_key_owed s then refused (mark_of s.place) S2 else block_read written (block_from (innermost s.columns) literal s.place) s)
fails-block written literal s t u indent e p free saved_is allowed_is indent_is reads cause =
    let same : u ≡ allowing true (saved s) = allowed_is ∙ ap (λ (v : State). allowing true v) saved_is in
    let here_is : block_from indent literal u.place ≡ block_from (innermost s.columns) literal s.place = rw (indent_is, same) refl in
    let at_place : u.place ≡ s.place = ap (λ (v : State). v.place) same in
    rw free (failed-block written (block_from (innermost s.columns) literal s.place) s e p (rw here_is at reads) (rw at_place at cause))

pub innermost-is : (o : Option ℕ) (columns : List ℕ) → MatchOption o (columns ≡ []) (λ column. (outer : List ℕ) × (columns ≡ column ∷ outer)) → o ≡ innermost columns
innermost-is None columns is = ap (λ (v : List ℕ). innermost v) (sym is)
innermost-is (Some column) columns is = ap (λ (v : List ℕ). innermost v) (sym is.1)

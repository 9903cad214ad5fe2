-- Each fetch keeps a scanner sound.
use Rattle.snap_scan.proofs.Prelude.{◌≡◌, ◌≢◌, ◌≤◌, ◌+◌, ◌-◌, ◌++◌, ◌∷◌, [], ℕ, Bool, true, false, List, Option, Some, None, length, slice_index, slice_index_or, length-append, subst, sym, ap, arith, refl, ◌∙◌, ◌&&◌, inl, inr, if◌then◌else◌, All, count_by, codes, nat_lt, not, ltb-false, length-take, All-push, All-head, All-tail, All-take, All-get_or, Mark, Place, Later, skipped, forced, mark_of, Plain, Quoted, single_from, double_from, is_among, Token, TokenType, TScalarStyle, TokenKind, SimpleKey, is_required, is_past, has_levels, deeper, shallower, Begins, State, at, in_flow, pushed, inserted, put, advanced, allowing, unrolled, rolled, is_deeper, keyless, saved, is_key_owed, done, IsTokenOf, IsRead, Leaves, closed, sign, document, plain_read, quoted_read, block_read, Block, block_from, innermost, read_key, value_behind, kind_step, Holds, shown, IsShown, IsIn, IsKeyBehind, HasQuestion, HasColon, KindStands, IsPossible, IsSound, IsSoundFrom, open_still, over, IsNoStart, IsNoEnd, EndsStream, is_start, is_end, block_signs, or_left, or_right}
use Rattle.snap_scan_tokens.specs.declared.token.TokenType.TheVariants as t
use Rattle.snap_scan_tokens.specs.declared.token.TScalarStyle.TheVariants as style
use Rattle.snap_scan.specs.declared.kind.TokenKind.TheVariants as k
use Rattle.snap_scan.proofs.Growing.{unrefused, unrefused-else}
use Rattle.snap_scan.proofs.Possible.{in-source, in-later, in-bracket, in-fewer, stands}
use Rattle.snap_scan.proofs.Soundness.{either, only, sound-moved, begins-append, rest-append, sound-pushed, sound-inserted, sound-advanced, sound-passed, sound-further, sound-forced, sound-keyless, sound-rolled, sound-unrolled, sound-saved}

-- what is asked of a token that is no Key, StreamStart or StreamEnd, where it is put into the queue
record IsFit (source : List ℕ) (kind : TokenType) : Type 0 where
  signs : Holds source (shown kind)
  no_key : (m : Mark) → KindStands source m kind
  no_start : is_start kind ≡ false
  no_end : is_end kind ≡ false

fit-plain : (source : List ℕ) (kind : TokenType) → Holds source (shown kind) → ((m : Mark) → KindStands source m kind) → is_start kind ≡ false → is_end kind ≡ false → IsFit source kind
fit-plain source kind signs no_key no_start no_end = record { signs = signs; no_key = no_key; no_start = no_start; no_end = no_end }

shown-at : (source : List ℕ) (n : ℕ) (p : Place) (kind : TokenType) → IsIn source n p → Holds source (shown kind) → KindStands source (mark_of p) kind → IsShown source (at (mark_of p) kind)
shown-at source n p kind is signs key = record { signs = signs; mark = omega (arith, in-source source n p is); key = key }

pub sound-closed : {ahead : Bool} → (source : List ℕ) (d : ℕ) (s : State) → IsSoundFrom false ahead source d s → IsSoundFrom false ahead source d (closed s)
sound-closed source d s is = sound-keyless source d (unrolled None s) (sound-unrolled source d None s is)

sound-sign : {ahead : Bool} → (source : List ℕ) (d : ℕ) (kind : TokenType) (b : Bool) (s : State) → IsSoundFrom false ahead source d s → slice_index s.place.left 0 ≢ 0 → Holds source (shown kind)
    → KindStands source (mark_of s.place) kind → is_start kind ≡ false → is_end kind ≡ false → IsSoundFrom false ahead source 1 (sign kind b s)
sound-sign source d kind b s is some signs key no_start no_end =
    sound-pushed source 1 (at (mark_of s.place) kind) (advanced (allowing b s)) (sound-passed source d (allowing b s) some is)
    (shown-at source (length s.keys.outer) s.place kind is.place signs key) no_start no_end

pub among : (signs : List ℕ) (c n : ℕ) → c ≡ n → is_among signs n ≡ true → is_among signs c ≡ true
among signs c n is e = let P : ℕ → Type 0 = λ m. is_among signs m ≡ true in subst P (sym is) e

-- a sign that stands here stands in the source
pub begun : {ahead : Bool} → (signs source : List ℕ) (d : ℕ) (s : State) (n : ℕ) → IsSoundFrom false ahead source d s → slice_index s.place.left 0 ≡ n → is_among signs n ≡ true → n ≢ 0
    → 1 ≤ count_by (is_among signs) source
begun signs source d s n is first found some =
    stands signs source (length s.keys.outer) s.place is.place (among signs _ n first found) (λ none. some (sym first ∙ none))

pub some-of : (c n : ℕ) → c ≡ n → n ≢ 0 → c ≢ 0
some-of c n is some none = some (sym is ∙ none)

pub left-done : {ahead : Bool} → (source : List ℕ) (u new : State) → IsSound ahead source u → Leaves (done u) new → IsSound ahead source new
left-done source u new is l = rw l is

pub left-open : {ahead : Bool} → (source : List ℕ) (u new : State) → IsSoundFrom false ahead source 1 u → Leaves (done u) new → IsSound ahead source new
left-open source u new is l = left-done source u new (open_still is) l

-- what a reader gives fits
read-fits : {ahead : Bool} → (source : List ℕ) (d : ℕ) (kind : TokenKind) (s : State) (token : TokenType) → IsSoundFrom false ahead source d s → Begins kind (slice_index s.place.left 0) → IsTokenOf kind token
    → IsFit source token
read-fits source d k.Directive s (t.VersionDirective a b) is first of = fit-plain source _ (begun (codes "%") source d s 37 is first refl (omega arith)) (λ m. tt) refl refl
read-fits source d k.Directive s (t.TagDirective a) is first of = fit-plain source _ (begun (codes "%") source d s 37 is first refl (omega arith)) (λ m. tt) refl refl
read-fits source d k.Alias s (t.Alias a) is first of = fit-plain source _ (begun (codes "*") source d s 42 is first refl (omega arith)) (λ m. tt) refl refl
read-fits source d k.Anchor s (t.Anchor a) is first of = fit-plain source _ (begun (codes "&") source d s 38 is first refl (omega arith)) (λ m. tt) refl refl
read-fits source d k.Tag s (t.Tag a) is first of = fit-plain source _ (begun (codes "!") source d s 33 is first refl (omega arith)) (λ m. tt) refl refl
read-fits source d kind s token is first of = absurd of

sound-read : {ahead : Bool} → (source : List ℕ) (d : ℕ) (kind : TokenKind) (u new : State) → IsSoundFrom false ahead source d u → ((token : TokenType) → IsTokenOf kind token → IsFit source token)
    → IsRead kind u new → IsSound ahead source new
sound-read source d kind u new is fits r =
    let fit = fits r.token r.is in
    left-open source _ new (sound-pushed source 1 (at (mark_of u.place) r.token) (record u { place = new.place }) (sound-further source d new.place u r.later r.further is)
    (shown-at source (length u.keys.outer) u.place r.token is.place fit.signs (fit.no_key (mark_of u.place))) fit.no_start fit.no_end) r.leaves

sound-flow-start : {ahead : Bool} → (source : List ℕ) (kind : TokenType) (s : State) → IsSoundFrom false ahead source 1 s → is_among (codes "[{") (slice_index s.place.left 0) ≡ true → slice_index s.place.left 0 ≢ 0
    → IsFit source kind → IsSoundFrom false ahead source 1 (let u = saved s in sign kind true (record u { keys = deeper u.keys }))
sound-flow-start source kind s is bracket some fit =
    let u = saved s in
    let m = sound-passed source 0 (allowing true u) some (sound-saved source 1 s is) in
    let levels = in-bracket source (length s.keys.outer) s.place bracket is.place in
    let n = length (s.keys.outer ++ u.keys.key ∷ []) in
    let base : IsSoundFrom false _ source 1 (advanced (allowing true (record u { keys = deeper u.keys }))) =
    sound-moved m (in-fewer source n (length s.keys.outer + 1) (skipped s.place) (omega (arith, length-append s.keys.outer (u.keys.key ∷ []))) levels)
    (record { key = tt; outer = All-push (IsPossible source 1 (skipped s.place) _) s.keys.outer u.keys.key m.keys.outer m.keys.key }) in
    sound-pushed source 1 (at (mark_of s.place) kind) (advanced (allowing true (record u { keys = deeper u.keys }))) base
    (shown-at source (length s.keys.outer) s.place kind is.place fit.signs (fit.no_key (mark_of s.place))) fit.no_start fit.no_end

key-left : (P : Option SimpleKey → Type 0) (outer : List (Option SimpleKey)) → P None → All P outer → P (if has_levels outer then slice_index_or outer (length outer - 1) None else None)
key-left P [] none all = none
key-left P (key ∷ outer) none all = All-get_or P (key ∷ outer) (length (key ∷ outer) - 1) None (omega arith) all

sound-flow-end : {ahead : Bool} → (source : List ℕ) (kind : TokenType) (s : State) → IsSoundFrom false ahead source 1 s → slice_index s.place.left 0 ≢ 0 → IsFit source kind
    → IsSoundFrom false ahead source 1 (let u = keyless s in sign kind false (record u { keys = shallower u.keys }))
sound-flow-end source kind s is some fit =
    let u = keyless s in
    let m = sound-passed source 1 (allowing false u) some (sound-keyless source 1 s is) in
    let P = IsPossible source 1 (skipped s.place) _ in
    let base : IsSoundFrom false _ source 1 (advanced (allowing false (record u { keys = shallower u.keys }))) =
    sound-moved m (in-fewer source _ (length s.keys.outer) (skipped s.place) (omega (arith, length-take (length s.keys.outer - 1) s.keys.outer)) m.place)
    (record { key = key-left P s.keys.outer tt m.keys.outer; outer = All-take P (length s.keys.outer - 1) s.keys.outer m.keys.outer }) in
    sound-pushed source 1 (at (mark_of s.place) kind) (advanced (allowing false (record u { keys = shallower u.keys }))) base
    (shown-at source (length s.keys.outer) s.place kind is.place fit.signs (fit.no_key (mark_of s.place))) fit.no_start fit.no_end

place-put : (i : Option ℕ) (token : Token) (s : State) → (put i token s).place ≡ s.place
place-put None token s = refl
place-put (Some i) token s = refl

-- a block that begins leaves the place
place-rolled : (col : ℕ) (i : Option ℕ) (token : Token) (s : State) → (rolled col i token s).place ≡ s.place
place-rolled col i token s =
    let P : State → Type 0 = λ v. v.place ≡ s.place in
    either P (in_flow s) s _ refl (either P (is_deeper col s.columns) _ s (place-put i token (record s { columns = col ∷ s.columns })) refl)

-- a block begins here, and then a token of one character
sound-block : {ahead : Bool} → (source : List ℕ) (start kind : TokenType) (b : Bool) (s : State) → IsSoundFrom false ahead source 1 s → slice_index s.place.left 0 ≢ 0 → IsFit source start
    → Holds source block_signs → Holds source (shown kind) → KindStands source (mark_of s.place) kind → is_start kind ≡ false → is_end kind ≡ false
    → IsSoundFrom false ahead source 1 (sign kind b (keyless (rolled s.place.col None (at (mark_of s.place) start) s)))
sound-block source start kind b s is some fit block signs key no_start no_end =
    let n = length s.keys.outer in
    let token = at (mark_of s.place) start in
    let u = rolled s.place.col None token s in
    let deep = sound-rolled source 1 s.place.col None token s is tt (shown-at source n s.place start is.place fit.signs (fit.no_key (mark_of s.place))) fit.no_start fit.no_end block in
    let same = sym (place-rolled s.place.col None token s) in
    sound-sign source 1 kind b (keyless u) (sound-keyless source 1 u deep) (rw same at some) signs (rw same at key) no_start no_end

-- a key that is still possible where a `:` stands is one of a `:` on its line
colon-stands : (source : List ℕ) (n : ℕ) (p : Place) (cs : List ℕ) (key : SimpleKey) → p.left ≡ cs → slice_index cs 0 ≡ 58 → is_past (mark_of p) key ≡ false → IsIn source n p
    → IsKeyBehind source 1 p key → HasColon source key.mark
colon-stands source n p [] key left first fresh is behind = absurd (cc)
colon-stands source n p (c ∷ cs) key left first fresh is behind =
    let line : p.line ≤ key.mark.line = ltb-false key.mark.line p.line (or_left _ _ fresh) in
    let near : p.index - key.mark.index ≤ 1024 = ltb-false 1024 (p.index - key.mark.index) (or_right _ _ fresh) in
    let long = ap length behind.text in
    record {
      before = behind.before;
      key = behind.between;
      after = cs;
      text = rw first at (behind.text ∙ ap (λ (v : List ℕ). behind.before ++ behind.between ++ v) left);
      index = behind.index;
      some = behind.some;
      short = omega (arith, near, long, in-source source n p is, length-append (behind.before ++ behind.between) p.left, length-append behind.before behind.between, behind.index);
      one_line = omega (arith, line, behind.lines);
    }

-- a possible key that isn't past
abbrev pub IsFresh : Mark → Option SimpleKey → Type 0
IsFresh mark None = Unit {0}
IsFresh mark (Some key) = is_past mark key ≡ false

sound-value : {ahead : Bool} → (source : List ℕ) (key : Option SimpleKey) (s new : State) → IsSoundFrom false ahead source 1 s → IsPossible source 1 s.place ahead key → IsFresh (mark_of s.place) key
    → slice_index s.place.left 0 ≡ 58 → Leaves (value_behind key s) new → IsSound ahead source new
sound-value source (Some key) s new is possible fresh first l =
    let block = begun (codes "-?:") source 1 s 58 is first refl (omega arith) in
    let start = begun (codes "?:") source 1 s 58 is first refl (omega arith) in
    let n = length s.keys.outer in
    let colon = colon-stands source n s.place s.place.left key refl first fresh is.place possible.behind in
    let within = in-source source n s.place is.place in
    let token = at key.mark t.Key in
    let shows : IsShown source token = record { signs = omega arith; mark = omega (arith, within, behind-index source n s.place key is.place possible.behind); key = inr colon } in
    let u = inserted key.place token s in
    let keyed = sound-inserted source 1 key.place token s is possible.place shows refl refl in
    let begin = at (mark_of s.place) t.BlockMappingStart in
    let deep = sound-rolled source 1 key.mark.col (Some key.place) begin u keyed possible.place (shown-at source n s.place t.BlockMappingStart is.place start tt) refl refl block in
    let v = rolled key.mark.col (Some key.place) begin u in
    let some : slice_index v.place.left 0 ≢ 0 = rw (place-rolled key.mark.col (Some key.place) begin u) (some-of _ 58 first (omega arith)) in
    left-open source _ new (sound-sign source 1 t.Value false (keyless v) (sound-keyless source 1 v deep) some (omega arith) tt refl refl) l
  where
    behind-index : (source : List ℕ) (n : ℕ) (p : Place) (key : SimpleKey) → IsIn source n p → IsKeyBehind source 1 p key → key.mark.index ≤ p.index
    behind-index source n p key is behind =
        let long = ap length behind.text in
        omega (arith, long, in-source source n p is, length-append (behind.before ++ behind.between) p.left, length-append behind.before behind.between, behind.index)
sound-value source None s new is possible fresh first l =
    let block = begun (codes "-?:") source 1 s 58 is first refl (omega arith) in
    let start = begun (codes "?:") source 1 s 58 is first refl (omega arith) in
    let token = at (mark_of s.place) t.BlockMappingStart in
    let deep = sound-rolled source 1 s.place.col None token s is tt (shown-at source (length s.keys.outer) s.place t.BlockMappingStart is.place start tt) refl refl block in
    let some : slice_index (rolled s.place.col None token s).place.left 0 ≢ 0 = rw (place-rolled s.place.col None token s) (some-of _ 58 first (omega arith)) in
    left-open source _ new (sound-sign source 1 t.Value (not (in_flow s)) (rolled s.place.col None token s) deep some (omega arith) tt refl refl)
    (unrefused (not (in_flow s) && not s.allowed) _ _ _ new l)

-- what a reader told stands after the state's place
sound-told : {ahead : Bool} → (source : List ℕ) (kind : TokenType) (u new : State) (p : Place) → IsSoundFrom false ahead source 0 u → IsFit source kind → Later u.place new.place → length new.place.left + 1 ≤ length u.place.left
    → new ≡ pushed (at (mark_of u.place) kind) (record u { place = p }) → IsSound ahead source new
sound-told source kind u new p is fit later further leaves =
    let same : new.place ≡ p = ap (λ (v : State). v.place) leaves in
    left-open source _ new (sound-pushed source 1 (at (mark_of u.place) kind) (record u { place = p }) (sound-further source 0 p u (rw same at later) (rw same at further) is)
    (shown-at source (length u.keys.outer) u.place kind is.place fit.signs (fit.no_key (mark_of u.place))) fit.no_start fit.no_end) leaves

scalar-fits : (source : List ℕ) (written : TScalarStyle) (text : List ℕ) → IsFit source (t.Scalar written text)
scalar-fits source written text = fit-plain source (t.Scalar written text) (omega arith) (λ m. tt) refl refl

sound-plain : {ahead : Bool} → (source : List ℕ) (o : Option Plain) (s new : State) → IsSoundFrom false ahead source 1 s → Leaves (plain_read o s) new → IsSound ahead source new
sound-plain source None s new is l = absurd l
sound-plain source (Some r) s new is l =
    sound-told source (t.Scalar style.Plain r.text) (record (saved s) { allowed = r.is_broken }) new r.place (sound-saved source 1 s is) (scalar-fits source style.Plain r.text) l.later l.further l.is

sound-quoted : {ahead : Bool} → (source : List ℕ) (written : TScalarStyle) (o : Option Quoted) (s new : State) → IsSoundFrom false ahead source 1 s → Leaves (quoted_read written o s) new → IsSound ahead source new
sound-quoted source written None s new is l = absurd l
sound-quoted source written (Some r) s new is l =
    sound-told source (t.Scalar written r.text) (record (saved s) { allowed = false; adjacent = r.place.index }) new r.place (sound-saved source 1 s is) (scalar-fits source written r.text) l.later l.further l.is

-- a block scalar's mark lies between where its reader began and where it went on to
sound-block-scalar : {ahead : Bool} → (source : List ℕ) (written : TScalarStyle) (o : Option Block) (s new : State) → IsSoundFrom false ahead source 1 s → Leaves (block_read written o s) new
    → IsSound ahead source new
sound-block-scalar source written None s new is l = absurd l
sound-block-scalar source written (Some r) s new is l =
    let u : State = record (saved s) { allowed = true } in
    let kind = t.Scalar written r.text in
    let told = l.0 in
    let fit = scalar-fits source written r.text in
    let same : new.place ≡ r.place = ap (λ (v : State). v.place) told.is in
    let from = sound-saved source 1 s is in
    let there = in-later source (length s.keys.outer) s.place new.place told.later is.place in
    let until = l.2 in
    left-open source _ new (sound-pushed source 1 (at r.mark kind) (record u { place = r.place }) (sound-further source 0 r.place u (rw same at told.later) (rw same at told.further) from)
    (record { signs = fit.signs; mark = omega (arith, in-source source (length s.keys.outer) new.place there, until); key = fit.no_key r.mark }) fit.no_start fit.no_end) told.is

sound-read-key : {ahead : Bool} → (source : List ℕ) (kind : TokenKind) (s new : State) → IsSoundFrom false ahead source 1 s → Begins kind (slice_index s.place.left 0) → Leaves (read_key kind s) new
    → IsSound ahead source new
sound-read-key source kind s new is first l =
    sound-read source 0 kind (allowing false (saved s)) new (sound-saved source 1 s is) (λ token of. read-fits source 1 kind s token is first of) (unrefused (is_key_owed s) _ _ _ new l)

-- the characters of a document's sign are passed, all three where they are there
sound-document : {ahead : Bool} → (source : List ℕ) (kind : TokenType) (s new : State) → IsSoundFrom false ahead source 1 s → IsFit source kind → Leaves (document kind s) new → IsSound ahead source new
sound-document source kind s new is fit l =
    let c = closed s in
    let moved = sound-advanced source 1 (advanced (advanced c)) (sound-advanced source 1 (advanced c) (sound-advanced source 1 c (sound-closed source 1 s is))) in
    left-open source _ new (sound-pushed source 1 (at (mark_of s.place) kind) (advanced (advanced (advanced c))) moved
    (shown-at source (length s.keys.outer) s.place kind is.place fit.signs (fit.no_key (mark_of s.place))) fit.no_start fit.no_end) (unrefused (is_required s.keys.key) _ _ _ new l)

ends-pushed : (held : List Token) (token : Token) → All IsNoEnd held → is_end token.1 ≡ true → EndsStream (held ++ token ∷ [])
ends-pushed [] token none is = is
ends-pushed (x ∷ []) token none is = (All-head IsNoEnd x [] none, is)
ends-pushed (x ∷ y ∷ ys) token none is = (All-head IsNoEnd x (y ∷ ys) none, ends-pushed (y ∷ ys) token (All-tail IsNoEnd x (y ∷ ys) none) is)

sound-stream-end : {ahead : Bool} → (source : List ℕ) (s new : State) → IsSoundFrom false ahead source 1 s
    → Leaves (done (let end = record s { place = forced s.place } in record (pushed (at (mark_of end.place) t.StreamEnd) (closed end)) { ended = true })) new → IsSound ahead source new
sound-stream-end source s new is l =
    let end = record s { place = forced s.place } in
    let c = sound-closed source 1 end (sound-forced source 1 s is) in
    let e = sound-forced source 1 s is in
    let token = at (mark_of end.place) t.StreamEnd in
    let none = only IsNoStart token refl in
    left-done source _ new (over (record {
      place = c.place;
      tokens = All-push (IsShown source) (closed end).held token c.tokens (shown-at source (length s.keys.outer) end.place t.StreamEnd e.place (omega arith) tt);
      first = begins-append (closed end).held (token ∷ []) none ∙ c.first;
      starts = rest-append (closed end).held (token ∷ []) c.starts none;
      ends = ends-pushed (closed end).held token c.ends refl;
      keys = c.keys;
      blocks = c.blocks;
      started = c.started;
      ended = refl;
    })) l

pub sound-kind : {ahead : Bool} → (source : List ℕ) (kind : TokenKind) (s new : State) → IsSoundFrom false ahead source 1 s → IsFresh (mark_of s.place) s.keys.key → Begins kind (slice_index s.place.left 0)
    → Leaves (kind_step kind s) new → IsSound ahead source new
sound-kind source k.StreamEnd s new is fresh first l = sound-stream-end source s new is (unrefused (is_required s.keys.key) _ _ _ new l)
sound-kind source k.Directive s new is fresh first l =
    sound-read source 1 k.Directive (closed s) new (sound-closed source 1 s is) (λ token of. read-fits source 1 k.Directive s token is first of) (unrefused (is_required s.keys.key) _ _ _ new l)
sound-kind source k.DocumentStart s new is fresh first l = sound-document source t.DocumentStart s new is (fit-plain source t.DocumentStart (omega arith) (λ m. tt) refl refl) l
sound-kind source k.DocumentEnd s new is fresh first l = sound-document source t.DocumentEnd s new is (fit-plain source t.DocumentEnd (omega arith) (λ m. tt) refl refl) l
sound-kind source k.FlowSequenceStart s new is fresh first l =
    left-open source _ new (sound-flow-start source t.FlowSequenceStart s is (among (codes "[{") _ 91 first refl) (some-of _ 91 first (omega arith))
    (fit-plain source t.FlowSequenceStart (begun (codes "[") source 1 s 91 is first refl (omega arith)) (λ m. tt) refl refl))
    (unrefused-else (nat_lt (length s.keys.outer) 1023) _ _ _ new (unrefused (is_key_owed s) _ _ _ new l))
sound-kind source k.FlowMappingStart s new is fresh first l =
    left-open source _ new (sound-flow-start source t.FlowMappingStart s is (among (codes "[{") _ 123 first refl) (some-of _ 123 first (omega arith))
    (fit-plain source t.FlowMappingStart (begun (codes "{") source 1 s 123 is first refl (omega arith)) (λ m. tt) refl refl))
    (unrefused-else (nat_lt (length s.keys.outer) 1023) _ _ _ new (unrefused (is_key_owed s) _ _ _ new l))
sound-kind source k.FlowSequenceEnd s new is fresh first l =
    left-open source _ new (sound-flow-end source t.FlowSequenceEnd s is (some-of _ 93 first (omega arith)) (fit-plain source t.FlowSequenceEnd (omega arith) (λ m. tt) refl refl))
    (unrefused (is_required s.keys.key) _ _ _ new l)
sound-kind source k.FlowMappingEnd s new is fresh first l =
    left-open source _ new (sound-flow-end source t.FlowMappingEnd s is (some-of _ 125 first (omega arith)) (fit-plain source t.FlowMappingEnd (omega arith) (λ m. tt) refl refl))
    (unrefused (is_required s.keys.key) _ _ _ new l)
sound-kind source k.FlowEntry s new is fresh first l =
    left-open source _ new (sound-sign source 1 t.FlowEntry true (keyless s) (sound-keyless source 1 s is) (some-of _ 44 first (omega arith)) (omega arith) tt refl refl)
    (unrefused (is_required s.keys.key) _ _ _ new l)
sound-kind source k.BlockEntry s new is fresh first l =
    let entry = begun (codes "-") source 1 s 45 is first refl (omega arith) in
    left-open source _ new (sound-block source t.BlockSequenceStart t.BlockEntry true s is (some-of _ 45 first (omega arith)) (fit-plain source t.BlockSequenceStart entry (λ m. tt) refl refl)
    (begun (codes "-?:") source 1 s 45 is first refl (omega arith)) entry tt refl refl)
    (unrefused (is_required s.keys.key) _ _ _ new (unrefused (not s.allowed) _ _ _ new (unrefused (in_flow s) _ _ _ new l)))
sound-kind source k.Key s new is fresh first l =
    left-open source _ new (sound-block source t.BlockMappingStart t.Key (not (in_flow s)) s is (some-of _ 63 first (omega arith))
    (fit-plain source t.BlockMappingStart (begun (codes "?:") source 1 s 63 is first refl (omega arith)) (λ m. tt) refl refl)
    (begun (codes "-?:") source 1 s 63 is first refl (omega arith)) (omega arith) (inl (question source (length s.keys.outer) s.place s.place.left refl first is.place)) refl refl)
    (unrefused (is_required s.keys.key) _ _ _ new (unrefused (not (in_flow s) && not s.allowed) _ _ _ new l))
  where
    question : (source : List ℕ) (n : ℕ) (p : Place) (cs : List ℕ) → p.left ≡ cs → slice_index cs 0 ≡ 63 → IsIn source n p → HasQuestion source (mark_of p)
    question source n p [] left first is = absurd (cc)
    question source n p (c ∷ cs) left first is =
        record { before = is.before; after = cs; text = rw first at (is.text ∙ ap (λ (v : List ℕ). is.before ++ v) left); index = is.index }
sound-kind source k.Value s new is fresh first l = sound-value source s.keys.key s new is is.keys.key fresh first l
sound-kind source (k.Refused info) s new is fresh first l = absurd l
sound-kind source k.Alias s new is fresh first l = sound-read-key source k.Alias s new is first l
sound-kind source k.Anchor s new is fresh first l = sound-read-key source k.Anchor s new is first l
sound-kind source k.Tag s new is fresh first l = sound-read-key source k.Tag s new is first l
sound-kind source k.Literal s new is fresh first l = sound-block-scalar source style.Literal (block_from (innermost s.columns) true s.place) s new is (unrefused (is_key_owed s) _ _ _ new l)
sound-kind source k.Folded s new is fresh first l = sound-block-scalar source style.Foled (block_from (innermost s.columns) false s.place) s new is (unrefused (is_key_owed s) _ _ _ new l)
sound-kind source k.SingleQuoted s new is fresh first l = sound-quoted source style.SingleQuoted (single_from s.place) s new is (unrefused (is_key_owed s) _ _ _ new l)
sound-kind source k.DoubleQuoted s new is fresh first l = sound-quoted source style.DoubleQuoted (double_from s.place) s new is (unrefused (is_key_owed s) _ _ _ new l)
sound-kind source k.Plain s new is fresh first l = sound-plain source _ s new is (unrefused (is_key_owed s) _ _ _ new l)

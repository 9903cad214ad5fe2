-- Why a fetch refuses, and what one fetch as a whole keeps.
use Rattle.snap_scan.proofs.Prelude.{◌≡◌, ◌≢◌, ◌≤◌, ◌+◌, ◌∷◌, [], ℕ, Bool, true, false, List, Option, Some, None, length, slice_index, subst, ap, arith, refl, ◌∙◌, ◌&&◌, if◌then◌else◌, All, codes, nat_lt, nat_le, not, ◌||◌, list_any, ltb-false, All-nil, All-head, All-tail, Mark, Place, skipped, forced, mark_of, Plain, plain_from, Quoted, single_from, double_from, needed, is_among, explains, IsExplained, TScalarStyle, ScanInfo, ScanError, Syntax, OutOfMemory, TokenKind, SimpleKey, is_required, is_overdue, any_overdue, is_past, fresh, Begins, kind_of, State, at, in_flow, start_state, stale, is_key_owed, to_next, Outcome, done, refused, Leaves, Names, MayFail, closed, stream_started, plain_read, quoted_read, block_read, Block, block_from, innermost, value_behind, kind_step, at_token, token_step, step, Holds, IsFounded, IsShown, IsNoStart, IsNoEnd, IsPossible, IsSound, IsSoundFrom, untouched, open_still, over, block_signs, both_second, both_first, cond_both}
use Rattle.snap_scan_tokens.specs.declared.token.TokenType.TheVariants as t
use Rattle.snap_scan_tokens.specs.declared.token.TEncoding.TheVariants.{Utf8}
use Rattle.snap_scan_tokens.specs.declared.token.TScalarStyle.TheVariants as style
use Rattle.snap_scan_tokens.specs.declared.info.ScanInfo.TheVariants as i
use Rattle.snap_scan.specs.declared.kind.TokenKind.TheVariants as k
use Rattle.snap_scan.proofs.Beginnings.{kind-begins}
use Rattle.snap_scan.proofs.Growing.{unrefused}
use Rattle.snap_scan.proofs.Possible.{in-source, in-bracket, in-holds, stands, stands-behind}
use Rattle.snap_scan.proofs.Soundness.{either, only, sound-forced, sound-unrolled, sound-stale, sound-to-next}
use Rattle.snap_scan.proofs.Stepping.{step-token, step-over}
use Rattle.snap_scan.proofs.Sounding.{IsFresh, among, begun, left-done, left-open, sound-closed, sound-kind}

-- a fault that a test found, or that lies further on
founded-if : (source : List ℕ) (b : Bool) (m n : Mark) (why info : ScanInfo) (o : Outcome) → (b ≡ true → IsFounded source (Syntax m why))
    → (Names o n info → IsFounded source (Syntax n info)) → Names (if b then refused m why else o) n info → IsFounded source (Syntax n info)
founded-if source true m n why info o here further names = rw (names.0, names.1) (here refl)
founded-if source false m n why info o here further names = further names

founded-else : (source : List ℕ) (b : Bool) (m n : Mark) (why info : ScanInfo) (o : Outcome) → (b ≡ false → IsFounded source (Syntax m why))
    → (Names o n info → IsFounded source (Syntax n info)) → Names (if b then o else refused m why) n info → IsFounded source (Syntax n info)
founded-else source true m n why info o here further names = further names
founded-else source false m n why info o here further names = rw (names.0, names.1) (here refl)

-- the signs stand in the source, and the place lies in it
founded-at : {ahead : Bool} → (o : Bool) (source : List ℕ) (d : ℕ) (s : State) (info : ScanInfo) → IsSoundFrom o ahead source d s → Holds source (needed info)
    → IsFounded source (Syntax (mark_of s.place) info)
founded-at o source d s info is signs = (signs, omega (arith, in-source source (length s.keys.outer) s.place is.place))

-- what is explained from here on is explained by the source
founded-behind : {ahead : Bool} → (source : List ℕ) (d : ℕ) (s : State) (m : Mark) (info : ScanInfo) → IsSoundFrom false ahead source d s → IsExplained s.place (Syntax m info)
    → IsFounded source (Syntax m info)
founded-behind source d s m info is explained =
    let n = length s.keys.outer in
    let until = explained.2 in
    (stands-behind (needed info).signs source n (needed info).count s.place is.place explained.0, omega (arith, until, in-source source n s.place is.place))

-- a key that must be one stands where a block was opened
required-block : (source : List ℕ) (d : ℕ) (p : Place) (b : Bool) (key : Option SimpleKey) → IsPossible source d p b key → is_required key ≡ true → Holds source block_signs
required-block source d p b None is required = absurd (cc)
required-block source d p b (Some key) is required = is.block required

overdue-block : (source : List ℕ) (d : ℕ) (p : Place) (b : Bool) (mark : Mark) (key : Option SimpleKey) → IsPossible source d p b key → is_overdue mark key ≡ true → Holds source block_signs
overdue-block source d p b mark None is overdue = absurd (cc)
overdue-block source d p b mark (Some key) is overdue = is.block (both_first key.required _ overdue)

one-of-two : (T : Type 0) (a b : Bool) → (a ≡ true → T) → (b ≡ true → T) → (a || b) ≡ true → T
one-of-two T true b left right e = left refl
one-of-two T false b left right e = right e

some-overdue : (source : List ℕ) (d : ℕ) (p : Place) (b : Bool) (mark : Mark) (keys : List (Option SimpleKey)) → All (IsPossible source d p b) keys → list_any (is_overdue mark) keys ≡ true
    → Holds source block_signs
some-overdue source d p b mark [] are overdue = absurd (cc)
some-overdue source d p b mark (key ∷ keys) are overdue =
    let P = IsPossible source d p b in
    one-of-two (Holds source block_signs) (is_overdue mark key) (list_any (is_overdue mark) keys) (overdue-block source d p b mark key (All-head P key keys are))
    (some-overdue source d p b mark keys (All-tail P key keys are)) overdue

-- a key that is overdue is a founded fault
founded-overdue : {ahead : Bool} → (o : Bool) (source : List ℕ) (d : ℕ) (s : State) → IsSoundFrom o ahead source d s → any_overdue (mark_of s.place) s.keys ≡ true
    → IsFounded source (Syntax (mark_of s.place) i.S1)
founded-overdue o source d s is overdue =
    let mark = mark_of s.place in
    founded-at o source d s i.S1 is (one-of-two (Holds source block_signs) (is_overdue mark s.keys.key) (list_any (is_overdue mark) s.keys.outer)
    (overdue-block source d s.place _ mark s.keys.key is.keys.key) (some-overdue source d s.place _ mark s.keys.outer is.keys.outer) overdue)

founded-required : {ahead : Bool} → (source : List ℕ) (s : State) → IsSoundFrom false ahead source 1 s → is_required s.keys.key ≡ true → IsFounded source (Syntax (mark_of s.place) i.S2)
founded-required source s is required = founded-at false source 1 s i.S2 is (required-block source 1 s.place _ s.keys.key is.keys.key required)

founded-owed : {ahead : Bool} → (source : List ℕ) (s : State) → IsSoundFrom false ahead source 1 s → is_key_owed s ≡ true → IsFounded source (Syntax (mark_of s.place) i.S2)
founded-owed source s is owed = founded-required source s is (both_second s.allowed _ owed)

-- too many brackets: as many are open as may be, and one more stands here
founded-levels : {ahead : Bool} → (source : List ℕ) (s : State) → IsSoundFrom false ahead source 1 s → is_among (codes "[{") (slice_index s.place.left 0) ≡ true
    → nat_lt (length s.keys.outer) 1023 ≡ false → IsFounded source (Syntax (mark_of s.place) i.S23)
founded-levels source s is bracket many =
    let n = length s.keys.outer in
    let least : 1023 ≤ n = ltb-false n 1023 many in
    founded-at false source 1 s i.S23 is (omega (arith, least, in-holds source (n + 1) (skipped s.place) (in-bracket source n s.place bracket is.place)))

-- a character that begins no token explains its refusal
founded-sign : {ahead : Bool} → (source : List ℕ) (s : State) (info : ScanInfo) → IsSoundFrom false ahead source 1 s → explains (slice_index s.place.left 0) info ≡ true
    → slice_index s.place.left 0 ≢ 0 → IsFounded source (Syntax (mark_of s.place) info)
founded-sign source s info is explained some =
    let c = slice_index s.place.left 0 in
    let small = both_first (nat_le (needed info).count 1) (is_among (needed info).signs c) explained in
    let few : (needed info).count ≤ 1 = grind arith in
    let found = both_second (nat_le (needed info).count 1) (is_among (needed info).signs c) explained in
    founded-at false source 1 s info is (omega (arith, few, stands (needed info).signs source (length s.keys.outer) s.place is.place found some))

founded-flow-start : {ahead : Bool} → (source : List ℕ) (s u : State) (m : Mark) (info : ScanInfo) → IsSoundFrom false ahead source 1 s → is_among (codes "[{") (slice_index s.place.left 0) ≡ true
    → Names (if is_key_owed s then refused (mark_of s.place) i.S2 else (if nat_lt (length s.keys.outer) 1023 then done u else refused (mark_of s.place) i.S23)) m info
    → IsFounded source (Syntax m info)
founded-flow-start source s u m info is bracket names =
    founded-if source (is_key_owed s) (mark_of s.place) m i.S2 info _ (founded-owed source s is) (λ further.
    founded-else source (nat_lt (length s.keys.outer) 1023) (mark_of s.place) m i.S23 info (done u) (founded-levels source s is bracket) (λ none. absurd none) further) names

founded-value : {ahead : Bool} → (source : List ℕ) (key : Option SimpleKey) (s : State) (m : Mark) (info : ScanInfo) → IsSoundFrom false ahead source 1 s → slice_index s.place.left 0 ≡ 58
    → Names (value_behind key s) m info → IsFounded source (Syntax m info)
founded-value source (Some key) s m info is first names = absurd names
founded-value source None s m info is first names =
    founded-if source (not (in_flow s) && not s.allowed) (mark_of s.place) m i.S36 info _
    (λ _. founded-at false source 1 s i.S36 is (begun (codes ":") source 1 s 58 is first refl (omega arith))) (λ none. absurd none) names

founded-plain : {ahead : Bool} → (source : List ℕ) (o : Option Plain) (s : State) (m : Mark) (info : ScanInfo) → IsSoundFrom false ahead source 1 s → Names (plain_read o s) m info
    → IsFounded source (Syntax m info)
founded-plain source None s m info is names = founded-behind source 1 s m info is names
founded-plain source (Some r) s m info is names = absurd names

founded-quoted : {ahead : Bool} → (source : List ℕ) (written : TScalarStyle) (o : Option Quoted) (s : State) (m : Mark) (info : ScanInfo) → IsSoundFrom false ahead source 1 s
    → Names (quoted_read written o s) m info → IsFounded source (Syntax m info)
founded-quoted source written None s m info is names = founded-behind source 1 s m info is names
founded-quoted source written (Some r) s m info is names = absurd names

founded-block : {ahead : Bool} → (source : List ℕ) (written : TScalarStyle) (o : Option Block) (s : State) (m : Mark) (info : ScanInfo) → IsSoundFrom false ahead source 1 s
    → Names (block_read written o s) m info → IsFounded source (Syntax m info)
founded-block source written None s m info is names = founded-behind source 1 s m info is names
founded-block source written (Some r) s m info is names = absurd names

-- a token that may be a key: the key before it is owed, or what reads it refuses
founded-owing : {ahead : Bool} → (source : List ℕ) (s : State) (o : Outcome) (m : Mark) (info : ScanInfo) → IsSoundFrom false ahead source 1 s
    → (Names o m info → IsFounded source (Syntax m info)) → Names (if is_key_owed s then refused (mark_of s.place) i.S2 else o) m info → IsFounded source (Syntax m info)
founded-owing source s o m info is further names = founded-if source (is_key_owed s) (mark_of s.place) m i.S2 info o (founded-owed source s is) further names

founded-removing : {ahead : Bool} → (source : List ℕ) (s : State) (o : Outcome) (m : Mark) (info : ScanInfo) → IsSoundFrom false ahead source 1 s
    → (Names o m info → IsFounded source (Syntax m info)) → Names (if is_required s.keys.key then refused (mark_of s.place) i.S2 else o) m info → IsFounded source (Syntax m info)
founded-removing source s o m info is further names = founded-if source (is_required s.keys.key) (mark_of s.place) m i.S2 info o (founded-required source s is) further names

founded-kind : {ahead : Bool} → (source : List ℕ) (kind : TokenKind) (s : State) (m : Mark) (info : ScanInfo) → IsSoundFrom false ahead source 1 s → Begins kind (slice_index s.place.left 0)
    → Names (kind_step kind s) m info → IsFounded source (Syntax m info)
founded-kind source k.StreamEnd s m info is first names =
    let end = record s { place = forced s.place } in
    founded-removing source end (done _) m info (sound-forced source 1 s is) (λ none. absurd none) names
founded-kind source k.Directive s m info is first names =
    founded-removing source s _ m info is (founded-behind source 1 (closed s) m info (sound-closed source 1 s is)) names
founded-kind source k.FlowSequenceStart s m info is first names = founded-flow-start source s _ m info is (among (codes "[{") _ 91 first refl) names
founded-kind source k.FlowMappingStart s m info is first names = founded-flow-start source s _ m info is (among (codes "[{") _ 123 first refl) names
founded-kind source k.BlockEntry s m info is first names =
    let entry = begun (codes "-") source 1 s 45 is first refl (omega arith) in
    founded-if source (in_flow s) (mark_of s.place) m i.S25 info _ (λ _. founded-at false source 1 s i.S25 is entry) (λ further.
    founded-if source (not s.allowed) (mark_of s.place) m i.S24 info _ (λ _. founded-at false source 1 s i.S24 is entry)
    (founded-removing source s (done _) m info is (λ none. absurd none)) further) names
founded-kind source k.Key s m info is first names =
    founded-if source (not (in_flow s) && not s.allowed) (mark_of s.place) m i.S35 info _
    (λ _. founded-at false source 1 s i.S35 is (begun (codes "?") source 1 s 63 is first refl (omega arith))) (founded-removing source s (done _) m info is (λ none. absurd none)) names
founded-kind source k.Value s m info is first names = founded-value source s.keys.key s m info is first names
founded-kind source (k.Refused why) s m info is first names = rw (names.0, names.1) (founded-sign source s why is first.0 first.1)
founded-kind source k.Alias s m info is first names = founded-owing source s _ m info is (founded-behind source 1 s m info is) names
founded-kind source k.Anchor s m info is first names = founded-owing source s _ m info is (founded-behind source 1 s m info is) names
founded-kind source k.Tag s m info is first names = founded-owing source s _ m info is (founded-behind source 1 s m info is) names
founded-kind source k.Literal s m info is first names = founded-owing source s _ m info is (founded-block source style.Literal (block_from (innermost s.columns) true s.place) s m info is) names
founded-kind source k.Folded s m info is first names = founded-owing source s _ m info is (founded-block source style.Foled (block_from (innermost s.columns) false s.place) s m info is) names
founded-kind source k.SingleQuoted s m info is first names = founded-owing source s _ m info is (founded-quoted source style.SingleQuoted (single_from s.place) s m info is) names
founded-kind source k.DoubleQuoted s m info is first names = founded-owing source s _ m info is (founded-quoted source style.DoubleQuoted (double_from s.place) s m info is) names
founded-kind source k.Plain s m info is first names =
    founded-owing source s _ m info is (founded-plain source (plain_from (innermost s.columns) (in_flow s) s.place) s m info is) names
founded-kind source other s m info is first names = founded-removing source s (done _) m info is (λ none. absurd none) names

begins-at : (s : State) → Begins (kind_of (in_flow (at_token s)) s.adjacent (at_token s).place) (slice_index (at_token s).place.left 0)
begins-at s = kind-begins (in_flow (at_token s)) s.adjacent (at_token s).place

fresh-is : (mark : Mark) (key : Option SimpleKey) → IsFresh mark (fresh mark key)
fresh-is mark None = tt
fresh-is mark (Some key) = cond_both (is_past mark key) None (Some key) (IsFresh mark) (λ _. tt) (λ e. e)

sound-token : {ahead : Bool} → (source : List ℕ) (s new : State) → IsSoundFrom false ahead source 1 s → Leaves (token_step s) new → IsSound ahead source new
sound-token source s new is l =
    let t = stale s in
    let fresh_here = either (λ v. IsFresh (mark_of v.place) v.keys.key) (in_flow t) t _ (fresh-is (mark_of s.place) s.keys.key) (fresh-is (mark_of s.place) s.keys.key) in
    sound-kind source _ (at_token s) new (sound-unrolled source 1 (Some s.place.col) t (sound-stale false source 1 s is)) fresh_here (begins-at s)
    (unrefused (any_overdue (mark_of s.place) s.keys) _ _ _ new l)

founded-token : {ahead : Bool} → (source : List ℕ) (s : State) (m : Mark) (info : ScanInfo) → IsSoundFrom false ahead source 1 s → Names (token_step s) m info → IsFounded source (Syntax m info)
founded-token source s m info is names =
    founded-if source (any_overdue (mark_of s.place) s.keys) (mark_of s.place) m i.S1 info _ (founded-overdue false source 1 s is)
    (founded-kind source _ (at_token s) m info (sound-unrolled source 1 (Some s.place.col) (stale s) (sound-stale false source 1 s is)) (begins-at s)) names

-- StreamStart is held, and nothing else was done
sound-started : (source : List ℕ) → IsSoundFrom false true source 1 (stream_started (start_state source))
sound-started source =
    let p = (start_state source).place in
    let token = at (mark_of p) (t.StreamStart Utf8) in
    record {
      place = record { before = []; text = refl; index = refl; brackets = omega arith };
      tokens = only (IsShown source) token (record { signs = omega arith; mark = omega arith; key = tt });
      first = refl;
      starts = All-nil IsNoStart;
      ends = only IsNoEnd token refl;
      keys = record { key = tt; outer = All-nil (IsPossible source 1 p true) };
      blocks = λ some. absurd (omega (arith, some));
      started = refl;
      ended = refl;
    }

pub sound-step : {ahead : Bool} → (source : List ℕ) (s new : State) → IsSound ahead source s → Leaves (step s) new → IsSound ahead source new
sound-step source s new (untouched starts same) l = rw starts (left-open source (stream_started (start_state source)) new (sound-started source) (rw same at l))
sound-step source s new (open_still is) l =
    let P : Outcome → Type 0 = λ o. Leaves o new in
    sound-token source (to_next s.place.left s) new (sound-to-next source 1 s.place.left s is)
    (subst P (step-token s is.ended is.started) l)
sound-step source s new (over is) l = let P : Outcome → Type 0 = λ o. Leaves o new in left-done source s new (over is) (subst P (step-over s is.ended) l)

founded-step : {ahead : Bool} → (source : List ℕ) (s : State) (m : Mark) (info : ScanInfo) → IsSound ahead source s → Names (step s) m info → IsFounded source (Syntax m info)
founded-step source s m info (untouched starts same) names = absurd (rw same at names)
founded-step source s m info (open_still is) names =
    let P : Outcome → Type 0 = λ o. Names o m info in
    founded-token source (to_next s.place.left s) m info (sound-to-next source 1 s.place.left s is)
    (subst P (step-token s is.ended is.started) names)
founded-step source s m info (over is) names = let P : Outcome → Type 0 = λ o. Names o m info in absurd (subst P (step-over s is.ended) names)

-- the error of a fetch is founded
pub founded-fetch : {ahead : Bool} → (source : List ℕ) (e : ScanError) (s : State) → IsSound ahead source s → MayFail e (step s) → IsFounded source e
founded-fetch source OutOfMemory s is fails = tt
founded-fetch source (Syntax m info) s is fails = founded-step source s m info is fails

-- stale keys are given up
pub sound-fresh : {ahead : Bool} → (source : List ℕ) (s new : State) → IsSound ahead source s → new ≡ stale s → IsSound ahead source new
sound-fresh source s new (untouched starts same) is_new = untouched starts (is_new ∙ ap (λ (v : State). stale v) same)
sound-fresh source s new (open_still is) is_new = rw is_new (open_still (sound-stale false source 1 s is))
sound-fresh source s new (over is) is_new = rw is_new (over (sound-stale true source 1 s is))

-- the refusal of a key that is overdue
pub founded-stale : {ahead : Bool} → (source : List ℕ) (e : ScanError) (s : State) → IsSound ahead source s → any_overdue (mark_of s.place) s.keys ≡ true
    → e ≡ Syntax (mark_of s.place) i.S1 → IsFounded source e
founded-stale source e s (untouched starts same) overdue is_e =
    let none = rw same at overdue in absurd (cc)
founded-stale source e s (open_still is) overdue is_e = rw is_e (founded-overdue false source 1 s is overdue)
founded-stale source e s (over is) overdue is_e = rw is_e (founded-overdue true source 1 s is overdue)

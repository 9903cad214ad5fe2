-- What the parts of a fetch keep.
use Rattle.snap_scan.proofs.Prelude.{◌≡◌, ◌≢◌, ◌≤◌, ◌<◌, ◌+◌, ◌++◌, ◌∷◌, [], ℕ, zero, suc, Bool, true, false, List, Option, Some, None, length, take, drop, slice_index, min, sym, ap, arith, refl, ◌∙◌, ◌==◌, ◌&&◌, if◌then◌else◌, All, insert, length-map, append-nil, All-append, All-cons, All-nil, All-head, All-take, All-drop, All-map, All-weaker, Mark, Place, Later, here, next, skipped, skip_from, forced, mark_of, is_break, Token, is_past, fresh, lowered, State, at, in_flow, pushed, inserted, put, advanced, line_ended, is_space, to_next, past_comment, ends, kept, is_right_of, unrolled, rolled, is_deeper, keyless, saved, is_innermost, stale, given, Holds, IsShown, IsKeySound, IsPossible, IsSoundFrom, IsNoStart, IsNoEnd, IsEndLast, begins_stream, is_start, block_signs, SimpleKey, both_second, cond_both, IsSoundAt, ArePossible, Keys, IsIn}
use Rattle.snap_scan_tokens.specs.declared.token.TokenType.TheVariants as t
use Rattle.snap_scan.proofs.Possible.{in-source, in-later, in-fewer, in-forced, keys-later, keys-further, keys-nearer, keys-forced}

pub either : {A : Type 0} (P : A → Type 0) (b : Bool) (x y : A) → P x → P y → P (if b then x else y)
either P b x y left right = cond_both b x y P (λ _. left) (λ _. right)

-- tokens that are neither StreamStart nor StreamEnd
begins-none : (ts : List Token) → All IsNoStart ts → begins_stream ts ≡ false
begins-none [] none = refl
begins-none (t ∷ ts) none = All-head IsNoStart t ts none

pub begins-append : (held ts : List Token) → All IsNoStart ts → begins_stream (held ++ ts) ≡ begins_stream held
begins-append [] ts none = begins-none ts none
begins-append (x ∷ xs) ts none = refl

pub rest-append : (held ts : List Token) → All IsNoStart (drop 1 held) → All IsNoStart ts → All IsNoStart (drop 1 (held ++ ts))
rest-append [] ts rest none = All-drop IsNoStart 1 ts none
rest-append (x ∷ xs) ts rest none = All-append IsNoStart xs ts rest none

pub sound-appended : {ahead : Bool} → (source : List ℕ) (d : ℕ) (ts : List Token) (s : State) → IsSoundFrom false ahead source d s → All (IsShown source) ts → All IsNoStart ts → All IsNoEnd ts
    → IsSoundFrom false ahead source d (record s { held = s.held ++ ts })
sound-appended source d ts s is more no_start no_end =
    let all = All-append (IsShown source) s.held ts is.tokens more in
    let first = begins-append s.held ts no_start ∙ is.first in
    search (all, first, rest-append s.held ts is.starts no_start, All-append IsNoEnd s.held ts is.ends no_end)

pub only : (P : Token → Type 0) (token : Token) → P token → All P (token ∷ [])
only P token is = All-cons P token [] is (All-nil P)

pub sound-pushed : {ahead : Bool} → (source : List ℕ) (d : ℕ) (token : Token) (s : State) → IsSoundFrom false ahead source d s → IsShown source token → IsNoStart token → IsNoEnd token
    → IsSoundFrom false ahead source d (pushed token s)
sound-pushed source d token s is more no_start no_end =
    sound-appended source d (token ∷ []) s is (only (IsShown source) token more) (only IsNoStart token no_start) (only IsNoEnd token no_end)

not-first : (b : Bool) → (b ≡ true → 1 ≤ 0) → b ≡ false
not-first true first = absurd (omega (arith, first refl))
not-first false first = refl

begins-inserted : (held : List Token) (n : ℕ) (token : Token) → (begins_stream held ≡ true → 1 ≤ n) → IsNoStart token → begins_stream (insert held n token) ≡ begins_stream held
begins-inserted [] zero token behind none = none
begins-inserted [] (suc n) token behind none = none
begins-inserted (x ∷ xs) zero token behind none = none ∙ sym (not-first (is_start x.1) behind)
begins-inserted (x ∷ xs) (suc n) token behind none = refl

rest-inserted : (held : List Token) (n : ℕ) (token : Token) → (begins_stream held ≡ true → 1 ≤ n) → All IsNoStart (drop 1 held) → IsNoStart token
    → All IsNoStart (drop 1 (insert held n token))
rest-inserted [] zero token behind rest none = All-nil IsNoStart
rest-inserted [] (suc n) token behind rest none = All-nil IsNoStart
rest-inserted (x ∷ xs) zero token behind rest none = All-cons IsNoStart x xs (not-first (is_start x.1) behind) rest
rest-inserted (x ∷ xs) (suc n) token behind rest none =
    All-append IsNoStart (take n xs) (token ∷ drop n xs) (All-take IsNoStart n xs rest) (All-cons IsNoStart token (drop n xs) none (All-drop IsNoStart n xs rest))

some-held : (held : List Token) → begins_stream held ≡ true → 1 ≤ length held
some-held [] begins = absurd (cc)
some-held (x ∷ xs) begins = omega arith

All-insert : (P : Token → Type 0) (held : List Token) (n : ℕ) (token : Token) → All P held → P token → All P (insert held n token)
All-insert P held n token all is = All-append P (take n held) (token ∷ drop n held) (All-take P n held all) (All-cons P token (drop n held) is (All-drop P n held all))

pub sound-inserted : {ahead : Bool} → (source : List ℕ) (d i : ℕ) (token : Token) (s : State) → IsSoundFrom false ahead source d s → (ahead ≡ true → 1 ≤ i)
    → IsShown source token → IsNoStart token → IsNoEnd token → IsSoundFrom false ahead source d (inserted i token s)
sound-inserted source d i token s is behind more no_start no_end =
    let n = min i (length s.held) in
    let within : begins_stream s.held ≡ true → 1 ≤ n = λ e. omega (arith, behind (sym is.first ∙ e), some-held s.held e) in
    let first = begins-inserted s.held n token within no_start ∙ is.first in
    let starts = rest-inserted s.held n token within is.starts no_start in
    search (All-insert (IsShown source) s.held n token is.tokens more, first, starts, All-insert IsNoEnd s.held n token is.ends no_end)

-- a place in the queue that isn't before StreamStart
abbrev pub IsBehindStart : Bool → Option ℕ → Type 0
IsBehindStart ahead None = Unit {0}
IsBehindStart ahead (Some i) = ahead ≡ true → 1 ≤ i

sound-put : {ahead : Bool} → (source : List ℕ) (d : ℕ) (i : Option ℕ) (token : Token) (s : State) → IsSoundFrom false ahead source d s → IsBehindStart ahead i
    → IsShown source token → IsNoStart token → IsNoEnd token → IsSoundFrom false ahead source d (put i token s)
sound-put source d None token s is behind more no_start no_end = sound-pushed source d token s is more no_start no_end
sound-put source d (Some i) token s is behind more no_start no_end = sound-inserted source d i token s is behind more no_start no_end

-- another place, with the keys that are possible there
pub sound-moved : {over ahead begun stopped : Bool} {source columns : List ℕ} {d e : ℕ} {p q : Place} {held : List Token} {ks js : Keys}
    → IsSoundAt over ahead source d p held ks columns begun stopped → IsIn source (length js.outer) q → ArePossible source e q ahead js
    → IsSoundAt over ahead source e q held js columns begun stopped
sound-moved is place keys = search

-- a later place
pub sound-at : {ahead : Bool} → (source : List ℕ) (d : ℕ) (p : Place) (s : State) → Later s.place p → IsSoundFrom false ahead source d s → IsSoundFrom false ahead source d (record s { place = p })
sound-at source d p s later is = sound-moved is (in-later source (length s.keys.outer) s.place p later is.place) (keys-later source d s.place p _ s.keys later is.keys)

-- a place that is one character later at least: what was a possible key here is one after it
pub sound-further : {ahead : Bool} → (source : List ℕ) (d : ℕ) (p : Place) (s : State) → Later s.place p → length p.left + 1 ≤ length s.place.left → IsSoundFrom false ahead source d s
    → IsSoundFrom false ahead source 1 (record s { place = p })
sound-further source d p s later further is =
    sound-moved is (in-later source (length s.keys.outer) s.place p later is.place) (keys-further source d s.place p _ s.keys later further is.keys)

pub sound-advanced : {ahead : Bool} → (source : List ℕ) (d : ℕ) (s : State) → IsSoundFrom false ahead source d s → IsSoundFrom false ahead source d (advanced s)
sound-advanced source d s is = sound-at source d (skipped s.place) s (next s.place s.place (here s.place)) is

skip-shorter : (cs : List ℕ) (p : Place) → p.left ≡ cs → slice_index cs 0 ≢ 0 → length (skip_from cs p).left + 1 ≤ length p.left
skip-shorter [] p left some = absurd (some refl)
skip-shorter (c ∷ cs) p left some = let long = ap length left in omega arith

-- a character is passed
pub sound-passed : {ahead : Bool} → (source : List ℕ) (d : ℕ) (s : State) → slice_index s.place.left 0 ≢ 0 → IsSoundFrom false ahead source d s → IsSoundFrom false ahead source 1 (advanced s)
sound-passed source d s some is = sound-further source d (skipped s.place) s (next s.place s.place (here s.place)) (skip-shorter s.place.left s.place refl some) is

pub sound-forced : {ahead : Bool} → (source : List ℕ) (d : ℕ) (s : State) → IsSoundFrom false ahead source d s → IsSoundFrom false ahead source d (record s { place = forced s.place })
sound-forced source d s is = sound-moved is (in-forced source (length s.keys.outer) s.place is.place) (keys-forced source d s.place _ s.keys is.keys)

pub sound-keyless : {ahead : Bool} → (source : List ℕ) (d : ℕ) (s : State) → IsSoundFrom false ahead source d s → IsSoundFrom false ahead source d (keyless s)
sound-keyless source d s is = sound-moved is is.place (record { key = tt; outer = is.keys.outer })

-- other blocks
sound-blocks : {over ahead begun stopped : Bool} {source columns others : List ℕ} {d : ℕ} {p : Place} {held : List Token} {ks : Keys}
    → IsSoundAt over ahead source d p held ks columns begun stopped → (0 < length others → Holds source block_signs)
    → IsSoundAt over ahead source d p held ks others begun stopped
sound-blocks is blocks = search

pub sound-rolled : {ahead : Bool} → (source : List ℕ) (d col : ℕ) (i : Option ℕ) (token : Token) (s : State) → IsSoundFrom false ahead source d s → IsBehindStart ahead i
    → IsShown source token → IsNoStart token → IsNoEnd token → Holds source block_signs → IsSoundFrom false ahead source d (rolled col i token s)
sound-rolled source d col i token s is behind more no_start no_end block =
    let deep = record s { columns = col ∷ s.columns } in
    either (IsSoundFrom false _ source d) (in_flow s) s _ is (either (IsSoundFrom false _ source d) (is_deeper col s.columns) _ s
    (sound-put source d i token deep (sound-blocks is (λ _. block)) behind more no_start no_end) is)

-- no block is added where some are closed
kept-shorter : (col : Option ℕ) (os : List ℕ) → length (kept col os) ≤ length os
kept-shorter col [] = omega arith
kept-shorter col (o ∷ os) =
    either (λ v. length v ≤ length (o ∷ os)) (is_right_of col o) (kept col os) (o ∷ os) (omega (arith, kept-shorter col os)) (omega arith)

-- what holds of a BlockEnd at a mark holds of all of them
ends-all : (P : Token → Type 0) (mark : Mark) (col : Option ℕ) (os : List ℕ) → P (at mark t.BlockEnd) → All P (ends mark col os)
ends-all P mark col [] is = All-nil P
ends-all P mark col (o ∷ os) is =
    either (All P) (is_right_of col o) _ _ (All-cons P (at mark t.BlockEnd) (ends mark col os) is (ends-all P mark col os is)) (All-nil P)

pub sound-unrolled : {ahead : Bool} → (source : List ℕ) (d : ℕ) (col : Option ℕ) (s : State) → IsSoundFrom false ahead source d s → IsSoundFrom false ahead source d (unrolled col s)
sound-unrolled source d col s is =
    let mark = mark_of s.place in
    let shown_end : IsShown source (at mark t.BlockEnd) = record { signs = omega arith; mark = omega (arith, in-source source (length s.keys.outer) s.place is.place); key = tt } in
    let more = sound-appended source d (ends mark col s.columns) s is
    (ends-all (IsShown source) mark col s.columns shown_end) (ends-all IsNoStart mark col s.columns refl) (ends-all IsNoEnd mark col s.columns refl) in
    either (IsSoundFrom false _ source d) (in_flow s) s _ is (sound-blocks more (λ some. is.blocks (omega (arith, some, kept-shorter col s.columns))))

some-innermost : (col : ℕ) (os : List ℕ) → is_innermost col os ≡ true → 0 < length os
some-innermost col [] e = absurd (cc)
some-innermost col (o ∷ os) e = omega arith

-- the next token may be a key, which lies after once a character of it is passed
pub sound-saved : {ahead : Bool} → (source : List ℕ) (d : ℕ) (s : State) → IsSoundFrom false ahead source d s → IsSoundFrom false ahead source 0 (saved s)
sound-saved source d s is =
    let near = keys-nearer source d s.place _ s.keys is.keys in
    let key : SimpleKey = record { place = length s.held; required = in_flow s && is_innermost s.place.col s.columns; mark = mark_of s.place } in
    let fits : IsKeySound source 0 s.place _ key = record {
      behind = record { before = is.place.before; between = []; text = is.place.text ∙ ap (λ (v : List ℕ). v ++ s.place.left) (sym (append-nil is.place.before)); index = is.place.index; some = omega arith; lines = omega arith };
      block = λ e. is.blocks (some-innermost s.place.col s.columns (both_second (in_flow s) _ e));
      place = λ e. some-held s.held (is.first ∙ e);
    } in
    sound-moved is is.place (record { key = either (IsPossible source 0 s.place _) s.allowed (Some key) s.keys.key fits near.key; outer = near.outer })

key-fresh : (source : List ℕ) (d : ℕ) (p : Place) (starts : Bool) (mark : Mark) (key : Option SimpleKey) → IsPossible source d p starts key → IsPossible source d p starts (fresh mark key)
key-fresh source d p starts mark None is = is
key-fresh source d p starts mark (Some key) is = either (IsPossible source d p starts) (is_past mark key) None (Some key) tt is

pub sound-stale : {ahead : Bool} → (over : Bool) (source : List ℕ) (d : ℕ) (s : State) → IsSoundFrom over ahead source d s → IsSoundFrom over ahead source d (stale s)
sound-stale over source d s is =
    let mark = mark_of s.place in
    let P : Option SimpleKey → Type 0 = IsPossible source d s.place _ in
    let keep = key-fresh source d s.place _ mark in
    sound-moved is (in-fewer source _ (length s.keys.outer) s.place (omega (arith, length-map s.keys.outer (fresh mark))) is.place)
    (record { key = keep s.keys.key is.keys.key; outer = All-map P (fresh mark) s.keys.outer (All-weaker P (λ k. P (fresh mark k)) keep s.keys.outer is.keys.outer) })

key-lowered : (source : List ℕ) (d : ℕ) (p : Place) (a : Bool) (key : Option SimpleKey) → IsPossible source d p a key → IsPossible source d p false (lowered key)
key-lowered source d p a None is = tt
key-lowered source d p a (Some key) is = record {
  behind = record { before = is.behind.before; between = is.behind.between; text = is.behind.text; index = is.behind.index; some = is.behind.some; lines = is.behind.lines };
  block = is.block;
  place = λ starts. absurd (cc);
}

ends-given : (over : Bool) (held : List Token) → IsEndLast over held → IsEndLast over (drop 1 held)
ends-given false held is = All-drop IsNoEnd 1 held is
ends-given true [] is = tt
ends-given true (x ∷ []) is = tt
ends-given true (x ∷ y ∷ ys) is = is.1

pub sound-given : {ahead : Bool} → (over : Bool) (source : List ℕ) (d : ℕ) (s : State) → IsSoundFrom over ahead source d s → IsSoundFrom over false source d (given s)
sound-given over source d s is =
    let none = begins-none (drop 1 s.held) is.starts in
    let P : Option SimpleKey → Type 0 = IsPossible source d s.place _ in
    let Q : Option SimpleKey → Type 0 = IsPossible source d s.place false in
    let lower = key-lowered source d s.place _ in
    record {
      place = in-fewer source _ (length s.keys.outer) s.place (omega (arith, length-map s.keys.outer lowered)) is.place;
      tokens = All-drop (IsShown source) 1 s.held is.tokens;
      first = none;
      starts = All-drop IsNoStart 1 (drop 1 s.held) is.starts;
      ends = ends-given over s.held is.ends;
      keys = record { key = lower s.keys.key is.keys.key; outer = All-map Q lowered s.keys.outer (All-weaker P (λ k. Q (lowered k)) lower s.keys.outer is.keys.outer) };
      blocks = is.blocks;
      started = is.started;
      ended = is.ended;
    }

-- what each character that is passed keeps, and each line's end, is kept on the way to the next token
module _ (P : State → Type 0) (on : (s : State) → P s → P (advanced s)) (broken : (s : State) → P s → P (line_ended s)) where
  mutual
    pub to_next-keeps : (cs : List ℕ) (s : State) → P s → P (to_next cs s)
    to_next-keeps [] s is = is
    to_next-keeps (c ∷ cs) s is =
        let further = on s is in
        either P (is_space c s) _ _ (to_next-keeps cs (advanced s) further)
        (either P (is_break c) _ _ (to_next-keeps cs (line_ended (advanced s)) (broken (advanced s) further))
        (either P (c == 35) _ s (past_comment-keeps cs (advanced s) further) is))

    past_comment-keeps : (cs : List ℕ) (s : State) → P s → P (past_comment cs s)
    past_comment-keeps [] s is = is
    past_comment-keeps (c ∷ cs) s is =
        let further = on s is in
        either P (is_break c) _ _ (to_next-keeps cs (line_ended (advanced s)) (broken (advanced s) further))
        (either P (c == 0) s _ is (past_comment-keeps cs (advanced s) further))

pub sound-to-next : {ahead : Bool} → (source : List ℕ) (d : ℕ) (cs : List ℕ) (s : State) → IsSoundFrom false ahead source d s → IsSoundFrom false ahead source d (to_next cs s)
sound-to-next source d = to_next-keeps (IsSoundFrom false _ source d) (sound-advanced source d) (λ s is. is)

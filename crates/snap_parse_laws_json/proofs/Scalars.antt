-- The scalars of a JSON text, and a key up to its value.
use Rattle.snap_parse_laws_json.proofs.Prelude.{◌≡◌, ℕ, suc, ◌+◌, ◌-◌, ◌≤◌, List, [], ◌∷◌, ◌++◌, Bool, true, false, refl, sym, ap, ◌∙◌, subst, arith, Some, None, Option, map, nat_lt, length, nat_tests, ◌||◌, ◌&&◌, ◌==◌, slice_index, if◌then◌else◌, is_flow_sign, is_blank_or_end, Place, mark_of, plain_from, Quoted, double_from, Token, kind_step, plain_read, quoted_read, sign, value_behind, value_of_key, Keys, is_required, fresh, still_fresh, has_levels, kind_of, left_by, fetched, State, at, pushed, keyless, SimpleKey, TokenKind, json_escaped, json_string, here, quote-kind, key_at, insert-at, closed_by, stops_at, quoted_token, plain_token, and_right, and_nothing}
use Rattle.snap_scan_tokens.specs.Plain.{Plain}
use Rattle.snap_scan_tokens.specs.declared.token.TokenType.TheVariants as t
use Rattle.snap_scan_tokens.specs.declared.token.TScalarStyle.TheVariants as style
use Rattle.snap_scan.specs.declared.kind.TokenKind.TheVariants as k
use Rattle.snap_parse_laws_json.proofs.Escapes.{read_string, string-whole}
use Rattle.snap_parse_laws_json.proofs.Signs.{key_from, free-from, saved-is, otherwise}
use Rattle.snap_parse_laws_json.proofs.Standing.{flow_state, AreFree, still-free, same-levels, fetch-flow}
use Rattle.snap_parse_laws_json.proofs.Words.{IsWord, EndsValue, word_read, word-whole, some-levels}

-- the keys once a token was fetched at a place, where keys had been given up
abbrev pub keys_from : Bool → Place → List Token → Keys → Keys
keys_from b p h ks = record { key = key_from b p h (fresh (mark_of p) ks.key); outer = map (fresh (mark_of p)) ks.outer }

pub free-behind : (n : ℕ) (b : Bool) (p : Place) (h : List Token) (ks : Keys) → AreFree n ks → AreFree n (keys_from b p h ks)
free-behind n b p h ks free =
    let late = still-free (mark_of p) n ks free in
    record { key = free-from b p h (fresh (mark_of p) ks.key) late.key; outer = late.outer; levels = late.levels }

-- the state after a text in quotes
abbrev pub behind_string : Bool → List ℕ → List ℕ → ℕ → ℕ → List Token → Keys → State
behind_string b s tail i j h ks =
    let p = here (json_string s ++ tail) i 1 j in
    let n = length (json_string s) in
    flow_state false (i + n) (here tail (i + n) 1 (j + n)) (h ++ at (mark_of p) (quoted_token s) ∷ []) (keys_from b p h ks)

read-quotes : (b : Bool) (a : ℕ) (p : Place) (h : List Token) (ks : Keys) (r : Quoted) → is_required ks.key ≡ false → double_from p ≡ Some r
    → left_by (kind_step k.DoubleQuoted (flow_state b a p h ks))
    ≡ Some (flow_state false r.place.index r.place (h ++ at (mark_of p) (t.Scalar style.DoubleQuoted r.text) ∷ []) (record { key = key_from b p h ks.key; outer = ks.outer }))
read-quotes b a p h ks r free is =
    let s : State = flow_state b a p h ks in
    let reads : Option Quoted → Option State = λ q. left_by (quoted_read style.DoubleQuoted q s) in
    let moved : State → Option State = λ v. Some (pushed (at (mark_of p) (t.Scalar style.DoubleQuoted r.text)) (record v { allowed = false; place = r.place; adjacent = r.place.index })) in
    ap left_by (otherwise (b && is_required ks.key) _ _ (and_right b (is_required ks.key) free)) ∙ ap reads is ∙ ap moved (saved-is b a p h ks)

-- a text in quotes is fetched
pub step-string : (n : ℕ) (b : Bool) (a : ℕ) (s tail : List ℕ) (i j : ℕ) (h : List Token) (ks : Keys) → AreFree n ks
    → fetched (flow_state b a (here (json_string s ++ tail) i 1 j) h ks) ≡ Some (behind_string b s tail i j h ks)
step-string n b a s tail i j h ks free =
    let p : Place = here (json_string s ++ tail) i 1 j in
    let late : Keys = still_fresh (mark_of p) ks in
    let kinds : TokenKind → Option State = λ x. left_by (kind_step x (flow_state b a p h late)) in
    fetch-flow n b a p h ks free refl ∙ ap kinds (quote-kind (has_levels ks.outer) a (closed_by json_escaped s ++ tail) i 1 j)
    ∙ read-quotes b a p h late (read_string s tail i j) (still-free (mark_of p) n ks free).key (string-whole s tail i j)

-- the state after a word
abbrev pub behind_word : Bool → ℕ → List ℕ → List ℕ → ℕ → ℕ → List Token → Keys → State
behind_word b a w rest i j h ks =
    let p = here (w ++ rest) i 1 j in
    flow_state false a (here rest (i + length w) 1 (j + length w)) (h ++ at (mark_of p) (plain_token w) ∷ []) (keys_from b p h ks)

read-word : (b : Bool) (a : ℕ) (p : Place) (h : List Token) (ks : Keys) (r : Plain) → is_required ks.key ≡ false → plain_from None (has_levels ks.outer) p ≡ Some r
    → left_by (kind_step k.Plain (flow_state b a p h ks))
    ≡ Some (flow_state r.is_broken a r.place (h ++ at (mark_of p) (t.Scalar style.Plain r.text) ∷ []) (record { key = key_from b p h ks.key; outer = ks.outer }))
read-word b a p h ks r free is =
    let s : State = flow_state b a p h ks in
    let reads : Option Plain → Option State = λ q. left_by (plain_read q s) in
    let moved : State → Option State = λ v. Some (pushed (at (mark_of p) (t.Scalar style.Plain r.text)) (record v { allowed = r.is_broken; place = r.place })) in
    ap left_by (otherwise (b && is_required ks.key) _ _ (and_right b (is_required ks.key) free)) ∙ ap reads is ∙ ap moved (saved-is b a p h ks)

-- how a word begins
pub record Begins (w : List ℕ) : Type 0 where
  pub stops : (rest : List ℕ) → stops_at (slice_index (w ++ rest) 0) ≡ false
  pub kind : (flow : Bool) (a : ℕ) (rest : List ℕ) (i j : ℕ) → kind_of flow a (here (w ++ rest) i 1 j) ≡ k.Plain

pub begins : (w : List ℕ) → IsWord w → Begins w
begins w is =
    let there : Begins (is.letter ∷ is.letters) = record { stops = λ rest. is.starts.stops; kind = λ flow a rest i j. is.starts.kind flow a rest i 1 j } in
    subst Begins (sym is.is) there

-- a word is fetched
pub step-word : (n : ℕ) (b : Bool) (a : ℕ) (w : List ℕ) → IsWord w → (rest : List ℕ) (i j : ℕ) (h : List Token) (ks : Keys) → AreFree n ks → EndsValue n rest
    → fetched (flow_state b a (here (w ++ rest) i 1 j) h ks) ≡ Some (behind_word b a w rest i j h ks)
step-word n b a w is rest i j h ks free end =
    let p : Place = here (w ++ rest) i 1 j in
    let late : Keys = still_fresh (mark_of p) ks in
    let late_free = still-free (mark_of p) n ks free in
    let kinds : TokenKind → Option State = λ x. left_by (kind_step x (flow_state b a p h late)) in
    let begin = begins w is in
    fetch-flow n b a p h ks free (begin.stops rest) ∙ ap kinds (begin.kind (has_levels ks.outer) a rest i j)
    ∙ read-word b a p h late (word_read w rest (i + length w) (j + length w)) late_free.key (word-whole w is n late.outer rest i j late_free.levels end)

colon-ends : (alone sign same flow : Bool) → flow ≡ true → same ≡ true → alone || (flow && (sign || same)) ≡ true
colon-ends true sign same flow e f = refl
colon-ends false true same flow e f = rw e refl
colon-ends false false same flow e f = rw (e, f) refl

-- right after a text in quotes a colon ends a key
colon-kind : (flow : Bool) (cs : List ℕ) (i j : ℕ) → flow ≡ true → kind_of flow i (here (58 ∷ cs) i 1 j) ≡ k.Value
colon-kind flow cs i j e =
    let same : (i == i) ≡ true = grind (arith, nat_tests) in
    let value : is_blank_or_end (slice_index cs 0) || (flow && (is_flow_sign (slice_index cs 0) || i == i)) ≡ true =
    colon-ends (is_blank_or_end (slice_index cs 0)) (is_flow_sign (slice_index cs 0)) (i == i) flow e same in
    rw (and_nothing (j == 0), value) refl

-- the state after a key that began at q, and its colon
abbrev pub behind_colon : ℕ → Place → List ℕ → List Token → Token → List (Option SimpleKey) → State
behind_colon n q cs h scalar outer =
    let p = here (58 ∷ cs) (q.index + n) 1 (q.col + n) in
    flow_state false (q.index + n) (here cs (q.index + n + 1) 1 (q.col + n + 1)) (h ++ (at (mark_of q) t.Key ∷ scalar ∷ []) ++ at (mark_of p) t.Value ∷ [])
    (record { key = None; outer = outer })

state-so : (b : Bool) (x y : State) → b ≡ true → (if b then x else y) ≡ x
state-so true x y h = refl
state-so false x y h = absurd (cc)

-- the key is put before the scalar that it is
key-put : (n : ℕ) (q : Place) (cs : List ℕ) (h : List Token) (scalar : Token) (outer : List (Option SimpleKey)) → has_levels outer ≡ true
    → let p = here (58 ∷ cs) (q.index + n) 1 (q.col + n) in
    value_of_key (key_at q h) (flow_state false (q.index + n) p (h ++ scalar ∷ []) (record { key = Some (key_at q h); outer = outer }))
    ≡ behind_colon n q cs h scalar outer
key-put n q cs h scalar outer flow =
    let p : Place = here (58 ∷ cs) (q.index + n) 1 (q.col + n) in
    let ks : Keys = record { key = Some (key_at q h); outer = outer } in
    let behind : State → State = λ v. sign t.Value false (keyless v) in
    let with_held : List Token → State = λ x. behind (flow_state false (q.index + n) p x ks) in
    ap behind (state-so (has_levels outer) _ _ flow) ∙ ap with_held (insert-at h (scalar ∷ []) (at (mark_of q) t.Key))

fresh-key : (n i j col : ℕ) (x : List ℕ) (h : List Token) → n ≤ 1024
    → fresh (record { index = i + n; line = 1; col = col }) (Some (key_at (here x i 1 j) h)) ≡ Some (key_at (here x i 1 j) h)
fresh-key n i j col x h short =
    let near : nat_lt 1024 (i + n - i) ≡ false = grind (arith, nat_tests) in
    rw near refl

-- the colon after a key is fetched
pub step-colon : (m n : ℕ) (x cs : List ℕ) (i j : ℕ) (h : List Token) (scalar : Token) (outer : List (Option SimpleKey))
    → AreFree (suc m) (record { key = Some (key_at (here x i 1 j) h); outer = outer }) → n ≤ 1024
    → let p = here (58 ∷ cs) (i + n) 1 (j + n) in
    fetched (flow_state false (i + n) p (h ++ scalar ∷ []) (record { key = Some (key_at (here x i 1 j) h); outer = outer }))
    ≡ Some (behind_colon n (here x i 1 j) cs h scalar (map (fresh (mark_of p)) outer))
step-colon m n x cs i j h scalar outer free short =
    let q : Place = here x i 1 j in
    let p : Place = here (58 ∷ cs) (i + n) 1 (j + n) in
    let held : List Token = h ++ scalar ∷ [] in
    let ks : Keys = record { key = Some (key_at q h); outer = outer } in
    let late : List (Option SimpleKey) = map (fresh (mark_of p)) outer in
    let flow : has_levels outer ≡ true = some-levels m outer free.levels in
    let late_flow : has_levels late ≡ true = same-levels (mark_of p) outer ∙ flow in
    let kinds : TokenKind → Option State = λ y. left_by (kind_step y (flow_state false (i + n) p held (still_fresh (mark_of p) ks))) in
    let with_key : Option SimpleKey → Option State = λ y. left_by (value_behind y (flow_state false (i + n) p held (record { key = y; outer = late }))) in
    let some : State → Option State = λ v. Some v in
    fetch-flow (suc m) false (i + n) p held ks free refl ∙ ap kinds (colon-kind (has_levels outer) cs (i + n) (j + n) flow)
    ∙ ap with_key (fresh-key n i j (j + n) x h short) ∙ ap some (key-put n q cs h scalar late late_flow)

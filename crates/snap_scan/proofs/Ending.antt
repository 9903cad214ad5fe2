-- When the tokens are at their end.
use Rattle.snap_scan.proofs.Prelude.{◌≡◌, ◌≤◌, ◌+◌, ◌∷◌, [], ℕ, Bool, true, false, List, Option, Some, None, Ok, length, drop, ap, arith, refl, ◌∙◌, ◌==◌, ◌&&◌, if◌then◌else◌, MatchOption, Token, State, spent, left_of, has_ended, given, IsReady, IsNoneAtEnd, Pays, ne_eqb, and_nothing}

both : (a : Bool) (n : ℕ) → a ≡ true → n ≡ 0 → (a && n == 0) ≡ true
both a n is none = rw (is, none)

pub not-both : (a : Bool) (n : ℕ) → 1 ≤ n → (a && n == 0) ≡ false
not-both a n some = let more : (n == 0) ≡ false = ne_eqb n 0 (λ none. omega arith) in ap (λ b. a && b) more ∙ and_nothing a

pub ended-empty : (s : State) → s.held ≡ [] → s.ended ≡ true → has_ended s ≡ true
ended-empty s none is = both s.ended (length s.held) is (ap length none)

pub holding : (s : State) → 1 ≤ length s.held → has_ended s ≡ false
holding s some = not-both s.ended (length s.held) some

-- a token is given, or none where StreamEnd was given before
pub gives-at-end : (o : Option Token) (old mid new : State) → IsReady mid → (has_ended old ≡ true → mid ≡ old) → (has_ended old ≡ false → has_ended mid ≡ false)
    → MatchOption o ((mid.held ≡ []) × (new ≡ mid)) (λ token. (mid.held ≡ token ∷ new.held) × (new ≡ given mid)) → IsNoneAtEnd (Ok o) old new
gives-at-end None old mid new ready done fresh taken = by-end (has_ended old) refl
  where
    by-end : (b : Bool) → has_ended old ≡ b → (has_ended old ≡ true) × (new ≡ old)
    by-end true is = (is, taken.1 ∙ done is)
    by-end false is = let over = ended-empty mid taken.0 (ready taken.0) in let going = fresh is in absurd (cc)
gives-at-end (Some token) old mid new ready done fresh taken = by-end (has_ended old) refl
  where
    by-end : (b : Bool) → has_ended old ≡ b → has_ended old ≡ false
    by-end true is =
        let long = ap length taken.0 in
        let going = holding mid (omega arith) in
        let same = ap (λ (v : State). has_ended v) (done is) in absurd (cc)
    by-end false is = is

less : (b : Bool) (x y u v : ℕ) → x + 1 ≤ u → y + 1 ≤ v → (if b then x else y) + 1 ≤ (if b then u else v)
less true x y u v first second = first
less false x y u v first second = second

-- a token that is given takes one from what is left
pub given-pays : (mid : State) (token : Token) (rest : List Token) → mid.held ≡ token ∷ rest → left_of (given mid) + 1 ≤ left_of mid
given-pays mid token rest is =
    let long = ap length is in
    let short : length (drop 1 mid.held) ≡ length rest = ap (λ (v : List Token). length (drop 1 v)) is in
    less mid.ended (length (drop 1 mid.held)) (spent (given mid)) (length mid.held) (spent mid) (omega arith) (omega arith)

pub pays : (o : Option Token) (old mid new : State) → left_of mid ≤ left_of old
    → MatchOption o ((mid.held ≡ []) × (new ≡ mid)) (λ token. (mid.held ≡ token ∷ new.held) × (new ≡ given mid)) → Pays (Ok o) (left_of old) (left_of new)
pays None old mid new law taken = let same = ap (λ (v : State). left_of v) taken.1 in omega arith
pays (Some token) old mid new law taken =
    let same = ap (λ (v : State). left_of v) taken.1 in let paid = given-pays mid token new.held taken.0 in omega arith

-- The signs that stand in a text where a collection begins.
use Rattle.snap_parse_events.proofs.Prelude.{◌≡◌, ◌≤◌, ◌+◌, ◌||◌, ◌==◌, codes, ℕ, List, [], ◌∷◌, Bool, true, false, count_by, refl, arith, cond, Holds}
use Rattle.std.proofs.lemmas.List.Sums.{sum_by-cons}
use Rattle.snap_scan_tokens.specs.Causes.{is_among, one_of}

stepped : (a b : Bool) (m n : ℕ) → (a ≡ true → b ≡ true) → m ≤ n → cond a 1 0 + m ≤ cond b 1 0 + n
stepped true true m n h le = omega (arith, le)
stepped true false m n h le = absurd (let k : false ≡ true = h refl in cc)
stepped false true m n h le = omega (arith, le)
stepped false false m n h le = omega (arith, le)

-- a wider test holds as often at least
wider : (f g : ℕ → Bool) → ((c : ℕ) → f c ≡ true → g c ≡ true) → (cs : List ℕ) → count_by f cs ≤ count_by g cs
wider f g h [] = omega arith
wider f g h (c ∷ cs) =
    let a : ℕ → ℕ = λ x. cond (f x) 1 0 in
    let b : ℕ → ℕ = λ x. cond (g x) 1 0 in
    omega (arith, sum_by-cons a c cs, sum_by-cons b c cs, stepped (f c) (g c) (count_by f cs) (count_by g cs) (h c) (wider f g h cs))

first-or : (a b : Bool) → a || false ≡ true → a || (b || false) ≡ true
first-or true b h = refl
first-or false b h = absurd (cc)

second-or : (a b : Bool) → b || false ≡ true → a || (b || false) ≡ true
second-or true b h = refl
second-or false b h = h

-- a `[` is one of the brackets
pub list-sign : (source : List ℕ) → Holds source (one_of (codes "[")) → Holds source (one_of (codes "[{"))
list-sign source h = omega (arith, h, wider (is_among (codes "[")) (is_among (codes "[{")) (λ c is. first-or (c == 91) (c == 123) is) source)

-- a `{` is one of the brackets
pub dict-sign : (source : List ℕ) → Holds source (one_of (codes "{")) → Holds source (one_of (codes "[{"))
dict-sign source h = omega (arith, h, wider (is_among (codes "{")) (is_among (codes "[{")) (λ c is. second-or (c == 91) (c == 123) is) source)

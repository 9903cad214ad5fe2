-- Facts on runs of `#`.
use Rattle.snap_text_literals.proofs.Prelude.{◌≡◌, ◌==◌, ℕ, zero, suc, ◌+◌, ◌≤◌, List, [], ◌∷◌, ◌++◌, Bool, true, false, cond, max, Option, Some, None, length, refl, sym, ap, ◌∙◌, arith, add-one, eq-eqb, length-append, is_some, nat_tests, length-le-encodes, encodes-chars, chars, IsUtf8, begins, hashes, past_hashes, run, required}

past_hash : (c n : ℕ) (cs rest : List ℕ) (b : Bool) → (c == 35) ≡ b → cond b (past_hashes n cs) None ≡ Some rest → (past_hashes n cs ≡ Some rest → cs ≡ hashes n ++ rest) → c ∷ cs ≡ 35 ∷ (hashes n ++ rest)
past_hash c n cs rest true e h more =
    let is : c ≡ 35 = grind (arith, nat_tests) in
    let same : cs ≡ hashes n ++ rest = more h in
    cc
past_hash c n cs rest false e h more = absurd (cc)

pub past_hashes-is : (n : ℕ) (cs rest : List ℕ) → past_hashes n cs ≡ Some rest → cs ≡ hashes n ++ rest
past_hashes-is zero cs rest h = cc
past_hashes-is (suc n) [] rest h = absurd (cc)
past_hashes-is (suc n) (c ∷ cs) rest h = past_hash c n cs rest (c == 35) refl h (past_hashes-is n cs rest)

pub past_hashes-all : (n : ℕ) → past_hashes n (hashes n) ≡ Some []
past_hashes-all zero = refl
past_hashes-all (suc n) = past_hashes-all n

pub past_hashes-onto : (n : ℕ) (x : List ℕ) → past_hashes n (hashes n ++ x) ≡ Some x
past_hashes-onto zero x = refl
past_hashes-onto (suc n) x = past_hashes-onto n x

pub none_if : (b : Bool) (o p : Option (List ℕ)) → is_some (cond b o None) ≡ false → (is_some o ≡ false → is_some p ≡ false) → is_some (cond b p None) ≡ false
none_if true o p h k = k h
none_if false o p h k = refl

-- a longer text begins with what a shorter one does
pub past_hashes-longer : (n : ℕ) (t x : List ℕ) → is_some (past_hashes n (t ++ x)) ≡ false → is_some (past_hashes n t) ≡ false
past_hashes-longer zero t x h = h
past_hashes-longer (suc n) [] x h = refl
past_hashes-longer (suc n) (c ∷ t) x h = none_if (c == 35) (past_hashes n (t ++ x)) (past_hashes n t) h (past_hashes-longer n t x)

-- a quote ends a run
pub past_hashes-quote : (n : ℕ) (t x : List ℕ) → is_some (past_hashes n t) ≡ false → is_some (past_hashes n (t ++ 34 ∷ x)) ≡ false
past_hashes-quote zero t x h = h
past_hashes-quote (suc n) [] x h = refl
past_hashes-quote (suc n) (c ∷ t) x h = none_if (c == 35) (past_hashes n t) (past_hashes n (t ++ 34 ∷ x)) h (past_hashes-quote n t x)

pub differ : (a b : ℕ) → (a == b) ≡ false → a ≡ b → ⊥
differ a b h e = let k : true ≡ false = sym (eq-eqb a b e) ∙ h in cc

pub count-one : (n m : ℕ) (x y : List ℕ) → hashes n ++ 34 ∷ x ≡ hashes m ++ y → begins 35 y ≡ false → (n ≡ m) × (34 ∷ x ≡ y)
count-one zero zero x y e h = (refl, e)
count-one zero (suc m) x y e h = absurd (differ 34 35 refl cc)
count-one (suc n) zero x y e h = absurd (let b : true ≡ false = ap (begins 35) e ∙ h in cc)
count-one (suc n) (suc m) x y e h =
    let more : hashes n ++ 34 ∷ x ≡ hashes m ++ y = cc in
    let same = count-one n m x y more h in
    (ap suc same.0, same.1)

pub length-hashes : (n : ℕ) → length (hashes n) ≡ n
length-hashes zero = refl
length-hashes (suc n) = ap suc (length-hashes n)

pub hashes-push : (n : ℕ) (rest : List ℕ) → hashes n ++ 35 ∷ rest ≡ hashes (n + 1) ++ rest
hashes-push n rest = rw add-one (by n)
  where
    by : (n : ℕ) → hashes n ++ 35 ∷ rest ≡ 35 ∷ (hashes n ++ rest)
    by zero = refl
    by (suc n) = ap (λ t. 35 ∷ t) (by n)

pub run-hashes : (n : ℕ) (rest : List ℕ) → begins 35 rest ≡ false → run (hashes n ++ rest) ≡ n
run-hashes zero [] h = refl
run-hashes zero (c ∷ cs) h = ap (λ b. cond b (suc (run cs)) 0) h
run-hashes (suc n) rest h = ap suc (run-hashes n rest h)

pub required-quote : (cs more rest : List ℕ) (c n most whole : ℕ) → cs ≡ c ∷ more → c ≡ 34 → more ≡ hashes n ++ rest → begins 35 rest ≡ false
    → max most (required cs) ≡ whole → max (max most (n + 1)) (required more) ≡ whole
required-quote cs more rest c n most whole is quote run_is ends so_far =
    let here : run more ≡ n = ap run run_is ∙ run-hashes n rest ends in
    let e : required cs ≡ max (suc (run more)) (required more) = ap required (is ∙ ap (λ x. x ∷ more) quote) in
    omega (arith, e, here, so_far)

pub length-chars-le : (bs : List ℕ) → IsUtf8 bs → length (chars bs) ≤ length bs
length-chars-le bs u = omega (arith, length-le-encodes (chars bs), ap length (encodes-chars bs u))

pub hashes-within : (cs rest : List ℕ) (n : ℕ) → cs ≡ hashes n ++ rest → n ≤ length cs
hashes-within cs rest n h = omega (arith, ap length h, length-append (hashes n) rest, length-hashes n)

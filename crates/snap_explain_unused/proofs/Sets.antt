-- Sets of paths, and lists of them.
use Rattle.snap_explain_unused.proofs.Prelude.{◌≡◌, ◌||◌, ◌&&◌, ◌<◌, ◌+◌, ℕ, Bool, true, false, cond, List, [], ◌∷◌, ◌++◌, length, take, get_or, refl, sym, ap, ◌∙◌, subst, take_more, list_any-append, bytes_eq, bytes_eq-Decides, list_any, All, All-head, All-tail, is_among}
use Rattle.std.specs.BTreeMap.{is_at}
use Rattle.std.specs.Cmp.Lexicographic.{slice_cmp}
use Rattle.std.specs.Ordering.{nat_cmp}
use Rattle.std.proofs.lemmas.Map.Text.{is_eq-slice_cmp}

-- the library's test of a set of texts
pub among_keys : (q : List ℕ) (ks : List (List ℕ)) → list_any (is_at (slice_cmp nat_cmp q)) ks ≡ is_among ks q
among_keys q [] = refl
among_keys q (k ∷ ks) = ap (λ b. b || list_any (is_at (slice_cmp nat_cmp q)) ks) (is_eq-slice_cmp q k) ∙ ap (λ b. bytes_eq q k || b) (among_keys q ks)

either : (a b : Bool) → cond a true b ≡ (a || b)
either true b = refl
either false b = refl

-- one more key
pub added : (old now : List (List ℕ)) (k : List ℕ) → ((q : List ℕ) → list_any (is_at (slice_cmp nat_cmp q)) now ≡ cond (is_at (slice_cmp nat_cmp k) q) true (list_any (is_at (slice_cmp nat_cmp q)) old))
    → (q : List ℕ) → is_among now q ≡ (bytes_eq k q || is_among old q)
added old now k u q =
    sym (among_keys q now) ∙ u q ∙ ap (λ b. cond b true (list_any (is_at (slice_cmp nat_cmp q)) old)) (is_eq-slice_cmp k q)
    ∙ ap (cond (bytes_eq k q) true) (among_keys q old) ∙ either (bytes_eq k q) (is_among old q)

pub same : (q : List ℕ) → bytes_eq q q ≡ true
same q = (bytes_eq-Decides q q).1 refl

pub it_is : (p q : List ℕ) → bytes_eq p q ≡ true → p ≡ q
it_is p q = (bytes_eq-Decides p q).0

pub or_first : (a b : Bool) → a ≡ true → (a || b) ≡ true
or_first true b e = refl
or_first false b e = absurd (cc e)

pub or_second : (a b : Bool) → b ≡ true → (a || b) ≡ true
or_second true b e = refl
or_second false b e = e

-- one of two tests holds
pub one_holds : {T : Type 0} (a b : Bool) → (a || b) ≡ true → (a ≡ true → T) → (b ≡ true → T) → T
one_holds true b e f g = f refl
one_holds false b e f g = g e

pub taken_more : (xs : List (List ℕ)) (i : ℕ) (x q : List ℕ) → i < length xs → x ≡ get_or xs i x → is_among (take (i + 1) xs) q ≡ (is_among (take i xs) q || (bytes_eq q x || false))
taken_more xs i x q h is =
    ap (λ t. is_among t q) (take_more xs i x h ∙ ap (λ y. take i xs ++ y ∷ []) (sym is)) ∙ list_any-append (bytes_eq q) (take i xs) (x ∷ [])

pub or_false : (b : Bool) → (b || false) ≡ true → b ≡ true
or_false true e = refl
or_false false e = e

-- what holds of all holds of one that is among them
pub of_all : (P : List ℕ → Type 0) (xs : List (List ℕ)) (x : List ℕ) → All P xs → is_among xs x ≡ true → P x
of_all P [] x h among = absurd (cc among)
of_all P (y ∷ ys) x h among =
    one_holds (bytes_eq x y) (is_among ys x) among (λ e. subst P (sym (it_is x y e)) (All-head P y ys h)) (λ e. of_all P ys x (All-tail P y ys h) e)

-- it doesn't matter which of two is asked for
pub turned : (p q : List ℕ) → bytes_eq p q ≡ bytes_eq q p
turned p q = by (bytes_eq p q) (bytes_eq q p) refl refl
  where
    by : (a b : Bool) → bytes_eq p q ≡ a → bytes_eq q p ≡ b → bytes_eq p q ≡ bytes_eq q p
    by true b e f = e ∙ sym ((bytes_eq-Decides q p).1 (sym (it_is p q e)))
    by false true e f = (bytes_eq-Decides p q).1 (sym (it_is q p f)) ∙ sym f
    by false false e f = e ∙ sym f

or_none : (b : Bool) → b ≡ (b || false)
or_none true = refl
or_none false = refl

-- one more path, by another name
pub kept_one : (p k : List ℕ) (old now : List (List ℕ)) → p ≡ k → ((q : List ℕ) → is_among now q ≡ (bytes_eq p q || is_among old q)) → (q : List ℕ) → is_among now q ≡ (is_among (k ∷ []) q || is_among old q)
kept_one p k old now is u q = u q ∙ ap (λ b. b || is_among old q) (turned p q ∙ ap (bytes_eq q) is ∙ or_none (bytes_eq q k))

-- where nothing was kept
pub kept_none : (k : List ℕ) (left : Bool) (old : List (List ℕ)) → left ≡ false → (q : List ℕ) → is_among old q ≡ ((bytes_eq k q && left) || is_among old q)
kept_none k left old none q = by (bytes_eq k q) left none
  where
    by : (a b : Bool) → b ≡ false → is_among old q ≡ ((a && b) || is_among old q)
    by true b e = sym (ap (λ x. x || is_among old q) e)
    by false b e = refl

pub kept_left : (p k : List ℕ) (left : Bool) (old now : List (List ℕ)) → p ≡ k → left ≡ true → ((q : List ℕ) → is_among now q ≡ (bytes_eq p q || is_among old q)) → (q : List ℕ)
    → is_among now q ≡ ((bytes_eq k q && left) || is_among old q)
kept_left p k left old now is all u q = u q ∙ ap (λ x. bytes_eq x q || is_among old q) is ∙ by (bytes_eq k q) left all
  where
    by : (a b : Bool) → b ≡ true → (a || is_among old q) ≡ ((a && b) || is_among old q)
    by true b e = sym (ap (λ x. x || is_among old q) e)
    by false b e = refl

-- The cut of a text at the last place where a mark stands.
use Rattle.snap_path.proofs.Prelude.{◌≡◌, ◌≢◌, ◌==◌, ℕ, ◌≤◌, List, [], ◌∷◌, ◌++◌, Bool, true, false, cond, Option, None, Some, length, take, drop, refl, sym, ap, ◌∙◌, arith, eq-eqb, true-eqb, lit≤, Bor, MatchOption, take-append_seam, drop-append_seam, chars, Cut, cut_of, past_mark, later_or_here, cut_last}

-- the mark stands between both parts, and nowhere later
pub record IsLastCut (mark text before behind : List ℕ) : Type 0 where
  pub is : text ≡ before ++ (mark ++ behind)
  pub last : (xs ys : List ℕ) → text ≡ xs ++ (mark ++ ys) → length xs ≤ length before

abbrev pub Cuts : List ℕ → List ℕ → Option Cut → Type 0
Cuts mark text None = (xs ys : List ℕ) → text ≡ xs ++ (mark ++ ys) → ⊥
Cuts mark text (Some cut) = IsLastCut mark text cut.before cut.behind

first_is : (m : ℕ) (mark : List ℕ) (c : ℕ) (cs behind : List ℕ) (b : Bool) → (c == m) ≡ b → (past_mark mark cs ≡ Some behind → cs ≡ mark ++ behind)
    → cond b (past_mark mark cs) None ≡ Some behind → c ∷ cs ≡ m ∷ (mark ++ behind)
first_is m mark c cs behind true same rest h = ap (λ x. x ∷ cs) (true-eqb c m (sym same)) ∙ ap (λ r. m ∷ r) (rest h)
first_is m mark c cs behind false other rest h = absurd (cc)

pub past_mark-is : (mark text behind : List ℕ) → past_mark mark text ≡ Some behind → text ≡ mark ++ behind
past_mark-is [] text behind h = cc
past_mark-is (m ∷ mark) [] behind h = absurd (cc)
past_mark-is (m ∷ mark) (c ∷ cs) behind h = first_is m mark c cs behind (c == m) refl (past_mark-is mark cs behind) h

pub past_mark-gives : (mark behind : List ℕ) → past_mark mark (mark ++ behind) ≡ Some behind
past_mark-gives [] behind = refl
past_mark-gives (m ∷ mark) behind = ap (λ b. cond b (past_mark mark (mark ++ behind)) None) (eq-eqb m m refl) ∙ past_mark-gives mark behind

-- what follows the mark is what `strip_prefix` gives
pub past_mark-stripped : (mark text : List ℕ) (r : Option (Bor (List ℕ))) → MatchOption r ((rest : List ℕ) → text ≢ mark ++ rest) (λ rest. text ≡ mark ++ chars rest.now)
    → MatchOption r (past_mark mark text ≡ None) (λ rest. past_mark mark text ≡ Some (chars rest.now))
past_mark-stripped mark text None h = none (past_mark mark text) refl
  where
    none : (o : Option (List ℕ)) → past_mark mark text ≡ o → past_mark mark text ≡ None
    none None is = is
    none (Some rest) is = absurd (h rest (past_mark-is mark text rest is))
past_mark-stripped mark text (Some rest) h = ap (past_mark mark) h ∙ past_mark-gives mark (chars rest.now)

tail_same : (c x : ℕ) (cs xs : List ℕ) → c ∷ cs ≡ x ∷ xs → cs ≡ xs
tail_same c x cs xs e = ap (drop 1) e

step : (m : ℕ) (ms : List ℕ) (c : ℕ) (cs : List ℕ) (later : Option Cut) (here : Option (List ℕ)) → Cuts (m ∷ ms) cs later
    → past_mark (m ∷ ms) (c ∷ cs) ≡ here → Cuts (m ∷ ms) (c ∷ cs) (later_or_here c later here)
step m ms c cs (Some later) here h is = record {
  is = ap (λ t. c ∷ t) h.is;
  last = after;
}
  where
    after : (xs ys : List ℕ) → c ∷ cs ≡ xs ++ ((m ∷ ms) ++ ys) → length xs ≤ length (c ∷ later.before)
    after [] ys e = omega arith
    after (x ∷ xs) ys e = let short = h.last xs ys (tail_same c x cs (xs ++ ((m ∷ ms) ++ ys)) e) in omega (arith, short)
step m ms c cs None (Some behind) h is = record {
  is = past_mark-is (m ∷ ms) (c ∷ cs) behind is;
  last = after;
}
  where
    after : (xs ys : List ℕ) → c ∷ cs ≡ xs ++ ((m ∷ ms) ++ ys) → length xs ≤ 0
    after [] ys e = lit≤ tt
    after (x ∷ xs) ys e = absurd (h xs ys (tail_same c x cs (xs ++ ((m ∷ ms) ++ ys)) e))
step m ms c cs None None h is = after
  where
    after : (xs ys : List ℕ) → c ∷ cs ≡ xs ++ ((m ∷ ms) ++ ys) → ⊥
    after [] ys e =
        let found : past_mark (m ∷ ms) (c ∷ cs) ≡ Some ys = ap (past_mark (m ∷ ms)) e ∙ past_mark-gives (m ∷ ms) ys in
        let none : None ≡ Some ys = sym is ∙ found in
        cc (none)
    after (x ∷ xs) ys e = h xs ys (tail_same c x cs (xs ++ ((m ∷ ms) ++ ys)) e)

pub cuts : (m : ℕ) (ms text : List ℕ) → Cuts (m ∷ ms) text (cut_last (m ∷ ms) text)
cuts m ms [] = nowhere
  where
    nowhere : (xs ys : List ℕ) → [] ≡ xs ++ ((m ∷ ms) ++ ys) → ⊥
    nowhere [] ys e = cc
    nowhere (x ∷ xs) ys e = cc
cuts m ms (c ∷ cs) = step m ms c cs (cut_last (m ∷ ms) cs) (past_mark (m ∷ ms) (c ∷ cs)) (cuts m ms cs) refl

pub front_same : (xs ys u v : List ℕ) → xs ++ u ≡ ys ++ v → length xs ≡ length ys → xs ≡ ys
front_same xs ys u v e n = sym (take-append_seam xs u) ∙ ap (λ k. take k (xs ++ u)) n ∙ ap (take (length ys)) e ∙ take-append_seam ys v

rest_same : (xs ys u v : List ℕ) → xs ++ u ≡ ys ++ v → length xs ≡ length ys → u ≡ v
rest_same xs ys u v e n = sym (drop-append_seam xs u) ∙ ap (λ k. drop k (xs ++ u)) n ∙ ap (drop (length ys)) e ∙ drop-append_seam ys v

one_cut : (mark text before behind front back : List ℕ) → IsLastCut mark text before behind → IsLastCut mark text front back → cut_of before behind ≡ cut_of front back
one_cut mark text before behind front back a b =
    let e : before ++ (mark ++ behind) ≡ front ++ (mark ++ back) = sym a.is ∙ b.is in
    let l = b.last before behind a.is in
    let r = a.last front back b.is in
    let n : length before ≡ length front = omega (arith, l, r) in
    let same_front : before ≡ front = front_same before front (mark ++ behind) (mark ++ back) e n in
    let tails : mark ++ behind ≡ mark ++ back = rest_same before front (mark ++ behind) (mark ++ back) e n in
    let same_back : behind ≡ back = rest_same mark mark behind back tails refl in
    ap (λ x. cut_of x behind) same_front ∙ ap (cut_of front) same_back

-- the last cut is the one of `cut_last`
pub cut_last-is : (m : ℕ) (ms text front back : List ℕ) → IsLastCut (m ∷ ms) text front back → cut_last (m ∷ ms) text ≡ Some (cut_of front back)
cut_last-is m ms text front back h = by (cut_last (m ∷ ms) text) refl (cuts m ms text)
  where
    by : (found : Option Cut) → cut_last (m ∷ ms) text ≡ found → Cuts (m ∷ ms) text found → cut_last (m ∷ ms) text ≡ Some (cut_of front back)
    by None is none = absurd (none front back h.is)
    by (Some cut) is other = is ∙ ap (λ c. Some c) (one_cut (m ∷ ms) text cut.before cut.behind front back other h)

pub cut_last-none : (m : ℕ) (ms text : List ℕ) → ((xs ys : List ℕ) → text ≡ xs ++ ((m ∷ ms) ++ ys) → ⊥) → cut_last (m ∷ ms) text ≡ None
cut_last-none m ms text h = by (cut_last (m ∷ ms) text) refl (cuts m ms text)
  where
    by : (found : Option Cut) → cut_last (m ∷ ms) text ≡ found → Cuts (m ∷ ms) text found → cut_last (m ∷ ms) text ≡ None
    by None is none = is
    by (Some cut) is other = absurd (h cut.before cut.behind other.is)

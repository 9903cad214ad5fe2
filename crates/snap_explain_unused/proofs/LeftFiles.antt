-- What is left in folders, name by name and folder by folder.
use Rattle.snap_explain_unused.proofs.Prelude.{◌≡◌, ◌⊎◌, ◌≤◌, ◌<◌, ◌+◌, ◌&&◌, ◌||◌, ℕ, Bool, true, false, List, [], ◌∷◌, Option, Some, length, take, get_or, refl, sym, ap, ◌∙◌, subst, inl, inr, take_all, get, is_some, bytes_eq, Files, joined, parent_of, IsName, is_among, IsFilePath, IsUnused, is_left, Adds, FindsIn, IsFound, IsLeftIn, KeepsOne, LooksBeside, LooksInto, StandsIn}
use Rattle.snap_explain_unused.proofs.Sets.{same, it_is, or_first, or_second, one_holds, taken_more, or_false, of_all}
use Rattle.snap_explain_unused.proofs.Folders.{parent-normal, joined-file, joined-parent, HasName, file_named}

pub and_first : (a b : Bool) → (a && b) ≡ true → a ≡ true
and_first true b e = refl
and_first false b e = e

pub and_second : (a b : Bool) → (a && b) ≡ true → b ≡ true
and_second true b e = e
and_second false b e = absurd (cc e)

pub and_both : (a b : Bool) → a ≡ true → b ≡ true → (a && b) ≡ true
and_both true b e f = f
and_both false b e f = absurd (cc e)

-- the names so far were kept
pub adds_begin : (asked : List (List ℕ)) (folder : List ℕ) (names old : List (List ℕ)) → Adds asked folder (take 0 names) old old
adds_begin asked folder names old = record { still = λ q h. h; from = λ q h. inl h; all = λ q l. absurd (none q l) }
  where
    none : (q : List ℕ) → IsLeftIn asked folder (take 0 names) q → ⊥
    none q l = let among : false ≡ true = l.among in cc among

pub adds_on : (asked : List (List ℕ)) (folder : List ℕ) (names old now next : List (List ℕ)) (i : ℕ) (n : List ℕ) → i < length names → n ≡ get_or names i n → Adds asked folder (take i names) old now
    → KeepsOne asked (joined folder n) now next → Adds asked folder (take (i + 1) names) old next
adds_on asked folder names old now next i n h is a k = record { still = λ q e. kept q (a.still q e); from = from; all = all }
  where
    path : List ℕ
    path = joined folder n

    kept : (q : List ℕ) → is_among now q ≡ true → is_among next q ≡ true
    kept q e = k q ∙ or_second (bytes_eq path q && is_left asked path) (is_among now q) e

    wider : (q : List ℕ) → IsLeftIn asked folder (take i names) q → IsLeftIn asked folder (take (i + 1) names) q
    wider q l = record {
      name = l.name;
      among = taken_more names i n l.name h is ∙ or_first (is_among (take i names) l.name) (bytes_eq l.name n || false) l.among;
      at = l.at;
      left = l.left;
    }

    this : (q : List ℕ) → (bytes_eq path q && is_left asked path) ≡ true → IsLeftIn asked folder (take (i + 1) names) q
    this q e =
        let at : path ≡ q = it_is path q (and_first (bytes_eq path q) (is_left asked path) e) in
        record {
          name = n;
          among = taken_more names i n n h is ∙ or_second (is_among (take i names) n) (bytes_eq n n || false) (or_first (bytes_eq n n) false (same n));
          at = at;
          left = ap (is_left asked) (sym at) ∙ and_second (bytes_eq path q) (is_left asked path) e;
        }

    widened : (q : List ℕ) → (is_among old q ≡ true) ⊎ IsLeftIn asked folder (take i names) q → (is_among old q ≡ true) ⊎ IsLeftIn asked folder (take (i + 1) names) q
    widened q (inl e) = inl e
    widened q (inr l) = inr (wider q l)

    from : (q : List ℕ) → is_among next q ≡ true → (is_among old q ≡ true) ⊎ IsLeftIn asked folder (take (i + 1) names) q
    from q e = one_holds (bytes_eq path q && is_left asked path) (is_among now q) (sym (k q) ∙ e) (λ new. inr (this q new)) (λ was. widened q (a.from q was))

    all : (q : List ℕ) → IsLeftIn asked folder (take (i + 1) names) q → is_among next q ≡ true
    all q l =
        one_holds (is_among (take i names) l.name) (bytes_eq l.name n || false) (sym (taken_more names i n l.name h is) ∙ l.among)
        (λ before. kept q (a.all q (record { name = l.name; among = before; at = l.at; left = l.left })))
        (λ last.
        let at : path ≡ q = ap (joined folder) (sym (it_is l.name n (or_false (bytes_eq l.name n) last))) ∙ l.at in
        k q
        ∙ or_first (bytes_eq path q && is_left asked path) (is_among now q)
        (and_both (bytes_eq path q) (is_left asked path) (ap (bytes_eq path) (sym at) ∙ same path) (ap (is_left asked) at ∙ l.left)))

pub adds_end : (asked : List (List ℕ)) (folder : List ℕ) (names old now : List (List ℕ)) (i : ℕ) → length names ≤ i → Adds asked folder (take i names) old now → Adds asked folder names old now
adds_end asked folder names old now i over a = subst (λ ns. Adds asked folder ns old now) (take_all i names over) a

-- a folder more was looked into
pub folder_found : (asked : List (List ℕ)) (path : List ℕ) (files : Option Files) (folders folders' unused unused' : List (List ℕ))
    → ((d : List ℕ) → is_among folders' d ≡ (bytes_eq (parent_of path) d || is_among folders d)) → LooksInto asked (parent_of path) files unused unused'
    → IsFound asked folders files unused → IsFound asked folders' files unused'
folder_found asked path files folders folders' unused unused' grows looks found = record { left = left; holds = λ m told. record { only = only m told; each = each m told } }
  where
    folder : List ℕ
    folder = parent_of path

    left_of : (q : List ℕ) → (is_among unused q ≡ true) ⊎ IsLeftIn asked folder looks.names q → is_left asked q ≡ true
    left_of q (inl was) = found.left q was
    left_of q (inr l) = l.left

    left : (q : List ℕ) → is_among unused' q ≡ true → is_left asked q ≡ true
    left q e = left_of q (looks.adds.from q e)

    stands : (m : Files) → files ≡ Some m → (q : List ℕ) → (is_among unused q ≡ true) ⊎ IsLeftIn asked folder looks.names q → StandsIn asked folders' m q
    stands m told q (inl was) =
        let s = (found.holds m told).only q was in
        record { file = s.file; there = s.there; within = grows (parent_of q) ∙ or_second (bytes_eq folder (parent_of q)) (is_among folders (parent_of q)) s.within; left = s.left }
    stands m told q (inr l) =
        let are = looks.are m told in
        let is_name : IsName l.name = of_all IsName looks.names l.name are.only l.among in
        let within : parent_of q ≡ folder = ap parent_of (sym l.at) ∙ joined-parent folder l.name (parent-normal path) is_name in
        record {
          file = subst IsFilePath l.at (joined-file folder l.name is_name);
          there = ap (λ p. is_some (get m p)) (sym l.at) ∙ sym (are.each l.name is_name) ∙ l.among;
          within = grows (parent_of q) ∙ or_first (bytes_eq folder (parent_of q)) (is_among folders (parent_of q)) (ap (bytes_eq folder) within ∙ same folder);
          left = l.left;
        }

    only : (m : Files) → files ≡ Some m → (q : List ℕ) → is_among unused' q ≡ true → StandsIn asked folders' m q
    only m told q e = stands m told q (looks.adds.from q e)

    named : (m : Files) → files ≡ Some m → (q : List ℕ) → StandsIn asked folders' m q → folder ≡ parent_of q → HasName q → is_among unused' q ≡ true
    named m told q s in_it n =
        let are = looks.are m told in
        let at : joined folder n.name ≡ q = ap (λ d. joined d n.name) in_it ∙ n.at in
        looks.adds.all q (record { name = n.name; among = are.each n.name n.is_name ∙ ap (λ p. is_some (get m p)) at ∙ s.there; at = at; left = s.left })

    each : (m : Files) → files ≡ Some m → (q : List ℕ) → StandsIn asked folders' m q → is_among unused' q ≡ true
    each m told q s =
        one_holds (bytes_eq folder (parent_of q)) (is_among folders (parent_of q)) (sym (grows (parent_of q)) ∙ s.within)
        (λ new. named m told q s (it_is folder (parent_of q) new) (file_named q s.file))
        (λ was. looks.adds.still q ((found.holds m told).each q (record { file = s.file; there = s.there; within = was; left = s.left })))

-- or it was looked into before
pub folder_known : (asked : List (List ℕ)) (path : List ℕ) (files : Option Files) (folders unused : List (List ℕ)) → is_among folders (parent_of path) ≡ true → LooksBeside asked path files folders folders unused unused
folder_known asked path files folders unused known = record { grows = grows; found = λ f. f }
  where
    by : (d : List ℕ) (b : Bool) → bytes_eq (parent_of path) d ≡ b → is_among folders d ≡ (b || is_among folders d)
    by d true e = ap (is_among folders) (sym (it_is (parent_of path) d e)) ∙ known
    by d false e = refl

    grows : (d : List ℕ) → is_among folders d ≡ (bytes_eq (parent_of path) d || is_among folders d)
    grows d = by d (bytes_eq (parent_of path) d) refl

-- a folder of one of these paths
pub record IsFolder (asked : List (List ℕ)) (d : List ℕ) : Type 0 where
  pub other : List ℕ
  pub among : is_among asked other ≡ true
  pub same : parent_of other ≡ d

-- the paths so far were looked beside, and those ahead not yet
pub record LookedSoFar (asked ahead folders : List (List ℕ)) (files : Option Files) (unused : List (List ℕ)) : Type 0 where
  pub behind : (p : List ℕ) → is_among asked p ≡ true → (is_among ahead p || is_among folders (parent_of p)) ≡ true
  pub before : (p : List ℕ) → is_among ahead p ≡ true → is_among asked p ≡ true
  pub within : (d : List ℕ) → is_among folders d ≡ true → IsFolder asked d
  pub found : IsFound asked folders files unused

pub looked_begin : (asked folders : List (List ℕ)) (files : Option Files) (unused : List (List ℕ)) → folders ≡ [] → unused ≡ [] → LookedSoFar asked asked folders files unused
looked_begin asked folders files unused none nothing = record {
  behind = λ p e. or_first (is_among asked p) (is_among folders (parent_of p)) e;
  before = λ p e. e;
  within = λ d e. absurd (clash folders d none e);
  found = record {
    left = λ q e. absurd (clash unused q nothing e);
    holds = λ m told. record { only = λ q e. absurd (clash unused q nothing e); each = λ q s. absurd (clash folders (parent_of q) none s.within) };
  };
}
  where
    clash : (xs : List (List ℕ)) (q : List ℕ) → xs ≡ [] → is_among xs q ≡ true → ⊥
    clash xs q empty e = let wrong : false ≡ true = sym (ap (λ ys. is_among ys q) empty) ∙ e in cc wrong

pub looked_on : (asked ahead ahead' folders folders' : List (List ℕ)) (p : List ℕ) (files : Option Files) (unused unused' : List (List ℕ)) → ahead ≡ p ∷ ahead' → LookedSoFar asked ahead folders files unused
    → LooksBeside asked p files folders folders' unused unused' → LookedSoFar asked ahead' folders' files unused'
looked_on asked ahead ahead' folders folders' p files unused unused' first so beside = record { behind = behind; before = before; within = within; found = beside.found so.found }
  where
    ahead_is : (q : List ℕ) → is_among ahead q ≡ (bytes_eq q p || is_among ahead' q)
    ahead_is q = ap (λ xs. is_among xs q) first

    kept : (q : List ℕ) → is_among folders (parent_of q) ≡ true → (is_among ahead' q || is_among folders' (parent_of q)) ≡ true
    kept q e =
        or_second (is_among ahead' q) (is_among folders' (parent_of q))
        (beside.grows (parent_of q) ∙ or_second (bytes_eq (parent_of p) (parent_of q)) (is_among folders (parent_of q)) e)

    now : (q : List ℕ) → q ≡ p → (is_among ahead' q || is_among folders' (parent_of q)) ≡ true
    now q e =
        or_second (is_among ahead' q) (is_among folders' (parent_of q))
        (beside.grows (parent_of q)
        ∙ or_first (bytes_eq (parent_of p) (parent_of q)) (is_among folders (parent_of q)) (ap (λ x. bytes_eq (parent_of p) (parent_of x)) e ∙ same (parent_of p)))

    behind : (q : List ℕ) → is_among asked q ≡ true → (is_among ahead' q || is_among folders' (parent_of q)) ≡ true
    behind q e =
        one_holds (is_among ahead q) (is_among folders (parent_of q)) (so.behind q e)
        (λ still.
        one_holds (bytes_eq q p) (is_among ahead' q) (sym (ahead_is q) ∙ still) (λ it. now q (it_is q p it))
        (λ later. or_first (is_among ahead' q) (is_among folders' (parent_of q)) later))
        (λ done. kept q done)

    before : (q : List ℕ) → is_among ahead' q ≡ true → is_among asked q ≡ true
    before q e = so.before q (ahead_is q ∙ or_second (bytes_eq q p) (is_among ahead' q) e)

    within : (d : List ℕ) → is_among folders' d ≡ true → IsFolder asked d
    within d e =
        one_holds (bytes_eq (parent_of p) d) (is_among folders d) (sym (beside.grows d) ∙ e)
        (λ new. record { other = p; among = so.before p (ahead_is p ∙ or_first (bytes_eq p p) (is_among ahead' p) (same p)); same = it_is (parent_of p) d new })
        (λ was. so.within d was)

pub looked_end : (asked ahead folders : List (List ℕ)) (files : Option Files) (unused : List (List ℕ)) → ahead ≡ [] → LookedSoFar asked ahead folders files unused → FindsIn asked files unused
looked_end asked ahead folders files unused none so = record { left = so.found.left; unused_are = λ m told. record { only = only m told; each = each m told } }
  where
    visited : (p : List ℕ) → is_among asked p ≡ true → is_among folders (parent_of p) ≡ true
    visited p e = sym (ap (λ xs. is_among xs p || is_among folders (parent_of p)) none) ∙ so.behind p e

    only : (m : Files) → files ≡ Some m → (q : List ℕ) → is_among unused q ≡ true → IsUnused asked m q
    only m told q e =
        let s = (so.found.holds m told).only q e in
        let f = so.within (parent_of q) s.within in
        record { file = s.file; there = s.there; beside = record { other = f.other; among = f.among; same = f.same }; left = s.left }

    each : (m : Files) → files ≡ Some m → (q : List ℕ) → IsUnused asked m q → is_among unused q ≡ true
    each m told q u =
        (so.found.holds m told).each q
        (record { file = u.file; there = u.there; within = ap (is_among folders) (sym u.beside.same) ∙ visited u.beside.other u.beside.among; left = u.left })

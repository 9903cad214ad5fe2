-- Octets that are spelled in a tag, between places.
use Rattle.snap_scan_properties.proofs.Prelude.{◌≡◌, ◌≢◌, ℕ, suc, ◌+◌, ◌*◌, ◌-◌, ◌<◌, ◌≤◌, ◌==◌, ◌&&◌, List, [], ◌∷◌, ◌++◌, Bool, true, false, Option, Some, None, length, slice_index, refl, sym, ap, ◌∙◌, arith, subst, All, append_assoc, Result, Ok, Err, IsScalar, encode_utf8, is_some, MatchResult, ScanInfo, chars_after, continuation_len, lead_bits, nat_tests, All-nil, All-cons, All-head, All-tail, ne_eqb, both_ways, is_uri, Place, skipped, skip_from, skipped_while, hexadecimal, value_of, passed-first, octets, spelled, before_octets, is_in_tag, Spells, SpellsNone, IsFurther, Continues, BreaksOff, SpellsNoCharacter, is_first, least_code, IsBadOctet, ahead}
use Rattle.snap_scan_properties.proofs.Encoded.{Parts, Made, parts, parts-code, octets-of-code}
use Rattle.snap_scan_properties.proofs.Taken.{second-is, third-is}

pub before-before : (xs ys : List ℕ) (o : Option (List ℕ)) → before_octets xs (before_octets ys o) ≡ before_octets (xs ++ ys) o
before-before xs ys None = refl
before-before xs ys (Some rest) = ap Some (sym (append_assoc xs ys rest))

pub spells-then : (p q r : Place) (xs ys : List ℕ) → Spells p xs q → Spells q ys r → Spells p (xs ++ ys) r
spells-then p q r xs ys a b =
    let f : Option (List ℕ) → Option (List ℕ) = λ o. before_octets xs o in
    record { octets = a.octets ∙ ap f b.octets ∙ before-before xs ys (octets r.left); place = a.place ∙ b.place }

pub spells-same : (p q : Place) (xs ys : List ℕ) → xs ≡ ys → Spells p xs q → Spells p ys q
spells-same p q xs ys is h = let P : List ℕ → Type 0 = λ l. Spells p l q in subst P is h

before-nil : (o : Option (List ℕ)) → o ≡ before_octets [] o
before-nil None = refl
before-nil (Some rest) = refl

pub spells-here : (p : Place) → Spells p [] p
spells-here p = record { octets = before-nil (octets p.left); place = refl }

-- a hexadecimal digit may stand in a tag
pub hexadecimal-in-tag : (c : ℕ) → is_some (hexadecimal c) ≡ true → is_in_tag c ≡ true
hexadecimal-in-tag c h = grind (arith, nat_tests)

-- one character of a tag is passed
past-one : (p : Place) → is_in_tag (ahead p) ≡ true → skipped_while is_in_tag p ≡ skipped_while is_in_tag (skipped p)
past-one p is = passed-first is_in_tag p.left p refl is refl

octets-escaped : (cs : List ℕ) (p : Place) → p.left ≡ cs → slice_index cs 0 ≡ 37 → is_some (hexadecimal (slice_index cs 1)) ≡ true → is_some (hexadecimal (slice_index cs 2)) ≡ true
    → octets cs ≡ before_octets (spelled (slice_index cs 1) (slice_index cs 2) ∷ []) (octets (skipped (skipped (skip_from cs p))).left)
octets-escaped [] p is sign a b = absurd (omega arith)
octets-escaped (c ∷ []) p is sign a b = absurd (cc)
octets-escaped (c ∷ x ∷ []) p is sign a b = absurd (cc)
octets-escaped (c ∷ x ∷ y ∷ cs) p is sign a b = rw (sign, a, b) refl

-- `%` and two hexadecimal digits
pub spells-octet : (p : Place) (h l : ℕ) → ahead p ≡ 37 → hexadecimal (slice_index p.left 1) ≡ Some h → hexadecimal (slice_index p.left 2) ≡ Some l
    → Spells p ((h * 16 + l) ∷ []) (skipped (skipped (skipped p)))
spells-octet p h l sign high low =
    let a : is_some (hexadecimal (slice_index p.left 1)) ≡ true = ap is_some high in
    let b : is_some (hexadecimal (slice_index p.left 2)) ≡ true = ap is_some low in
    let u : value_of (hexadecimal (slice_index p.left 1)) ≡ h = ap value_of high in
    let v : value_of (hexadecimal (slice_index p.left 2)) ≡ l = ap value_of low in
    let octet : spelled (slice_index p.left 1) (slice_index p.left 2) ≡ h * 16 + l = rw (u, v) refl in
    let f : ℕ → Option (List ℕ) = λ n. before_octets (n ∷ []) (octets (skipped (skipped (skipped p))).left) in
    let one : is_in_tag (ahead p) ≡ true = rw sign refl in
    let two : is_in_tag (ahead (skipped p)) ≡ true = ap is_in_tag (second-is p) ∙ hexadecimal-in-tag (slice_index p.left 1) a in
    let three : is_in_tag (ahead (skipped (skipped p))) ≡ true = ap is_in_tag (third-is p) ∙ hexadecimal-in-tag (slice_index p.left 2) b in
    record {
      octets = octets-escaped p.left p refl sign a b ∙ ap f octet;
      place = past-one p one ∙ past-one (skipped p) two ∙ past-one (skipped (skipped p)) three;
    }

before-cons : (x : ℕ) (o : Option (List ℕ)) (y : ℕ) (ys : List ℕ) → before_octets (x ∷ []) o ≡ Some (y ∷ ys) → (x ≡ y) × (o ≡ Some ys)
before-cons x None y ys e = absurd (cc)
before-cons x (Some rest) y ys e = (cc, cc)

-- what may stand for itself in a tag is ASCII
pub uri-small : (c : ℕ) → is_uri c ≡ true → c < 128
uri-small c is = grind (arith, nat_tests)

not-high : (cs : List ℕ) (octet : ℕ) (rest : List ℕ) → slice_index cs 0 ≢ 37 → 128 ≤ octet → octets cs ≡ Some (octet ∷ rest) → ⊥
not-high [] octet rest other high e = absurd (cc)
not-high (c ∷ cs) octet rest other high e =
    let sign : (c == 37) ≡ false = ne_eqb c 37 other in
    let step : (b : Bool) → is_uri c ≡ b → ⊥ = λ b. elim b as (λ v. is_uri c ≡ v → ⊥) [
      | true ↦ λ is.
          let all : before_octets (c ∷ []) (octets cs) ≡ Some (octet ∷ rest) = rw (sign, is) at e in
          let same : c ≡ octet = (before-cons c (octets cs) octet rest all).0 in
          absurd (omega (arith, uri-small c is))
      | false ↦ λ is.
          let all : Some [] ≡ Some (octet ∷ rest) = rw (sign, is) at e in
          absurd (cc)
    ] in
    step (is_uri c) refl

pub no-sign : (p : Place) → ahead p ≢ 37 → SpellsNone p
no-sign p other = record {
  escaped = λ sign. absurd (other sign);
  high = λ octet rest high e. not-high p.left octet rest other high e;
}

octets-none : (cs : List ℕ) → slice_index cs 0 ≡ 37 → (is_some (hexadecimal (slice_index cs 1)) && is_some (hexadecimal (slice_index cs 2))) ≡ false → octets cs ≡ None
octets-none [] sign none = absurd (omega arith)
octets-none (c ∷ []) sign none = rw sign refl
octets-none (c ∷ x ∷ []) sign none = rw sign refl
octets-none (c ∷ x ∷ y ∷ cs) sign none = rw (sign, none) refl

pub no-digits : (p : Place) → ahead p ≡ 37 → (is_some (hexadecimal (slice_index p.left 1)) && is_some (hexadecimal (slice_index p.left 2))) ≡ false → SpellsNone p
no-digits p sign none =
    let nothing : octets p.left ≡ None = octets-none p.left sign none in
    record { escaped = λ _. nothing; high = λ octet rest high e. absurd (cc) }

same-one : (a b : ℕ) → a ∷ [] ≡ b ∷ [] → a ≡ b
same-one a b e = cc

one-more : (p q r : Place) (k bits middle code : ℕ) (xs : List ℕ) → length xs ≡ 1 → Spells p xs q → All IsFurther xs → chars_after 1 bits xs ≡ middle ∷ []
    → Continues q k middle code r → Continues p (suc k) bits code r
one-more p q r k bits middle code [] n s all e more = absurd (omega arith)
one-more p q r k bits middle code (x ∷ []) n s all e more =
    let P : ℕ → Type 0 = λ b. chars_after k b more.further ≡ code ∷ [] in
    record {
      further = x ∷ more.further;
      spells = spells-then p q r (x ∷ []) more.further s more.spells;
      many = ap suc more.many;
      all = All-cons IsFurther x more.further (All-head IsFurther x [] all) more.all;
      made = subst P (sym (same-one (bits * 64 + (x - 128)) middle e)) more.made;
    }
one-more p q r k bits middle code (x ∷ y ∷ xs) n s all e more = absurd (omega arith)

-- and so many after it
pub continues-then : (p q r : Place) (k bits middle code : ℕ) → Continues p 1 bits middle q → Continues q k middle code r → Continues p (suc k) bits code r
continues-then p q r k bits middle code one more = one-more p q r k bits middle code one.further one.many one.spells one.all one.made more

pub breaks-at-one : (p : Place) → SpellsNone p → BreaksOff p 1
breaks-at-one p none [] rest n all e = absurd (omega arith)
breaks-at-one p none (x ∷ xs) rest n all e = none.high x (xs ++ rest) (All-head IsFurther x xs all).0 e

-- an octet that continues no character
pub breaks-at-other : (p q : Place) (octet : ℕ) → Spells p (octet ∷ []) q → (IsFurther octet → ⊥) → BreaksOff p 1
breaks-at-other p q octet spells other [] rest n all e = absurd (omega arith)
breaks-at-other p q octet spells other (x ∷ xs) rest n all e =
    let same : octet ≡ x = (before-cons octet (octets q.left) x (xs ++ rest) (sym spells.octets ∙ e)).0 in
    let P : ℕ → Type 0 = λ n. IsFurther n in
    other (subst P (sym same) (All-head IsFurther x xs all))

pub breaks-first : (p : Place) (k : ℕ) → BreaksOff p 1 → BreaksOff p (suc k)
breaks-first p k off [] rest n all e = absurd (omega arith)
breaks-first p k off (x ∷ xs) rest n all e = off (x ∷ []) (xs ++ rest) refl (All-cons IsFurther x [] (All-head IsFurther x xs all) (All-nil IsFurther)) e

break-behind : (p q : Place) (k : ℕ) (ys : List ℕ) → length ys ≡ 1 → Spells p ys q → BreaksOff q k → BreaksOff p (suc k)
break-behind p q k [] m s off xs rest n all e = absurd (omega arith)
break-behind p q k (y ∷ []) m s off [] rest n all e = absurd (omega arith)
break-behind p q k (y ∷ []) m s off (x ∷ xs) rest n all e =
    off xs rest (omega arith) (All-tail IsFurther x xs all) (before-cons y (octets q.left) x (xs ++ rest) (sym s.octets ∙ e)).1
break-behind p q k (y ∷ z ∷ ys) m s off xs rest n all e = absurd (omega arith)

pub breaks-then : (p q : Place) (k bits middle : ℕ) → Continues p 1 bits middle q → BreaksOff q k → BreaksOff p (suc k)
breaks-then p q k bits middle one off = break-behind p q k one.further one.many one.spells off

pub continues-none : (p : Place) (count bits : ℕ) → count ≡ 0 → Continues p count bits bits p
continues-none p count bits is =
    let P : ℕ → Type 0 = λ n. Continues p n bits bits p in
    let none : Continues p 0 bits bits p = record { further = []; spells = spells-here p; many = refl; all = All-nil IsFurther; made = refl } in
    subst P (sym is) none

-- what a reader of so many further octets answers
abbrev pub Answers : Place → ℕ → ℕ → Result ℕ ScanInfo → Place → Type 0
Answers p count bits r q = MatchResult r (λ code. Continues p count bits code q) (λ info. IsBadOctet info × BreaksOff p count)

pub answers-then : (p q r : Place) (k bits middle : ℕ) (x : Result ℕ ScanInfo) → Continues p 1 bits middle q → Answers q k middle x r → Answers p (suc k) bits x r
answers-then p q r k bits middle (Ok code) one h = continues-then p q r k bits middle code one h
answers-then p q r k bits middle (Err info) one h = (h.0, breaks-then p q k bits middle one h.1)

pub answers-at : (p q : Place) (n m bits : ℕ) (x : Result ℕ ScanInfo) → n ≡ m → Answers p m bits x q → Answers p n bits x q
answers-at p q n m bits x is h = let P : ℕ → Type 0 = λ k. Answers p k bits x q in subst P (sym is) h

-- the octets of a character
pub character-spelled : (p q r : Place) (first count bits code : ℕ) → Spells p (first ∷ []) q → is_first first ≡ true → count ≡ continuation_len first → bits ≡ lead_bits first
    → Continues q count bits code r → least_code count ≤ code → Spells p (encode_utf8 code) r
character-spelled p q r first count bits code one leads many lead more least =
    let F : ℕ → Type 0 = λ n. Made n bits more.further code first in
    let G : ℕ → Type 0 = λ b. Made (continuation_len first) b more.further code first in
    let made : Made count bits more.further code first = subst F (sym many) (subst G (sym lead) (octets-of-code first code more.further leads more.all)) in
    spells-same p r (first ∷ more.further) (encode_utf8 code) (sym (made more.many more.made least)) (spells-then p q r (first ∷ []) more.further one more.spells)

as-parts : (p q : Place) (first c : ℕ) (rest : List ℕ) (k : Parts c) → Spells p (first ∷ []) q → octets p.left ≡ Some (encode_utf8 c ++ rest)
    → (first ≡ k.first) × (octets q.left ≡ Some (k.further ++ rest))
as-parts p q first c rest k one e =
    let f : List ℕ → Option (List ℕ) = λ l. Some (l ++ rest) in
    before-cons first (octets q.left) k.first (k.further ++ rest) (sym one.octets ∙ e ∙ ap f k.is)

pub no-first : (p q : Place) (first : ℕ) → Spells p (first ∷ []) q → is_first first ≡ false → SpellsNoCharacter p
no-first p q first one other c rest s e =
    let k : Parts c = parts c s in
    both_ways (is_first first) other (ap is_first (as-parts p q first c rest k one e).0 ∙ k.leads)

pub no-further : (p q : Place) (first count : ℕ) → Spells p (first ∷ []) q → count ≡ continuation_len first → BreaksOff q count → SpellsNoCharacter p
no-further p q first count one many off c rest s e =
    let k : Parts c = parts c s in
    let met = as-parts p q first c rest k one e in
    off k.further rest (k.count ∙ ap continuation_len (sym met.0) ∙ sym many) k.all met.1

same-front : (xs ys us vs : List ℕ) → length xs ≡ length ys → xs ++ us ≡ ys ++ vs → xs ≡ ys
same-front [] [] us vs n e = refl
same-front [] (y ∷ ys) us vs n e = absurd (omega arith)
same-front (x ∷ xs) [] us vs n e = absurd (omega arith)
same-front (x ∷ xs) (y ∷ ys) us vs n e =
    let first : x ≡ y = cc in
    let rest : xs ++ us ≡ ys ++ vs = cc in
    let ih : xs ≡ ys = same-front xs ys us vs (omega arith) rest in
    cc

fronts : (xs ys : List ℕ) (o : Option (List ℕ)) (rest : List ℕ) → length xs ≡ length ys → before_octets xs o ≡ Some (ys ++ rest) → xs ≡ ys
fronts xs ys None rest n e = absurd (cc)
fronts xs ys (Some more) rest n e = let same : xs ++ more ≡ ys ++ rest = cc in same-front xs ys more rest n same

pub no-code : (p q r : Place) (first count bits code : ℕ) → Spells p (first ∷ []) q → count ≡ continuation_len first → bits ≡ lead_bits first
    → Continues q count bits code r → (least_code count ≤ code → IsScalar code → ⊥) → SpellsNoCharacter p
no-code p q r first count bits code one many lead more bad c rest s e =
    let k : Parts c = parts c s in
    let met = as-parts p q first c rest k one e in
    let met-many : count ≡ length k.further = many ∙ ap continuation_len met.0 ∙ sym k.count in
    let same : more.further ≡ k.further = fronts more.further k.further (octets r.left) rest (more.many ∙ met-many) (sym more.spells.octets ∙ met.1) in
    let len : continuation_len k.first ≡ count = ap continuation_len (sym met.0) ∙ sym many in
    let bits' : lead_bits k.first ≡ bits = ap lead_bits (sym met.0) ∙ sym lead in
    let made : chars_after (continuation_len k.first) (lead_bits k.first) k.further ≡ c ∷ [] = parts-code c k.first k.further s k.is in
    let made' : chars_after count bits more.further ≡ c ∷ [] = rw same (rw (len, bits') at made) in
    let is : code ≡ c = same-one code c (sym more.made ∙ made') in
    let L : ℕ → Type 0 = λ n. least_code n ≤ c in
    let least : least_code count ≤ c = subst L (sym met-many) k.least in
    let Q : ℕ → Type 0 = λ n. least_code count ≤ n in
    let S : ℕ → Type 0 = λ n. IsScalar n in
    bad (subst Q (sym is) least) (subst S (sym is) s)

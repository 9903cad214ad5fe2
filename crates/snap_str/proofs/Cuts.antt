-- Where std cuts a text, by its bytes and by its characters.
use Rattle.snap_str.proofs.Prelude.{◌≡◌, ◌≢◌, ◌==◌, ℕ, ◌<◌, ◌≤◌, ◌+◌, ◌-◌, List, [], ◌∷◌, ◌++◌, Option, None, Some, Bor, length, take, drop, refl, sym, ap, ◌∙◌, subst, arith, inl, length-append, MatchOption, IfSome, take-append-drop, or_from, chars_from_encodes, encodes-chars, encodes-append, chars-append, chars_past_char, IsUtf8-take, IsUtf8-drop, IsUtf8-append, IsUtf8-encode, IsCharBoundary-from_drop, list_any, chars, IsUtf8, NoCharPasses, NonePass, HasCharAt, FindsChar, RFindsChar, FindsTextPrefix, FindsTextSuffix, SplitsAroundMatch, StripsPrefix, StripsSuffix, Lacks, IsCutAtFirst, IsCutAtLast, IsLastPart, encode, encodes}
use Rattle.std.specs.Char.{IsScalar}

none_pass : (mark : ℕ) (cs : List ℕ) → NonePass (λ d. d == mark) cs → Lacks mark cs
none_pass mark [] h = refl
none_pass mark (c ∷ cs) h = or_from (c == mark) (list_any (λ d. d == mark) cs) h.0 (none_pass mark cs h.1)

pub lacks : (mark : ℕ) (bs : List ℕ) → IsUtf8 bs → NoCharPasses (λ d. d == mark) bs → Lacks mark (chars bs)
lacks mark bs u (cs, is, none) = subst (λ x. Lacks mark x) (chars_from_encodes cs bs u is) (none_pass mark cs none)

-- the two parts of a text round a mark
pub record IsParted (mark : ℕ) (text before behind : List ℕ) : Type 0 where
  pub is : chars text ≡ chars before ++ mark ∷ chars behind
  pub front_shorter : length (chars before) < length (chars text)
  pub back_shorter : length (chars behind) < length (chars text)
  pub front : IsUtf8 before
  pub back : IsUtf8 behind

pub parted : (mark : ℕ) (s before behind : List ℕ) (i j : ℕ) → IsUtf8 s → IsScalar mark → HasCharAt mark s i j → before ≡ take i s → behind ≡ drop j s → i ≤ length s → IsParted mark s before behind
parted mark s before behind i j u scalar at before_is behind_is within =
    let P : List ℕ → Type 0 = λ x. IsUtf8 x in
    let back : IsUtf8 (drop j s) = subst (λ k. IsUtf8 (drop k s)) (sym at.ends) (IsUtf8-drop s (i + _) u at.after) in
    let tail : IsUtf8 (drop i s) = subst P (sym at.split) (IsUtf8-append (encode mark) (drop j s) (IsUtf8-encode mark scalar) back) in
    let front : IsUtf8 before = subst P (sym before_is) (IsUtf8-take s i u (IsCharBoundary-from_drop s i within tail)) in
    let mark_then : chars (drop i s) ≡ mark ∷ chars behind = chars_past_char (drop i s) behind mark tail (at.split ∙ ap (λ t. encode mark ++ t) (sym behind_is)) in
    let is : chars s ≡ chars before ++ mark ∷ chars behind =
    ap chars (sym (take-append-drop i s) ∙ ap (λ t. t ++ drop i s) (sym before_is)) ∙ chars-append before (drop i s) front ∙ ap (λ t. chars before ++ t) mark_then in
    let size : length (chars s) ≡ length (chars before) + length (mark ∷ chars behind) = ap length is ∙ length-append (chars before) (mark ∷ chars behind) in
    record {
      is = is;
      front_shorter = omega (arith, size);
      back_shorter = omega (arith, size);
      front = front;
      back = subst P (sym behind_is) back;
    }

pub record CutsFirst (mark : ℕ) (text before behind : List ℕ) : Type 0 where
  pub cut : IsCutAtFirst mark (chars text) (chars before) (chars behind)
  pub shorter : length (chars behind) < length (chars text)

pub cuts_first : (mark : ℕ) (s before behind : List ℕ) (i j : ℕ) → IsUtf8 s → IsScalar mark → FindsChar mark s (Some (i, j)) → before ≡ take i s → behind ≡ drop j s → i ≤ length s
    → CutsFirst mark s before behind
cuts_first mark s before behind i j u scalar (none, at) before_is behind_is within =
    let p = parted mark s before behind i j u scalar at before_is behind_is within in
    record {
      cut = record { is = p.is; first = lacks mark before p.front (subst (λ x. NoCharPasses (λ d. d == mark) x) (sym before_is) none) };
      shorter = p.back_shorter;
    }

first : (mark : ℕ) (s before behind : List ℕ) → IsUtf8 s → IsScalar mark → SplitsAroundMatch (FindsChar mark) s before behind → CutsFirst mark s before behind
first mark s before behind u scalar (i, j, found, before_is, behind_is, order, before_len, behind_len) =
    cuts_first mark s before behind i j u scalar found before_is behind_is (omega (arith, order, behind_len))

pub first_clause : (mark : ℕ) (s : List ℕ) (r : Option (Bor (List ℕ) × Bor (List ℕ))) → IsUtf8 s → IsScalar mark
    → MatchOption r (FindsChar mark s None) (λ x. SplitsAroundMatch (FindsChar mark) s x.0.now x.1.now)
    → MatchOption r (Lacks mark (chars s)) (λ p. IsCutAtFirst mark (chars s) (chars p.0.now) (chars p.1.now))
first_clause mark s None u scalar h = lacks mark s u h
first_clause mark s (Some p) u scalar h = (first mark s p.0.now p.1.now u scalar h).cut

pub first_shorter : (mark : ℕ) (s : List ℕ) (r : Option (Bor (List ℕ) × Bor (List ℕ))) → IsUtf8 s → IsScalar mark
    → MatchOption r (FindsChar mark s None) (λ x. SplitsAroundMatch (FindsChar mark) s x.0.now x.1.now)
    → IfSome r (λ p. length (chars p.1.now) < length (chars s))
first_shorter mark s None u scalar h = tt
first_shorter mark s (Some p) u scalar h = (first mark s p.0.now p.1.now u scalar h).shorter

pub record CutsLast (mark : ℕ) (text before behind : List ℕ) : Type 0 where
  pub cut : IsCutAtLast mark (chars text) (chars before) (chars behind)
  pub shorter : length (chars before) < length (chars text)

last : (mark : ℕ) (s before behind : List ℕ) → IsUtf8 s → IsScalar mark → SplitsAroundMatch (RFindsChar mark) s before behind → CutsLast mark s before behind
last mark s before behind u scalar (i, j, (none, at), before_is, behind_is, order, before_len, behind_len) =
    let p = parted mark s before behind i j u scalar at before_is behind_is (omega (arith, order, behind_len)) in
    record {
      cut = record { is = p.is; last = lacks mark behind p.back (subst (λ x. NoCharPasses (λ d. d == mark) x) (sym behind_is) none) };
      shorter = p.front_shorter;
    }

pub last_clause : (mark : ℕ) (s : List ℕ) (r : Option (Bor (List ℕ) × Bor (List ℕ))) → IsUtf8 s → IsScalar mark
    → MatchOption r (RFindsChar mark s None) (λ x. SplitsAroundMatch (RFindsChar mark) s x.0.now x.1.now)
    → MatchOption r (Lacks mark (chars s)) (λ p. IsCutAtLast mark (chars s) (chars p.0.now) (chars p.1.now))
last_clause mark s None u scalar h = lacks mark s u h
last_clause mark s (Some p) u scalar h = (last mark s p.0.now p.1.now u scalar h).cut

pub last_shorter : (mark : ℕ) (s : List ℕ) (r : Option (Bor (List ℕ) × Bor (List ℕ))) → IsUtf8 s → IsScalar mark
    → MatchOption r (RFindsChar mark s None) (λ x. SplitsAroundMatch (RFindsChar mark) s x.0.now x.1.now)
    → IfSome r (λ p. length (chars p.0.now) < length (chars s))
last_shorter mark s None u scalar h = tt
last_shorter mark s (Some p) u scalar h = (last mark s p.0.now p.1.now u scalar h).shorter

pub whole_part : (mark : ℕ) (text : List ℕ) → Lacks mark text → IsLastPart mark text text
whole_part mark text none = (none, inl refl)

-- a text without what it begins with
pub prefix_clause : (s prefix : List ℕ) (r : Option (Bor (List ℕ))) → IsUtf8 s → IsUtf8 prefix
    → MatchOption r (FindsTextPrefix prefix s None) (λ x. StripsPrefix (FindsTextPrefix prefix) s x.now)
    → MatchOption r ((rest : List ℕ) → chars s ≢ chars prefix ++ rest) (λ x. chars s ≡ chars prefix ++ chars x.now)
prefix_clause s prefix None u v none =
    λ rest is. none (encodes rest) (sym (encodes-chars s u) ∙ ap encodes is ∙ encodes-append (chars prefix) rest ∙ ap (λ x. x ++ encodes rest) (encodes-chars prefix v))
prefix_clause s prefix (Some x) u v (n, (len, is, at), rest_is, size) =
    ap chars (is ∙ ap (λ t. prefix ++ t) (sym rest_is)) ∙ chars-append prefix x.now v

-- a text without what it ends with
pub suffix_clause : (s suffix : List ℕ) (r : Option (Bor (List ℕ))) → IsUtf8 s → IsUtf8 suffix
    → MatchOption r (FindsTextSuffix suffix s None) (λ x. StripsSuffix (FindsTextSuffix suffix) s x.now)
    → MatchOption r ((front : List ℕ) → chars s ≢ front ++ chars suffix) (λ x. chars s ≡ chars x.now ++ chars suffix)
suffix_clause s suffix None u v none =
    λ front is. none (encodes front) (sym (encodes-chars s u) ∙ ap encodes is ∙ encodes-append front (chars suffix) ∙ ap (λ x. encodes front ++ x) (encodes-chars suffix v))
suffix_clause s suffix (Some x) u v (n, (len, is, at), front_is, size) =
    let P : List ℕ → Type 0 = λ t. IsUtf8 t in
    let boundary = subst (λ k. Rattle.std.specs.Str.IsCharBoundary s (length s - k)) (sym len) at in
    let front : IsUtf8 x.now = subst P (sym front_is) (IsUtf8-take s (length s - n) u boundary) in
    ap chars (is ∙ ap (λ t. t ++ suffix) (sym front_is)) ∙ chars-append x.now suffix front

-- The last place of a mark in a text, by its bytes and by its characters.
use Rattle.snap_path.proofs.Prelude.{◌≡◌, ℕ, ◌<◌, ◌≤◌, ◌+◌, List, [], ◌∷◌, ◌++◌, Option, None, Some, Bor, length, take, drop, get_or, refl, sym, ap, ◌∙◌, subst, arith, length-append, length-drop, MatchOption, IfSome, inl, inr, ◌⊎◌, take-append_seam, drop-append_seam, encodes-chars, encodes-append, encodes-IsAscii, chars-append, length-le-encodes, IsUtf8-take, IsUtf8-from_ascii, IsCharBoundary-before_ascii, list_all, chars, IsUtf8, IsAscii, IsAscii-list_all, chars-ascii, cut_last, cut_of}
use Rattle.std.proofs.lemmas.List.{take-append-drop, take-append-le}
use Rattle.std.proofs.lemmas.Bool.{cases_lt}
use Rattle.std.specs.Char.{is_ascii}
use Rattle.std.specs.Prelude.{IsTrue}
use Rattle.std.specs.Str.Pattern.{RFindsText, SplitsAroundMatch, LacksTextAt}
use Rattle.snap_path.proofs.Cuts.{cut_last-is, cut_last-none}
use lib.Utf8.{encodes}

-- a cut in characters is one in bytes
bytes_cut : (s mark xs ys : List ℕ) → IsUtf8 s → IsAscii mark → chars s ≡ xs ++ (mark ++ ys) → s ≡ encodes xs ++ (mark ++ encodes ys)
bytes_cut s mark xs ys u ascii e =
    sym (encodes-chars s u) ∙ ap encodes e ∙ encodes-append xs (mark ++ ys) ∙ ap (λ r. encodes xs ++ r) (encodes-append mark ys)
    ∙ ap (λ m. encodes xs ++ (m ++ encodes ys)) (encodes-IsAscii mark ascii)

-- and back
chars_cut : (s mark front back : List ℕ) → IsUtf8 front → IsAscii mark → chars mark ≡ mark → s ≡ front ++ (mark ++ back) → chars s ≡ chars front ++ (mark ++ chars back)
chars_cut s mark front back u ascii same e =
    ap chars e ∙ chars-append front (mark ++ back) u ∙ ap (λ r. chars front ++ r) (chars-append mark back (IsUtf8-from_ascii mark ascii))
    ∙ ap (λ m. chars front ++ (m ++ chars back)) same

-- where more characters stand before a cut, more bytes do
fewer : (s front xs u v : List ℕ) → IsUtf8 front → chars s ≡ xs ++ u → chars s ≡ chars front ++ v → length (encodes xs) ≤ length front → length xs ≤ length (chars front)
fewer s front xs u v utf8 e f short = by (cases_lt (length (chars front)) (length xs))
  where
    by : (length (chars front) < length xs) ⊎ (length xs ≤ length (chars front)) → length xs ≤ length (chars front)
    by (inr h) = h
    by (inl h) =
        let n = length (chars front) in
        let le : n ≤ length xs = omega arith in
        let same : take n xs ≡ chars front =
        sym (take-append-le n xs u le) ∙ ap (take n) (sym e ∙ f) ∙ take-append_seam (chars front) v in
        let whole : encodes xs ≡ front ++ encodes (drop n xs) =
        ap encodes (sym (take-append-drop n xs)) ∙ encodes-append (take n xs) (drop n xs) ∙ ap (λ t. encodes t ++ encodes (drop n xs)) same
        ∙ ap (λ t. t ++ encodes (drop n xs)) (encodes-chars front utf8) in
        let a : length (encodes xs) ≡ length front + length (encodes (drop n xs)) = ap length whole ∙ length-append front (encodes (drop n xs)) in
        let b : length (drop n xs) ≤ length (encodes (drop n xs)) = length-le-encodes (drop n xs) in
        let d = length-drop n xs in
        absurd (omega (arith, a, b, d, h, short))

-- what stands before an ASCII byte is text
text_before : (s front : List ℕ) (i : ℕ) → IsUtf8 s → i < length s → get_or s i 0 < 128 → front ≡ take i s → IsUtf8 front
text_before s front i u within starts is =
    let P : List ℕ → Type 0 = λ x. IsUtf8 x in subst P (sym is) (IsUtf8-take s i u (IsCharBoundary-before_ascii s i within starts))

byte_at : (s front rest : List ℕ) (i m : ℕ) → length front ≡ i → s ≡ front ++ m ∷ rest → m < 128 → get_or s i 0 < 128
byte_at s front rest i m len is small =
    let same : get_or s i 0 ≡ m = ap (λ t. get_or t i 0) is ∙ ap (λ k. get_or (front ++ m ∷ rest) k 0) (sym len) ∙ get_or-seam front rest m in
    rw same small
  where
    get_or-seam : (xs ys : List ℕ) (y : ℕ) → get_or (xs ++ y ∷ ys) (length xs) 0 ≡ y
    get_or-seam [] ys y = refl
    get_or-seam (x ∷ xs) ys y = get_or-seam xs ys y

-- the mark stands nowhere after the last place where it is found
not_later : (s mark front xs ys : List ℕ) (i : ℕ) → ((k : ℕ) → i < k → k ≤ length s → LacksTextAt mark s k) → length front ≡ i → s ≡ xs ++ (mark ++ ys)
    → length xs ≤ length front
not_later s mark front xs ys i later len is = by (cases_lt i (length xs))
  where
    by : (i < length xs) ⊎ (length xs ≤ i) → length xs ≤ length front
    by (inr h) = omega arith
    by (inl h) =
        let n : length xs ≤ length s = rw (is, length-append xs (mark ++ ys)) (omega arith) in
        absurd (later (length xs) h n ys (ap (drop (length xs)) is ∙ drop-append_seam xs (mark ++ ys)))

pub record CutsText (mark text front back : List ℕ) : Type 0 where
  pub cut : cut_last mark (chars text) ≡ Some (cut_of (chars front) (chars back))
  pub shorter : length (chars front) < length (chars text)

found : (m : ℕ) (ms s front back : List ℕ) → IsUtf8 s → IsTrue (list_all is_ascii (m ∷ ms)) → SplitsAroundMatch (RFindsText (m ∷ ms)) s front back
    → CutsText (m ∷ ms) s front back
found m ms s front back u ascii_test (i, j, (later, at), front_is, back_is, order, front_len, back_len) =
    let mark : List ℕ = m ∷ ms in
    let ascii : IsAscii mark = IsAscii-list_all mark ascii_test in
    let e : s ≡ front ++ (mark ++ back) =
    sym (take-append-drop i s) ∙ ap (λ t. t ++ drop i s) (sym front_is) ∙ ap (λ t. front ++ t) (at.split ∙ ap (λ t. mark ++ t) (sym back_is)) in
    let size : length s ≡ length front + length (mark ++ back) = ap length e ∙ length-append front (mark ++ back) in
    let within : i < length s = omega (arith, size, front_len) in
    let starts : get_or s i 0 < 128 = byte_at s front (ms ++ back) i m front_len e (ascii 0) in
    let utf8 : IsUtf8 front = text_before s front i u within starts front_is in
    let cs : chars s ≡ chars front ++ (mark ++ chars back) = chars_cut s mark front back utf8 ascii (chars-ascii mark ascii_test) e in
    record {
      cut = cut_last-is m ms (chars s) (chars front) (chars back) (record {
        is = cs;
        last = λ xs ys same. fewer s front xs (mark ++ ys) (mark ++ chars back) utf8 same cs
            (not_later s mark front (encodes xs) (encodes ys) i later front_len (bytes_cut s mark xs ys u ascii same));
      });
      shorter = rw (cs, length-append (chars front) (mark ++ chars back)) (omega arith);
    }

lacking : (m : ℕ) (ms s : List ℕ) → IsUtf8 s → IsTrue (list_all is_ascii (m ∷ ms)) → ((i : ℕ) → i ≤ length s → LacksTextAt (m ∷ ms) s i) → cut_last (m ∷ ms) (chars s) ≡ None
lacking m ms s u ascii_test none =
    cut_last-none m ms (chars s) (λ xs ys same.
    let e : s ≡ encodes xs ++ ((m ∷ ms) ++ encodes ys) = bytes_cut s (m ∷ ms) xs ys u (IsAscii-list_all (m ∷ ms) ascii_test) same in
    let n : length (encodes xs) ≤ length s = rw (e, length-append (encodes xs) ((m ∷ ms) ++ encodes ys)) (omega arith) in
    none (length (encodes xs)) n (encodes ys) (ap (drop (length (encodes xs))) e ∙ drop-append_seam (encodes xs) ((m ∷ ms) ++ encodes ys)))

pub cut_clause : (mark s : List ℕ) (r : Option (Bor (List ℕ) × Bor (List ℕ))) → IsUtf8 s → IsTrue (list_all is_ascii mark) → 0 < length mark
    → MatchOption r (RFindsText mark s None) (λ x. SplitsAroundMatch (RFindsText mark) s x.0.now x.1.now)
    → MatchOption r (cut_last mark (chars s) ≡ None) (λ p. cut_last mark (chars s) ≡ Some (cut_of (chars p.0.now) (chars p.1.now)))
cut_clause [] s r u ascii some h = absurd (omega arith)
cut_clause (m ∷ ms) s None u ascii some h = lacking m ms s u ascii h
cut_clause (m ∷ ms) s (Some p) u ascii some h = (found m ms s p.0.now p.1.now u ascii h).cut

pub shorter_clause : (mark s : List ℕ) (r : Option (Bor (List ℕ) × Bor (List ℕ))) → IsUtf8 s → IsTrue (list_all is_ascii mark) → 0 < length mark
    → MatchOption r (RFindsText mark s None) (λ x. SplitsAroundMatch (RFindsText mark) s x.0.now x.1.now)
    → IfSome r (λ p. length (chars p.0.now) < length (chars s))
shorter_clause [] s r u ascii some h = absurd (omega arith)
shorter_clause (m ∷ ms) s None u ascii some h = tt
shorter_clause (m ∷ ms) s (Some p) u ascii some h = (found m ms s p.0.now p.1.now u ascii h).shorter

-- A mark of ASCII, found among the bytes of a text.
use Rattle.snap_str.proofs.Prelude.{◌≡◌, ◌==◌, ℕ, ◌+◌, ◌<◌, ◌≤◌, List, [], ◌∷◌, ◌++◌, Option, None, Some, true, false, length, take, drop, refl, sym, ap, ◌∙◌, arith, subst, or_parts, eqb-true, encodes-chars, IsUtf8-take, list_any, chars, IsUtf8, NoCharPasses, NonePass, IsCharBoundary}
use Rattle.std.proofs.Common.{get_or}
use Rattle.std.proofs.Common.{cond, nat_le, nat_lt, ◌&&◌}
use Rattle.std.proofs.lemmas.Bool.{lt-ltb}
use Rattle.std.proofs.lemmas.Bool.Decides.{nat_tests}
use Rattle.std.proofs.lemmas.List.{drop_more, get_or-take, length-take-le}
use Rattle.std.proofs.lemmas.Str.{encode_ascii, len_utf8_ascii, IsCharBoundary-before_ascii, IsCharBoundary-after_ascii}
use Rattle.std.specs.Char.{IsScalar}
use Rattle.memchr.specs.Find as bytes
use Rattle.snap_str.specs.Cut.{IsFirstByte, FindsByte}
use Rattle.snap_str.proofs.AsciiBytes.{any_of_bytes, held_nowhere}
use Rattle.snap_str.proofs.Cuts.{CutsFirst, cuts_first}

wide-none : (mark : ℕ) → mark < 128 → (c : ℕ) → 128 ≤ c → (c == mark) ≡ false
wide-none mark small c wide = grind (arith, nat_tests)

none_pass : (mark : ℕ) (cs : List ℕ) → list_any (λ d. d == mark) cs ≡ false → NonePass (λ d. d == mark) cs
none_pass mark [] h = tt
none_pass mark (c ∷ cs) h = let here = or_parts (c == mark) (list_any (λ d. d == mark) cs) h in (here.0, none_pass mark cs here.1)

-- a text none of whose bytes is the mark
none : (mark : ℕ) (text : List ℕ) → mark < 128 → IsUtf8 text → ((k : ℕ) → k < length text → (get_or text k 0 == mark) ≡ true → ⊥) → NoCharPasses (λ d. d == mark) text
none mark text small utf8 h = (
  chars text,
  encodes-chars text utf8,
  none_pass mark (chars text) (sym (any_of_bytes (λ d. d == mark) (wide-none mark small) text text utf8 refl) ∙ held_nowhere (λ d. d == mark) text h),
)

pub finds_byte : (mark : ℕ) (held text : List ℕ) (r : Option ℕ) → mark < 128 → IsUtf8 text → held ≡ text → bytes.IsFirstByte (bytes.is_byte mark) held r → FindsByte mark text r
finds_byte mark held text r small utf8 same first = by r (let P : List ℕ → Type 0 = λ bs. bytes.IsFirstByte (bytes.is_byte mark) bs r in subst P same first)
  where
    by : (r : Option ℕ) → bytes.IsFirstByte (bytes.is_byte mark) text r → FindsByte mark text r
    by None nowhere = none mark text small utf8 (λ k less. nowhere k (omega arith) less)
    by (Some i) (within, passes) =
        let less : i < length text = within.high in
        let is : get_or text i 0 ≡ mark = eqb-true (get_or text i 0) mark passes in
        let narrow : get_or text i 0 < 128 = omega (arith, is, small) in
        let before : IsCharBoundary text i = IsCharBoundary-before_ascii text i less narrow in
        let after : IsCharBoundary text (i + 1) = IsCharBoundary-after_ascii text i utf8 less narrow in
        let front : IsUtf8 (take i text) = IsUtf8-take text i utf8 before in
        let size : length (take i text) ≡ i = length-take-le i text (omega (arith, less)) in
        record {
          first = (
            none mark (take i text) small front (λ k inside at. within.before k (omega arith) (omega (arith, size, inside))
                (ap (λ b. b == mark) (sym (get_or-take i text k 0 (omega (arith, size, inside)))) ∙ at)),
            record {
              split = drop_more text i 0 less ∙ ap (λ b. b ∷ drop (i + 1) text) is ∙ ap (λ e. e ++ drop (i + 1) text) (sym (encode_ascii mark small));
              ends = ap (λ k. i + k) (sym (len_utf8_ascii mark small));
              after = subst (λ k. IsCharBoundary text (i + k)) (sym (len_utf8_ascii mark small)) after;
              byte = λ _. is;
            },
          );
          before = before;
          after = after;
        }

ascii_scalar : (mark : ℕ) → mark < 128 → IsScalar mark
ascii_scalar mark small = ap (λ b. cond b true (nat_le 57344 mark && nat_lt mark 1114112)) (lt-ltb mark 55296 (omega (arith, small)))

-- the parts before the mark and after it
pub splits_round : (mark : ℕ) (s before behind : List ℕ) (i : ℕ) → mark < 128 → IsUtf8 s → IsFirstByte mark s i → before ≡ take i s → behind ≡ drop (i + 1) s → CutsFirst mark s before behind
splits_round mark s before behind i small u e before_is behind_is = cuts_first mark s before behind i (i + 1) u (ascii_scalar mark small) e.first before_is behind_is e.before.0

-- Bytes at their first line's end.
use Rattle.snap_io_lines.proofs.Prelude.{◌≡◌, ◌==◌, ℕ, zero, suc, ◌+◌, ◌<◌, ◌≤◌, List, [], ◌∷◌, ◌++◌, Bool, true, false, length, take, drop, get_or, refl, sym, ap, ◌∙◌, arith, add-one, drop-cons, or_from, nat_tests, list_any, Nowhere, Passes, is_byte, Lacks, IsCutAtFirst}
use Rattle.std.proofs.lemmas.List.{length-take-le}
use Rattle.std.proofs.Common.{take-append-drop}

byte_differs : (b : ℕ) → ((b == 10) ≡ true → ⊥) → (b == 10) ≡ false
byte_differs b h = by (b == 10) refl
  where
    by : (t : Bool) → (b == 10) ≡ t → t ≡ false
    by true e = absurd (h e)
    by false e = refl

lacks_until : (bs : List ℕ) (k : ℕ) → Nowhere (Passes (is_byte 10) bs) 0 k → k ≤ length bs → Lacks 10 (take k bs)
lacks_until bs zero none le = refl
lacks_until [] (suc k) none le = absurd (omega arith)
lacks_until (b ∷ bs) (suc k) none le =
    or_from (b == 10) _ (byte_differs b (none 0 (omega arith) (omega arith)))
    (lacks_until bs k (λ j low high. none (suc j) (omega arith) (omega (arith, high))) (omega (arith, le)))

take_whole : (bs : List ℕ) → take (length bs) bs ≡ bs
take_whole [] = refl
take_whole (b ∷ bs) = ap (λ t. b ∷ t) (take_whole bs)

pub lacks_all : (bs : List ℕ) → Nowhere (Passes (is_byte 10) bs) 0 (length bs) → Lacks 10 bs
lacks_all bs none = sym (ap (list_any (λ c. c == 10)) (take_whole bs)) ∙ lacks_until bs (length bs) none (omega arith)

the_byte : (b : ℕ) → (b == 10) ≡ true → b ≡ 10
the_byte b h = grind (arith, nat_tests)

pub cut_here : (bs line : List ℕ) (k : ℕ) → k < length bs → Nowhere (Passes (is_byte 10) bs) 0 k → Passes (is_byte 10) bs k → line ≡ take k bs → IsCutAtFirst 10 bs line (drop (k + 1) bs)
cut_here bs line k lt none here is = record {
  is =
      sym (take-append-drop k bs) ∙ ap (λ t. take k bs ++ t) (drop-cons bs k 0 lt) ∙ ap (λ b. take k bs ++ b ∷ drop (suc k) bs) (the_byte (get_or bs k 0) here)
      ∙ ap (λ t. t ++ 10 ∷ drop (suc k) bs) (sym is) ∙ ap (λ n. line ++ 10 ∷ drop n bs) (sym (add-one k));
  first = ap (list_any (λ c. c == 10)) is ∙ lacks_until bs k none (omega arith);
}

pub cut_length : (bs line : List ℕ) (k : ℕ) → k < length bs → line ≡ take k bs → k + 1 ≡ length line + 1
cut_length bs line k lt is = ap (λ n. n + 1) (sym (ap length is ∙ length-take-le k bs (omega arith)))

-- Lines of a text, and their leads.
use Rattle.snap_text_literals.proofs.Prelude.{◌≡◌, ℕ, ◌<◌, List, [], ◌∷◌, ◌++◌, true, false, ◌&&◌, cond, length, refl, sym, ap, ◌∙◌, append_assoc, append-nil, arith, nat_tests, list_all, is_ascii, len_utf8, chars-nil, chars, IsUtf8, IsAscii-list_all, trimmed, is_indent, lead, from_byte, shortest, indentation_of, lines, ne_eqb, lt-ltb, cond_both}
use Rattle.snap_content.proofs.Ends.{bytes_are}

-- what was passed of a line are blanks and tabs
pub record IsLead (line rest : List ℕ) : Type 0 where
  pub front : List ℕ
  pub is : line ≡ front ++ rest
  pub more : lead line ≡ front ++ lead rest

blank_ascii : (c : ℕ) → is_indent c ≡ true → is_ascii c ≡ true
blank_ascii c h = grind (arith, nat_tests)

lead_ascii : (line : List ℕ) → list_all is_ascii (lead line) ≡ true
lead_ascii [] = refl
lead_ascii (c ∷ cs) =
    cond_both (is_indent c) _ [] (λ t. list_all is_ascii t ≡ true) (λ e. ap (λ x. x && list_all is_ascii (lead cs)) (blank_ascii c e) ∙ lead_ascii cs) (λ _. refl)

pub lead-bytes : (bs line : List ℕ) → IsUtf8 bs → chars bs ≡ lead line → length bs ≡ length (lead line)
lead-bytes bs line u is = ap length (bytes_are bs (lead line) u (IsAscii-list_all (lead line) (lead_ascii line)) is)

pub from_byte-inside : (n c : ℕ) (rest more : List ℕ) → rest ≡ c ∷ more → (n ≡ 0 → ⊥) → n < len_utf8 c → from_byte n rest ≡ []
from_byte-inside n c rest more is some less = rw (is, ne_eqb n 0 some, lt-ltb n (len_utf8 c) less)

pub lead_stop : (c : ℕ) (rest more : List ℕ) → rest ≡ c ∷ more → (c ≡ 32 → ⊥) → (c ≡ 9 → ⊥) → lead rest ≡ []
lead_stop c rest more is a b = rw (is, ne_eqb c 32 a, ne_eqb c 9 b)

pub lead_done : (line rest result : List ℕ) (s : IsLead line rest) → lead rest ≡ [] → chars result ≡ s.front → IsUtf8 result → length result ≡ length (lead line)
lead_done line rest result s none is u = lead-bytes result line u (is ∙ sym (s.more ∙ ap (λ t. s.front ++ t) none ∙ append-nil s.front))

pub lead_step : (line rest more : List ℕ) (c : ℕ) → IsLead line rest → rest ≡ c ∷ more → is_indent c ≡ true → IsLead line more
lead_step line rest more c s is blank = record {
  front = s.front ++ c ∷ [];
  is = s.is ∙ ap (λ t. s.front ++ t) is ∙ sym (append_assoc s.front (c ∷ []) more);
  more =
      s.more ∙ ap (λ t. s.front ++ t) (ap lead is ∙ ap (λ b. cond b (c ∷ lead more) []) blank)
      ∙ sym (append_assoc s.front (c ∷ []) (lead more));
}

pub shortest_start : (text trim : List ℕ) → chars trim ≡ trimmed text → shortest false (chars []) (lines (chars trim)) ≡ indentation_of text
shortest_start text trim is = ap (λ b. shortest false b (lines (chars trim))) chars-nil ∙ ap (λ t. shortest false [] (lines t)) is

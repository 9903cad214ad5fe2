-- What a reader's steps and results come to.
use Rattle.snap_text_literals.proofs.Prelude.{◌≡◌, ℕ, ◌^◌, ◌<◌, ◌≤◌, List, [], ◌∷◌, ◌++◌, false, Result, Ok, Err, refl, sym, ap, ◌∙◌, arith, inl, inr, MatchResult, OnOk, is_err, begins, hashes, IsBody, IsRaw, literal_reads}
use Rattle.std.proofs.Math.Nat.{pow-le-pow_right}
use Rattle.snap_text_literals.specs.Refusal.{Refuses}
use Rattle.snap_text_literals.specs.declared.error.LiteralError.{LiteralError}
use Rattle.snap_text_literals.specs.declared.error.LiteralError.TheVariants.{NotLiteral, OutOfMemory}
use Rattle.snap_text_literals.proofs.Hashed.{differ}
use Rattle.snap_text_literals.proofs.Reading.{raw_body}

pub ok_then : {T E : Type 0} (r : Result T E) (P : Type 0) → false ≡ is_err r → OnOk r P → P
ok_then (Ok x) P h k = k
ok_then (Err e) P h k = absurd (cc)

pub not_alone : (rest behind more : List ℕ) (x : ℕ) → rest ≡ 34 ∷ behind → behind ≡ x ∷ more → rest ≡ 34 ∷ [] → ⊥
not_alone rest behind more x e f g = cc

pub raw_result : (r : Result (List ℕ) LiteralError) (source rest body : List ℕ) (count : ℕ) → source ≡ hashes count ++ rest → begins 35 rest ≡ false → rest ≡ 34 ∷ body
    → MatchResult r (λ text. IsBody count body text) (λ error. Refuses error (IsBody count body))
    → MatchResult r (λ text. IsRaw (114 ∷ source) text) (λ error. Refuses error (IsRaw (114 ∷ source)))
raw_result (Ok text) source rest body count is whole quote h =
    record { count = count; body = body; is = ap (λ t. 114 ∷ t) (is ∙ ap (λ t. hashes count ++ t) quote); spelled = h }
raw_result (Err NotLiteral) source rest body count is whole quote h = λ t k.
    let p = raw_body source rest count is whole t k in
    let e : 34 ∷ p.0 ≡ 34 ∷ body = sym p.1 ∙ quote in
    let same : p.0 ≡ body = cc in
    h t (rw same at p.2)
raw_result (Err OutOfMemory) source rest body count is whole quote h = tt

pub literal_result : (r : Result (List ℕ) LiteralError) (source rest : List ℕ) (first : ℕ) → source ≡ first ∷ rest → first ≡ 114
    → MatchResult r (λ text. IsRaw (114 ∷ rest) text) (λ error. Refuses error (IsRaw (114 ∷ rest)))
    → MatchResult r (λ text. literal_reads source text) (λ error. Refuses error (literal_reads source))
literal_result (Ok text) source rest first is r h =
    let e : source ≡ 114 ∷ rest = is ∙ ap (λ c. c ∷ rest) r in
    inr (rw e h)
literal_result (Err NotLiteral) source rest first is r h = λ t k. no_raw source rest t (is ∙ ap (λ c. c ∷ rest) r) (h t) k
  where
    no_raw : (source rest t : List ℕ) → source ≡ 114 ∷ rest → (IsRaw (114 ∷ rest) t → ⊥) → literal_reads source t → ⊥
    no_raw source rest t e never (inl q) =
        let f : 34 ∷ q.behind ≡ 114 ∷ rest = sym q.is ∙ e in differ 34 114 refl cc
    no_raw source rest t e never (inr w) = never (rw e at w)
literal_result (Err OutOfMemory) source rest first is r h = tt

pub braced_room : (count value : ℕ) → count ≤ 6 → (count ≡ 6 → ⊥) → value < 16 ^ count → value < 16 ^ 5
braced_room count value most other h =
    let k : count ≤ 5 = omega arith in
    let pos : 0 < 16 = omega arith in
    let m : 16 ^ count ≤ 16 ^ 5 = pow-le-pow_right pos k in
    omega (arith, m, h)

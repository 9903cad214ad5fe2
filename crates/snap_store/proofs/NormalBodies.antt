-- A normal form that is written as a body is read as it is.
use Rattle.snap_store.proofs.Prelude.{◌≡◌, ◌==◌, ℕ, List, [], ◌∷◌, ◌++◌, Bool, true, false, ◌&&◌, not, cond, map, refl, sym, ap, ◌∙◌, true-eqb, and_parts, onto, ended_lines, is_end, line_of, joined_lines, lines_text}
use Rattle.std.specs.Char.{is_whitespace}
use Rattle.snap_content.specs.Front.{begins}
use Rattle.snap_content.specs.Quotes.{ends_badly}
use Rattle.snap_content.proofs.Booleans.{not_true, and_nothing}
use Rattle.snap_text.proofs.Trimming.{well-trimmed, ends-unreturned}
use Rattle.snap_text.specs.Normal.{trimmed, unreturned, normal}

-- no return stands in front of a line's end
abbrev is_paired : List ℕ → Bool
is_paired [] = true
is_paired (c ∷ cs) = not (c == 13 && begins 10 cs) && is_paired cs

-- nor at the end
abbrev is_clean : List ℕ → Bool
is_clean [] = true
is_clean (c ∷ cs) = not (c == 13 && begins 10 (cs ++ 10 ∷ [])) && is_clean cs

paired-unreturned : (text : List ℕ) → is_paired (unreturned text) ≡ true
paired-unreturned [] = refl
paired-unreturned (c ∷ cs) = by (c == 13 && begins 10 (unreturned cs)) refl (paired-unreturned cs)
  where
    by : (b : Bool) → (c == 13 && begins 10 (unreturned cs)) ≡ b → is_paired (unreturned cs) ≡ true → is_paired (cond b (unreturned cs) (c ∷ unreturned cs)) ≡ true
    by true is rest = rest
    by false is rest = ap (λ v. not v && is_paired (unreturned cs)) is ∙ rest

clean : (text : List ℕ) → ends_badly text ≡ false → is_paired text ≡ true → is_clean text ≡ true
clean [] h p = refl
clean (c ∷ []) h p = by (c == 13) refl
  where
    by : (b : Bool) → (c == 13) ≡ b → (not (c == 13 && true) && true) ≡ true
    by true is = absurd (let e = sym (ap is_whitespace (true-eqb c 13 (sym is))) ∙ h in cc e)
    by false is = ap (λ v. not (v && true) && true) is
clean (c ∷ d ∷ cs) h p =
    let both = and_parts (not (c == 13 && d == 10)) (is_paired (d ∷ cs)) p in
    ap (λ v. v && is_clean (d ∷ cs)) both.0 ∙ clean (d ∷ cs) h both.1

clean-normal : (raw : List ℕ) → is_clean (normal raw) ≡ true
clean-normal raw = clean (normal raw) (ends-unreturned (trimmed raw) (well-trimmed raw)) (paired-unreturned (trimmed raw))

-- the first piece of a text with a line's end
record Piece (text : List ℕ) : Type 0 where
  first : ℕ
  more : List ℕ
  others : List (List ℕ)
  is : ended_lines text ≡ (first ∷ more) ∷ others
  lead : (c : ℕ) → is_end (c ∷ first ∷ more) ≡ (c == 13 && begins 10 text)

piece : (cs : List ℕ) → Piece (cs ++ 10 ∷ [])
piece [] = record { first = 10; more = []; others = []; is = refl; lead = λ c. refl }
piece (d ∷ ds) = by (d == 10) refl (piece ds)
  where
    by : (b : Bool) → (d == 10) ≡ b → Piece (ds ++ 10 ∷ []) → Piece (d ∷ (ds ++ 10 ∷ []))
    by true is p = record {
      first = d;
      more = [];
      others = ended_lines (ds ++ 10 ∷ []);
      is = ap (λ v. cond v ((d ∷ []) ∷ ended_lines (ds ++ 10 ∷ [])) (onto d (ended_lines (ds ++ 10 ∷ [])))) is;
      lead = λ c. refl;
    }
    by false is p = record {
      first = d;
      more = p.first ∷ p.more;
      others = p.others;
      is = ap (λ v. cond v ((d ∷ []) ∷ ended_lines (ds ++ 10 ∷ [])) (onto d (ended_lines (ds ++ 10 ∷ [])))) is ∙ ap (onto d) p.is;
      lead = λ c. sym (ap (λ v. c == 13 && v) is ∙ and_nothing (c == 13));
    }

-- a character in front of the first line
joined-onto : (c : ℕ) (line : List ℕ) (lines : List (List ℕ)) → joined_lines ((c ∷ line) ∷ lines) ≡ c ∷ joined_lines (line ∷ lines)
joined-onto c line [] = refl
joined-onto c line (next ∷ lines) = refl

-- an empty line in front
joined-empty : (pieces : List (List ℕ)) (first : List ℕ) (others : List (List ℕ)) → pieces ≡ first ∷ others → joined_lines ([] ∷ map line_of pieces) ≡ 10 ∷ lines_text pieces
joined-empty pieces first others is =
    ap (λ ps. joined_lines ([] ∷ map line_of ps)) is ∙ ap (λ ps. 10 ∷ lines_text ps) (sym is)

-- one character in front of a text
joined-cons : (c : ℕ) (cs : List ℕ) (b : Bool) → (c == 10) ≡ b → not (c == 13 && begins 10 (cs ++ 10 ∷ [])) ≡ true → lines_text (ended_lines (cs ++ 10 ∷ [])) ≡ cs
    → lines_text (ended_lines (c ∷ (cs ++ 10 ∷ []))) ≡ c ∷ cs
joined-cons c cs true is apart same =
    let rest : List ℕ = cs ++ 10 ∷ [] in
    let p = piece cs in
    ap (λ v. lines_text (cond v ((c ∷ []) ∷ ended_lines rest) (onto c (ended_lines rest)))) is
    ∙ ap (λ v. joined_lines (cond v [] (c ∷ []) ∷ map line_of (ended_lines rest))) is
    ∙ joined-empty (ended_lines rest) (p.first ∷ p.more) p.others p.is
    ∙ ap (λ v. v ∷ lines_text (ended_lines rest)) (sym (true-eqb c 10 (sym is)))
    ∙ ap (λ t. c ∷ t) same
joined-cons c cs false is apart same =
    let rest : List ℕ = cs ++ 10 ∷ [] in
    let p = piece cs in
    let inside : is_end (c ∷ p.first ∷ p.more) ≡ false = p.lead c ∙ not_true (c == 13 && begins 10 rest) apart in
    ap (λ v. lines_text (cond v ((c ∷ []) ∷ ended_lines rest) (onto c (ended_lines rest)))) is
    ∙ ap (λ ps. lines_text (onto c ps)) p.is
    ∙ ap (λ v. joined_lines (cond v [] (c ∷ line_of (p.first ∷ p.more)) ∷ map line_of p.others)) inside
    ∙ joined-onto c (line_of (p.first ∷ p.more)) (map line_of p.others)
    ∙ ap (λ ps. c ∷ lines_text ps) (sym p.is)
    ∙ ap (λ t. c ∷ t) same

clean-joined : (text : List ℕ) → is_clean text ≡ true → lines_text (ended_lines (text ++ 10 ∷ [])) ≡ text
clean-joined [] h = refl
clean-joined (c ∷ cs) h =
    let both = and_parts (not (c == 13 && begins 10 (cs ++ 10 ∷ []))) (is_clean cs) h in
    joined-cons c cs (c == 10) refl both.0 (clean-joined cs both.1)

pub normal-body : (raw : List ℕ) → lines_text (ended_lines (normal raw ++ 10 ∷ [])) ≡ normal raw
normal-body raw = clean-joined (normal raw) (clean-normal raw)

-- The first line of a text.
use Rattle.snap_str.proofs.Prelude.{◌≡◌, ◌≢◌, ◌==◌, ℕ, ◌+◌, ◌<◌, List, [], ◌∷◌, ◌++◌, Bool, true, false, ◌&&◌, cond, length, take, drop, refl, sym, ap, ◌∙◌, arith, append_assoc, or_parts, ne_eqb, take-append-drop, append_cancel_right, chars-nil, chars-append, IsUtf8-take, encodes-chars, list_any, chars, IsUtf8, Lacks, IsCutAtFirst, encodes}
use Rattle.snap_str.proofs.Cuts.{parted, lacks}
use Rattle.snap_str.specs.Lines.{onto, lines, ended_lines, without_return}
use Rattle.snap_str.specs.Cut.{IsFirstByte}

abbrev is_end : ℕ → Bool
is_end c = c == 10

and_false : (b : Bool) → (b && false) ≡ false
and_false true = refl
and_false false = refl

pub lines-line : (line more : List ℕ) → Lacks 10 line → lines (line ++ 10 ∷ more) ≡ without_return line ∷ lines more
lines-line [] more h = refl
lines-line (c ∷ []) more h =
    ap (λ b. cond b ([] ∷ [] ∷ lines more) (cond (c == 13 && true) ([] ∷ lines more) ((c ∷ []) ∷ lines more))) (or_parts (c == 10) false h).0 ∙ by (c == 13)
  where
    by : (b : Bool) → cond (b && true) ([] ∷ lines more) ((c ∷ []) ∷ lines more) ≡ cond b [] (c ∷ []) ∷ lines more
    by true = refl
    by false = refl
lines-line (c ∷ d ∷ ds) more h =
    let here = or_parts (c == 10) (list_any is_end (d ∷ ds)) h in
    let rest : List (List ℕ) = lines (d ∷ (ds ++ 10 ∷ more)) in
    ap (λ b. cond b ([] ∷ rest) (cond (c == 13 && d == 10) rest (onto c rest))) here.0
    ∙ ap (λ b. cond (c == 13 && b) rest (onto c rest)) (or_parts (d == 10) (list_any is_end ds) here.1).0
    ∙ ap (λ b. cond b rest (onto c rest)) (and_false (c == 13))
    ∙ ap (onto c) (lines-line (d ∷ ds) more here.1)

pub lines-unbroken : (c : ℕ) (line : List ℕ) → Lacks 10 (c ∷ line) → lines (c ∷ line) ≡ (c ∷ line) ∷ []
lines-unbroken c [] h =
    ap (λ b. cond b ([] ∷ []) (cond (c == 13 && false) [] ((c ∷ []) ∷ []))) (or_parts (c == 10) false h).0 ∙ ap (λ b. cond b [] ((c ∷ []) ∷ [])) (and_false (c == 13))
lines-unbroken c (d ∷ ds) h =
    let here = or_parts (c == 10) (list_any is_end (d ∷ ds)) h in
    let rest : List (List ℕ) = lines (d ∷ ds) in
    ap (λ b. cond b ([] ∷ rest) (cond (c == 13 && d == 10) rest (onto c rest))) here.0
    ∙ ap (λ b. cond (c == 13 && b) rest (onto c rest)) (or_parts (d == 10) (list_any is_end ds) here.1).0
    ∙ ap (λ b. cond b rest (onto c rest)) (and_false (c == 13))
    ∙ ap (onto c) (lines-unbroken d ds here.1)

pub ended-line : (line more : List ℕ) → Lacks 10 line → ended_lines (line ++ 10 ∷ more) ≡ (line ++ 10 ∷ []) ∷ ended_lines more
ended-line [] more h = refl
ended-line (c ∷ line) more h =
    let here = or_parts (c == 10) (list_any is_end line) h in
    ap (λ b. cond b ((c ∷ []) ∷ ended_lines (line ++ 10 ∷ more)) (onto c (ended_lines (line ++ 10 ∷ more)))) here.0
    ∙ ap (onto c) (ended-line line more here.1)

pub ended-unbroken : (c : ℕ) (line : List ℕ) → Lacks 10 (c ∷ line) → ended_lines (c ∷ line) ≡ (c ∷ line) ∷ []
ended-unbroken c [] h = ap (λ b. cond b ((c ∷ []) ∷ []) ((c ∷ []) ∷ [])) (or_parts (c == 10) false h).0
ended-unbroken c (d ∷ ds) h =
    let here = or_parts (c == 10) (list_any is_end (d ∷ ds)) h in
    ap (λ b. cond b ((c ∷ []) ∷ ended_lines (d ∷ ds)) (onto c (ended_lines (d ∷ ds)))) here.0 ∙ ap (onto c) (ended-unbroken d ds here.1)

pub without_return-push : (front : List ℕ) (c : ℕ) → without_return (front ++ c ∷ []) ≡ cond (c == 13) front (front ++ c ∷ [])
without_return-push [] c = refl
without_return-push (d ∷ []) c = by (c == 13)
  where
    by : (b : Bool) → d ∷ cond b [] (c ∷ []) ≡ cond b (d ∷ []) (d ∷ c ∷ [])
    by true = refl
    by false = refl
without_return-push (d ∷ e ∷ es) c = ap (λ t. d ∷ t) (without_return-push (e ∷ es) c) ∙ by (c == 13)
  where
    by : (b : Bool) → d ∷ cond b (e ∷ es) (e ∷ (es ++ c ∷ [])) ≡ cond b (d ∷ e ∷ es) (d ∷ e ∷ (es ++ c ∷ []))
    by true = refl
    by false = refl

-- a line that ends with a return, and one that ends otherwise
pub past_return : (line front end : List ℕ) → end ≡ 13 ∷ [] → line ≡ front ++ end → front ≡ without_return line
past_return line front end e is = sym (ap without_return (is ∙ ap (λ t. front ++ t) e) ∙ without_return-push front 13)

keeps : (line : List ℕ) → ((front : List ℕ) → line ≢ front ++ 13 ∷ []) → line ≡ without_return line
keeps [] h = refl
keeps (c ∷ []) h = sym (ap (λ b. cond b [] (c ∷ [])) (ne_eqb c 13 (λ e. h [] (ap (λ d. d ∷ []) e))))
keeps (c ∷ d ∷ ds) h = ap (λ t. c ∷ t) (keeps (d ∷ ds) (λ front e. h (c ∷ front) (ap (λ t. c ∷ t) e)))

pub no_return : (line end : List ℕ) → end ≡ 13 ∷ [] → ((front : List ℕ) → line ≢ front ++ end) → line ≡ without_return line
no_return line end e h = keeps line (λ front is. h front (is ∙ ap (λ t. front ++ t) (sym e)))

pub next_line_is : (text line more end : List ℕ) → IsCutAtFirst 10 text line more → end ≡ without_return line → lines text ≡ end ∷ lines more
next_line_is text line more end h is = ap lines h.is ∙ lines-line line more h.first ∙ ap (λ l. l ∷ lines more) (sym is)

-- the last line, which has no end
filled : (text : List ℕ) → (text ≡ [] → ⊥) → (c : ℕ) × (more : List ℕ) × (text ≡ c ∷ more)
filled [] h = absurd (h refl)
filled (c ∷ more) h = (c, more, refl)

pub last_line_is : (text : List ℕ) → (text ≡ [] → ⊥) → Lacks 10 text → lines text ≡ text ∷ lines (chars [])
last_line_is text some none =
    let (c, more, is) = filled text some in
    ap lines is ∙ lines-unbroken c more (sym (ap (list_any is_end) is) ∙ none) ∙ ap (λ t. t ∷ []) (sym is) ∙ ap (λ e. text ∷ lines e) (sym chars-nil)

pub last_ended_is : (text : List ℕ) → (text ≡ [] → ⊥) → Lacks 10 text → ended_lines text ≡ text ∷ ended_lines (chars [])
last_ended_is text some none =
    let (c, more, is) = filled text some in
    ap ended_lines is ∙ ended-unbroken c more (sym (ap (list_any is_end) is) ∙ none) ∙ ap (λ t. t ∷ []) (sym is) ∙ ap (λ e. text ∷ ended_lines e) (sym chars-nil)

pub last_shorter : (text : List ℕ) → (text ≡ [] → ⊥) → length (chars []) < length text
last_shorter text some = let (c, more, is) = filled text some in omega (arith, ap length is, ap length chars-nil)

pub some_bytes : (bs : List ℕ) → (length bs ≡ 0 → ⊥) → IsUtf8 bs → chars bs ≡ [] → ⊥
some_bytes bs some u none = some (ap length (sym (encodes-chars bs u) ∙ ap encodes none))

pub no_bytes : (bs : List ℕ) → length bs ≡ 0 → chars bs ≡ []
no_bytes [] none = chars-nil
no_bytes (b ∷ bs) none = absurd (cc)

pub one_return : chars (13 ∷ []) ≡ 13 ∷ []
unfolding chars
one_return = refl

-- the first line, with its end, and what follows
pub record SplitsLine (text line more : List ℕ) : Type 0 where
  pub cut : ended_lines (chars text) ≡ chars line ∷ ended_lines (chars more)
  pub shorter : length (chars more) < length (chars text)

pub splits_line : (s line more : List ℕ) (i : ℕ) → IsUtf8 s → IsFirstByte 10 s i → line ≡ take (i + 1) s → more ≡ drop (i + 1) s → SplitsLine s line more
splits_line s line more i u e line_is more_is =
    let j : ℕ = i + 1 in
    let none = e.first.0 in
    let p = parted 10 s (take i s) more i j u refl e.first.1 refl more_is e.before.0 in
    let whole : IsUtf8 (take j s) = IsUtf8-take s j u e.after in
    let before : List ℕ = chars (take i s) in
    let is : chars s ≡ chars line ++ chars more =
    ap chars (sym (take-append-drop j s)) ∙ chars-append (take j s) (drop j s) whole
    ∙ ap (λ t. chars t ++ chars (drop (i + 1) s)) (sym line_is) ∙ ap (λ t. chars line ++ chars t) (sym more_is) in
    let line_chars : chars line ≡ before ++ 10 ∷ [] =
    append_cancel_right (chars line) (before ++ 10 ∷ []) (chars more) (sym is ∙ p.is ∙ sym (append_assoc before (10 ∷ []) (chars more))) in
    let first : Lacks 10 before = lacks 10 (take i s) p.front none in
    record {
      cut = ap ended_lines p.is ∙ ended-line before (chars more) first ∙ ap (λ l. l ∷ ended_lines (chars more)) (sym line_chars);
      shorter = p.back_shorter;
    }

-- Texts between double quotes, character by character.
use Rattle.snap_emit_values.proofs.Prelude.{◌≡◌, ℕ, ◌+◌, ◌*◌, ◌<◌, ◌≤◌, ◌^◌, List, [], ◌∷◌, ◌++◌, Bool, true, false, if◌then◌else◌, length, sym, ap, ◌∙◌, append_assoc, arith, length-append, lit≤, ◌==◌, ◌||◌, nat_lt, flat_map, escaped, escaped_code, quoted, spell_text, needs_quotes, chars, IsUtf8, encodes-chars, length-le-encodes, IsBegun}
use Rattle.snap_emit_values.proofs.Begun.{begun_first, begun_then, begun_as}

-- a quoted text that failed within one of its pieces
pub quoted_at : (old opened mid new done all piece more : List ℕ) → opened ≡ old ++ 34 ∷ [] → mid ≡ opened ++ done
    → flat_map escaped all ≡ done ++ (piece ++ more) → IsBegun mid new piece → IsBegun old new (quoted all)
quoted_at old opened mid new done all piece more first added split h =
    begun_as old new ((34 ∷ []) ++ (done ++ (piece ++ (more ++ 34 ∷ [])))) (quoted all)
    (ap (λ x. 34 ∷ x) (sym (ap (λ x. x ++ 34 ∷ []) split ∙ append_assoc done (piece ++ more) (34 ∷ [])
    ∙ ap (λ x. done ++ x) (append_assoc piece more (34 ∷ [])))))
    (begun_then old opened new (34 ∷ []) (done ++ (piece ++ (more ++ 34 ∷ []))) first
    (begun_then opened mid new done (piece ++ (more ++ 34 ∷ [])) added (begun_first mid new piece (more ++ 34 ∷ []) h)))

either : (b : Bool) (x y : List ℕ) → length x ≤ 6 → length y ≤ 6 → length (if b then x else y) ≤ 6
either true x y h k = h
either false x y h k = k

-- the tests of `escaped`, from the last one on
abbrev coded : ℕ → List ℕ
coded c = if nat_lt c 32 || c == 127 then escaped_code c else c ∷ []

pair_or : (b : Bool) (m n : ℕ) (y : List ℕ) → length y ≤ 6 → length (if b then m ∷ n ∷ [] else y) ≤ 6
pair_or b m n y h = either b (m ∷ n ∷ []) y (lit≤ tt) h

pub escaped-short : (c : ℕ) → length (escaped c) ≤ 6
escaped-short c =
    pair_or (c == 34) _ _ _ (pair_or (c == 92) _ _ _ (pair_or (c == 8) _ _ _ (pair_or (c == 9) _ _ _ (pair_or (c == 10) _ _ _
    (pair_or (c == 12) _ _ _ (pair_or (c == 13) _ _ _ (either (nat_lt c 32 || c == 127) (escaped_code c) (c ∷ []) (lit≤ tt) (lit≤ tt))))))))

quoted-short : (cs : List ℕ) → length (flat_map escaped cs) ≤ 6 * length cs
quoted-short [] = omega arith
quoted-short (c ∷ cs) =
    let here = escaped-short c in
    let below = quoted-short cs in
    let split = length-append (escaped c) (flat_map escaped cs) in
    omega (arith, here, below, split)

spelled_either : (b : Bool) (cs : List ℕ) → length (if b then quoted cs else cs) ≤ 6 * length cs + 2
spelled_either true cs =
    let inner = quoted-short cs in
    let split = length-append (flat_map escaped cs) (34 ∷ []) in
    omega (arith, inner, split)
spelled_either false cs = omega arith

-- how long a text of few bytes is written
pub few_bytes : (bs : List ℕ) → IsUtf8 bs → length bs ≤ 170 → length (spell_text (chars bs)) ≤ 1024
few_bytes bs u few =
    let written = spelled_either (needs_quotes (chars bs)) (chars bs) in
    let counted = length-le-encodes (chars bs) in
    let same = ap length (encodes-chars bs u) in
    omega (arith, written, counted, same, few)

-- a count on its way to the length of a quoted text
pub counted_below : (count n : ℕ) (all rest next : List ℕ) (c : ℕ) → count + length (flat_map escaped rest) ≡ 2 + length (flat_map escaped all)
    → rest ≡ c ∷ next → n ≡ length (escaped c) → length all < 2 ^ 64 → count + n < 2 ^ 128
counted_below count n all rest next c counted front is small =
    let short = quoted-short all in
    let split = ap (λ x. length (flat_map escaped x)) front ∙ length-append (escaped c) (flat_map escaped next) in
    omega (arith, counted, is, small, short, split)

-- a text of few bytes that needs no quotes is as long as it is
pub bare_few_bytes : (bs : List ℕ) → IsUtf8 bs → length bs ≤ 1024 → needs_quotes (chars bs) ≡ false → length (spell_text (chars bs)) ≤ 1024
bare_few_bytes bs u few bare =
    let counted = length-le-encodes (chars bs) in
    let same = ap length (encodes-chars bs u) in
    let written = ap (λ b. length (if b then quoted (chars bs) else chars bs)) bare in
    omega (arith, counted, same, few, written)

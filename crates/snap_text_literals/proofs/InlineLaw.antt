-- What is written for an inline text that is its own normal form stands for that text.
use Rattle.snap_text_literals.proofs.Prelude.{◌≡◌, ◌==◌, ℕ, zero, suc, ◌+◌, ◌≤◌, List, [], ◌∷◌, ◌++◌, Bool, true, false, ◌||◌, cond, map, Result, Ok, Err, length, refl, sym, ap, ◌∙◌, arith, append-nil, list_any, list_all, flat_map, is_whitespace, IfOk, ends_badly, trimmed, unreturned, normal, is_return, is_hidden, line_parts, framed_line, spelled, meant, IsIndentation, shortest, indentation_of, from_byte, joined_from, is_short, normalized, inline_normal, lines-unbroken, onto, lines, is_line_end, map-append}
use Rattle.snap_text_literals.proofs.Trimming.{trimmed-well, well-trimmed}
use Rattle.snap_text_literals.proofs.Returns.{ends-unreturned, normal-once}
use Rattle.snap_text_literals.proofs.Free.{any-weaker, any-blank, free-shown}
use Rattle.snap_text_literals.proofs.Meanings.{return_hidden, reads}
use Rattle.snap_text_literals.proofs.WellEnded.{IsWell, EndsWell, AreClean, behind, whole, well-cons, well-pieces, clean-pieces, some-pieces, whole-pieces, well-whole, lines-whole, lines-more}
use Rattle.snap_text_literals.proofs.Leads.{indent, framed-behind, ends-indented, clean-indented, trimmed-space, space-indentation, from_byte-past, from_byte-indented, joined-whole, from_byte-zeros, whole-append, length-trimmed, length-unreturned, whole-less, shortest-indented}
use Rattle.snap_text_literals.specs.OfLiteral.{without_empty, of_literal, ComesBack}
use Rattle.std.proofs.lemmas.Bool.{or_right}

record IsTwo (ls : List (List ℕ)) : Type 0 where
  first : List ℕ
  second : List ℕ
  rest : List (List ℕ)
  is : ls ≡ first ∷ second ∷ rest

two_put : (c : ℕ) (ls : List (List ℕ)) (b : Bool) → IsTwo ls → IsTwo (cond b ([] ∷ ls) (onto c ls))
two_put c [] b h = let e = h.is in absurd (cc e)
two_put c (l ∷ []) b h = let e = h.is in absurd (cc e)
two_put c (l ∷ m ∷ ls) true h = record { first = []; second = l; rest = m ∷ ls; is = refl }
two_put c (l ∷ m ∷ ls) false h = record { first = c ∷ l; second = m; rest = ls; is = refl }

two_step : (c : ℕ) (cs : List ℕ) (b : Bool) → (b || list_any is_line_end cs) ≡ true → (list_any is_line_end cs ≡ true → IsTwo (line_parts cs)) → IsTwo (cond b ([] ∷ line_parts cs) (onto c (line_parts cs)))
two_step c cs true h next = let s = some-pieces cs in record { first = []; second = s.0; rest = s.1; is = ap (λ r. [] ∷ r) s.2 }
two_step c cs false h next = two_put c (line_parts cs) false (next h)

two-pieces : (text : List ℕ) → list_any is_line_end text ≡ true → IsTwo (line_parts text)
two-pieces [] h = absurd (cc)
two-pieces (c ∷ cs) h = two_step c cs (c == 10) h (two-pieces cs)

-- a text that is its own inline normal form
well_text : (text : List ℕ) → inline_normal text ≡ text → ends_badly text ≡ false
well_text text h = sym (ap ends_badly h) ∙ ends-unreturned (trimmed (normalized text)) (well-trimmed (normalized text))

trimmed_text : (text : List ℕ) → inline_normal text ≡ text → trimmed text ≡ text
trimmed_text text h = trimmed-well text (well_text text h)

normal_text : (text : List ℕ) → inline_normal text ≡ text → normal text ≡ text
normal_text text h = ap normal (sym h) ∙ normal-once (normalized text) ∙ h

no_lead : (k : ℕ) (text : List ℕ) (ls : List (List ℕ)) → EndsWell ls → whole ls ≡ text → length text ≤ length (whole (map (from_byte k) ls)) → k ≡ 0
no_lead zero text ls w e h = refl
no_lead (suc k) text ls w e h = absurd (omega (arith, whole-less k ls w, ap length e, h))

zero_lead : (text l m : List ℕ) (rest : List (List ℕ)) → AreClean (l ∷ m ∷ rest) → EndsWell (l ∷ m ∷ rest) → whole (l ∷ m ∷ rest) ≡ text → inline_normal text ≡ text
    → length (shortest false [] (l ∷ m ∷ rest)) ≡ 0
zero_lead text l m rest c w e h =
    let ls : List (List ℕ) = l ∷ m ∷ rest in
    let lines_are : lines text ≡ ls = ap lines (sym e) ∙ lines-whole ls c w in
    let lines_trim : lines (trimmed text) ≡ ls = ap lines (trimmed_text text h) ∙ lines_are in
    let k : ℕ = length (shortest false [] ls) in
    let made : normalized text ≡ whole (map (from_byte k) ls) =
    ap (λ x. cond (is_short x) (trimmed text) (joined_from (length (shortest false [] x)) (lines text))) lines_trim
    ∙ ap (joined_from k) lines_are ∙ joined-whole k ls in
    let shorter : length (inline_normal text) ≤ length (normalized text) = omega (arith, length-unreturned (trimmed (normalized text)), length-trimmed (normalized text)) in
    no_lead k text ls w e (omega (arith, shorter, ap length h, ap length made))

-- the last line of a frame, the indentation, is white space
space_end : (indentation : List ℕ) → IsIndentation indentation → list_any is_line_end indentation ≡ false → list_all is_whitespace (flat_map behind (lines indentation)) ≡ true
space_end [] h n = refl
space_end (c ∷ cs) h n = rw (lines-unbroken c cs n, append-nil cs) (space-indentation (c ∷ cs) h)

space_cut : (indentation : List ℕ) → IsIndentation indentation → list_any is_line_end indentation ≡ false
    → list_all is_whitespace (flat_map behind (map (from_byte (length indentation)) (lines indentation))) ≡ true
space_cut [] h n = refl
space_cut (c ∷ cs) h n =
    ap (λ r. list_all is_whitespace (flat_map behind (map (from_byte (suc (length cs))) r))) (lines-unbroken c cs n)
    ∙ ap (λ r. list_all is_whitespace (flat_map behind (r ∷ [])))
    (ap (from_byte (suc (length cs))) (sym (append-nil (c ∷ cs))) ∙ from_byte-past (c ∷ cs) [] h)

lines_framed : (indentation x : List ℕ) (xs : List (List ℕ)) → list_any is_line_end indentation ≡ false → AreClean (x ∷ xs) → EndsWell (x ∷ xs)
    → lines (whole ((x ∷ xs) ++ lines indentation)) ≡ (x ∷ xs) ++ lines indentation
lines_framed [] x xs n c w = ap (λ r. lines (whole r)) (append-nil (x ∷ xs)) ∙ lines-whole (x ∷ xs) c w ∙ sym (append-nil (x ∷ xs))
lines_framed (i ∷ is) x xs n c w =
    ap (λ r. lines (whole ((x ∷ xs) ++ r))) (lines-unbroken i is n) ∙ ap lines (whole-append x xs ((i ∷ is) ∷ []))
    ∙ ap (λ e. lines (whole (x ∷ xs) ++ e)) (append-nil (10 ∷ i ∷ is)) ∙ lines-more x xs (i ∷ is) c

-- the text of the frame's literal
of_framed : (indentation x y : List ℕ) (zs : List (List ℕ)) → IsIndentation indentation → AreClean (x ∷ y ∷ zs) → EndsWell (x ∷ y ∷ zs)
    → list_any is_hidden (10 ∷ (whole (x ∷ y ∷ zs) ++ 10 ∷ indentation)) ≡ false
    → of_literal (10 ∷ (whole (x ∷ y ∷ zs) ++ 10 ∷ indentation)) ≡ whole ((x ∷ y ∷ zs) ++ lines indentation)
of_framed indentation x y zs i c w hidden =
    let xs : List (List ℕ) = x ∷ y ∷ zs in
    let t : List ℕ = 10 ∷ (whole xs ++ 10 ∷ indentation) in
    let well : IsWell (10 ∷ whole xs) = well-cons 10 (whole xs) (well-whole xs w) in
    let trim : trimmed t ≡ 10 ∷ whole xs = trimmed-space (10 ∷ whole xs) (10 ∷ indentation) (space-indentation indentation i) ∙ trimmed-well (10 ∷ whole xs) well.well in
    let short : is_short (lines (trimmed t)) ≡ false = ap (λ s. is_short (lines s)) trim ∙ ap (λ r. is_short ([] ∷ r)) (lines-whole xs c w) in
    rw (short, hidden, lines-more x (y ∷ zs) indentation c) (joined-whole 0 (xs ++ lines indentation) ∙ ap whole (from_byte-zeros (xs ++ lines indentation)))

back : (indentation text l m : List ℕ) (rest : List (List ℕ)) → IsIndentation indentation → list_any is_line_end indentation ≡ false → list_any is_return indentation ≡ false
    → AreClean (l ∷ m ∷ rest) → EndsWell (l ∷ m ∷ rest) → whole (l ∷ m ∷ rest) ≡ text → inline_normal text ≡ text
    → inline_normal (whole (map (indent indentation) (l ∷ m ∷ rest) ++ lines indentation)) ≡ text
back indentation text l m rest i n r c w e h =
    let ls : List (List ℕ) = l ∷ m ∷ rest in
    let x : List ℕ = indent indentation l in
    let xs : List (List ℕ) = map (indent indentation) (m ∷ rest) in
    let clean : AreClean (x ∷ xs) = clean-indented indentation ls n r c in
    let well : EndsWell (x ∷ xs) = ends-indented indentation ls w in
    let y : List ℕ = whole ((x ∷ xs) ++ lines indentation) in
    let trim_y : trimmed y ≡ whole (x ∷ xs) =
    ap trimmed (whole-append x xs (lines indentation)) ∙ trimmed-space (whole (x ∷ xs)) (flat_map behind (lines indentation)) (space_end indentation i n)
    ∙ (let done : IsWell (whole (x ∷ xs)) = well-whole (x ∷ xs) well in trimmed-well (whole (x ∷ xs)) done.well) in
    let lines_trim : lines (trimmed y) ≡ x ∷ xs = ap lines trim_y ∙ lines-whole (x ∷ xs) clean well in
    let lead_width : length (shortest false [] (x ∷ xs)) ≡ length indentation + length (shortest false [] ls) = shortest-indented indentation ls i w in
    let width : length (indentation_of y) ≡ length indentation =
    ap (λ s. length (shortest false [] s)) lines_trim ∙ omega (arith, lead_width, zero_lead text l m rest c w e h) in
    let cut : List (List ℕ) = map (from_byte (length indentation)) (lines indentation) in
    let made : normalized y ≡ whole ls ++ flat_map behind cut =
    ap (λ s. cond (is_short s) (trimmed y) (joined_from (length (indentation_of y)) (lines y))) lines_trim ∙ ap (λ k. joined_from k (lines y)) width
    ∙ ap (joined_from (length indentation)) (lines_framed indentation x xs n clean well) ∙ joined-whole (length indentation) ((x ∷ xs) ++ lines indentation)
    ∙ ap whole (map-append (from_byte (length indentation)) (x ∷ xs) (lines indentation) ∙ ap (λ s. s ++ cut) (from_byte-indented indentation ls i))
    ∙ whole-append l (m ∷ rest) cut in
    ap normal made ∙ ap unreturned (trimmed-space (whole ls) (flat_map behind cut) (space_cut indentation i n)) ∙ ap normal e ∙ normal_text text h

short_unbroken : (text : List ℕ) → list_any is_line_end text ≡ false → is_short (lines text) ≡ true
short_unbroken [] h = refl
short_unbroken (c ∷ cs) h = ap is_short (lines-unbroken c cs h)

well_broken : (text : List ℕ) → list_any is_line_end text ≡ true → ends_badly text ≡ false → EndsWell (line_parts text)
well_broken [] b h = absurd (cc)
well_broken (c ∷ cs) b h = well-pieces c cs h

broken : (indentation text : List ℕ) (t : IsTwo (line_parts text)) → IsIndentation indentation → inline_normal text ≡ text → list_any is_hidden text ≡ false → list_any is_line_end text ≡ true
    → list_any is_hidden (flat_map (framed_line indentation) (line_parts text) ++ 10 ∷ indentation) ≡ false
    → inline_normal (of_literal (flat_map (framed_line indentation) (line_parts text) ++ 10 ∷ indentation)) ≡ text
broken indentation text t i h hidden ends free =
    let ls : List (List ℕ) = t.first ∷ t.second ∷ t.rest in
    let n : list_any is_line_end indentation ≡ false = any-blank is_line_end refl refl indentation i in
    let r : list_any is_return indentation ≡ false = any-blank is_return refl refl indentation i in
    let clean : AreClean ls = rw t.is at (clean-pieces text (any-weaker is_hidden is_return return_hidden text hidden)) in
    let well : EndsWell ls = rw t.is at (well_broken text ends (well_text text h)) in
    let whole_is : whole ls ≡ text = ap whole (sym t.is) ∙ whole-pieces text in
    let x : List ℕ = indent indentation t.first in
    let y : List ℕ = indent indentation t.second in
    let zs : List (List ℕ) = map (indent indentation) t.rest in
    let frame : flat_map (framed_line indentation) (line_parts text) ++ 10 ∷ indentation ≡ 10 ∷ (whole (x ∷ y ∷ zs) ++ 10 ∷ indentation) =
    ap (λ s. flat_map (framed_line indentation) s ++ 10 ∷ indentation) t.is ∙ ap (λ s. s ++ 10 ∷ indentation) (framed-behind indentation ls) in
    ap (λ s. inline_normal (of_literal s)) frame
    ∙ ap inline_normal (of_framed indentation x y zs i (clean-indented indentation ls n r clean) (ends-indented indentation ls well) (sym (ap (list_any is_hidden) frame) ∙ free))
    ∙ back indentation text t.first t.second t.rest i n r clean well whole_is h

pub inline-law : (indentation text : List ℕ) → IsIndentation indentation → inline_normal text ≡ text → inline_normal (of_literal (meant indentation text)) ≡ text
inline-law indentation text i h = by (list_any is_hidden text) (list_any is_line_end text) refl refl
  where
    unchanged : (is_short (lines (trimmed text)) || list_any is_hidden text) ≡ true → inline_normal (of_literal text) ≡ text
    unchanged e =
        ap inline_normal (ap (λ b. cond b (trimmed text) (joined_from 0 (without_empty (lines text)))) e ∙ trimmed_text text h) ∙ h

    by : (a b : Bool) → list_any is_hidden text ≡ a → list_any is_line_end text ≡ b
        → inline_normal (of_literal (cond a text (cond b (flat_map (framed_line indentation) (line_parts text) ++ 10 ∷ indentation) text))) ≡ text
    by true b e f = unchanged (or_right (is_short (lines (trimmed text))) (list_any is_hidden text) e)
    by false false e f =
        unchanged (ap (λ s. is_short (lines s) || list_any is_hidden text) (trimmed_text text h) ∙ ap (λ s. s || list_any is_hidden text) (short_unbroken text f))
    by false true e f =
        broken indentation text (two-pieces text f) i h e f
        (sym (ap (λ b. list_any is_hidden (cond b (flat_map (framed_line indentation) (line_parts text) ++ 10 ∷ indentation) text)) f)
        ∙ free-shown is_hidden indentation text refl (any-blank is_hidden refl refl indentation i) e)

pub comes-back : (literal indentation text : List ℕ) → literal ≡ spelled indentation (inline_normal text) → ComesBack literal indentation text
comes-back literal indentation text is i h =
    let n = inline_normal text in
    (meant indentation n, rw is (reads indentation n i), inline-law indentation n i h)

pub comes-back-ok : {E : Type 0} (r : Result (List ℕ) E) (indentation text : List ℕ) → IfOk r (λ made. made ≡ spelled indentation (inline_normal text)) → IfOk r (λ made. ComesBack made indentation text)
comes-back-ok (Ok made) indentation text h = comes-back made indentation text h
comes-back-ok (Err e) indentation text h = tt

-- Normal forms of printed texts.
use Rattle.snap_text.proofs.Prelude.{◌≡◌, ◌==◌, ℕ, List, [], ◌∷◌, ◌++◌, Bool, false, ◌||◌, refl, sym, ap, ◌∙◌, append_assoc, append-nil, list_any, flat_map, subst, true, ended, Plain, IsWithin, Blocks, text_of, IsLine, AreRows, EndsWell, is_trimmed, is_break, normal, or_left, or_right}
use Rattle.snap_text.specs.Normal.{trimmed}
use Rattle.snap_text_literals.proofs.Returns.{unreturned-free}
use Rattle.snap_print.proofs.Rows.{printed-rows, printed-end, printed-first}
use Rattle.snap_text.proofs.Trimming.{trimmed-well, trimmed-push, trimmed-behind}

-- a text, trimmed: it is not empty, and only its last line's end is gone
record IsTrimmedLess (text : List ℕ) : Type 0 where
  first : ℕ
  more : List ℕ
  is : trimmed text ≡ first ∷ more
  less : trimmed text ++ 10 ∷ [] ≡ text

last_line : (line : List ℕ) → IsLine line → IsTrimmedLess (ended line ++ [])
last_line line h =
    let e : trimmed (ended line ++ []) ≡ line = ap trimmed (append-nil (ended line)) ∙ trimmed-push line 10 refl ∙ trimmed-well line h.trimmed in
    record { first = h.first; more = h.more; is = e ∙ h.is; less = ap (λ t. t ++ 10 ∷ []) e ∙ sym (append-nil (ended line)) }

-- a line with its end, and more, has a first character
record IsBegun (line rest : List ℕ) : Type 0 where
  first : ℕ
  more : List ℕ
  is : ended line ++ rest ≡ first ∷ more

begun : (line rest : List ℕ) → IsBegun line rest
begun [] rest = record { first = 10; more = rest; is = refl }
begun (c ∷ cs) rest = record { first = c; more = ended cs ++ rest; is = refl }

further_line : (line text : List ℕ) → IsTrimmedLess text → IsTrimmedLess (ended line ++ text)
further_line line text t =
    let e : trimmed (ended line ++ text) ≡ ended line ++ t.first ∷ t.more = trimmed-behind (ended line) text t.first t.more t.is in
    let b = begun line (t.first ∷ t.more) in
    record {
      first = b.first;
      more = b.more;
      is = e ∙ b.is;
      less = ap (λ x. x ++ 10 ∷ []) e ∙ append_assoc (ended line) (t.first ∷ t.more) (10 ∷ []) ∙ ap (λ x. ended line ++ x) (ap (λ x. x ++ 10 ∷ []) (sym t.is) ∙ t.less);
    }

trimmed_rows : (line : List ℕ) (lines : List (List ℕ)) → EndsWell (line ∷ lines) → IsTrimmedLess (flat_map ended (line ∷ lines))
trimmed_rows line [] h = last_line line h
trimmed_rows line (next ∷ lines) h = further_line line (flat_map ended (next ∷ lines)) (trimmed_rows next lines h)

-- no return stands in a printed text
abbrev is_return : ℕ → Bool
is_return c = c == 13

free-append : (xs ys : List ℕ) → list_any is_return xs ≡ false → list_any is_return ys ≡ false → list_any is_return (xs ++ ys) ≡ false
free-append [] ys h k = k
free-append (x ∷ xs) ys h k =
    ap (λ b. b || list_any is_return (xs ++ ys)) (or_left (is_return x) (list_any is_return xs) h)
    ∙ free-append xs ys (or_right (is_return x) (list_any is_return xs) h) k

free_front : (xs ys : List ℕ) → list_any is_return (xs ++ ys) ≡ false → list_any is_return xs ≡ false
free_front [] ys h = refl
free_front (x ∷ xs) ys h =
    ap (λ b. b || list_any is_return xs) (or_left (is_return x) (list_any is_return (xs ++ ys)) h)
    ∙ free_front xs ys (or_right (is_return x) (list_any is_return (xs ++ ys)) h)

free_line : (line : List ℕ) → list_any is_break line ≡ false → list_any is_return line ≡ false
free_line [] h = refl
free_line (c ∷ cs) h =
    ap (λ b. b || list_any is_return cs) (or_right (c == 10) (c == 13) (or_left (is_break c) (list_any is_break cs) h))
    ∙ free_line cs (or_right (is_break c) (list_any is_break cs) h)

free_rows : (lines : List (List ℕ)) → AreRows lines → list_any is_return (flat_map ended lines) ≡ false
free_rows [] h = refl
free_rows (line ∷ lines) h =
    free-append (ended line) (flat_map ended lines) (free-append line (10 ∷ []) (free_line line h.0.unbroken) refl) (free_rows lines h.1)

-- the normal form of rows the last of which ends well is their text without its last line's end
pub normal-rows : (line : List ℕ) (lines : List (List ℕ)) → AreRows (line ∷ lines) → EndsWell (line ∷ lines)
    → normal (flat_map ended (line ∷ lines)) ++ 10 ∷ [] ≡ flat_map ended (line ∷ lines)
normal-rows line lines rows ends =
    let text = flat_map ended (line ∷ lines) in
    let less = trimmed_rows line lines ends in
    let free = free_front (trimmed text) (10 ∷ []) (ap (list_any is_return) less.less ∙ free_rows (line ∷ lines) rows) in
    ap (λ t. t ++ 10 ∷ []) (unreturned-free (trimmed text) free) ∙ less.less

-- a printed text, where the end is trimmed
pub normal-printed : (w : Blocks) (p : Plain) → is_trimmed w ≡ true → IsWithin p → normal (text_of w p) ++ 10 ∷ [] ≡ text_of w p
normal-printed w p t h =
    let f = printed-first p w h in
    let P : List (List ℕ) → Type 0 = λ ls. normal (flat_map ended ls) ++ 10 ∷ [] ≡ flat_map ended ls in
    subst P (sym f.is) (normal-rows f.first f.others (subst AreRows f.is (printed-rows w p h)) (subst EndsWell f.is (printed-end w p t h)))

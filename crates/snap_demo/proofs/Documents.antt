-- Printed documents, one behind the other, are cut into these.
use Rattle.snap_demo.proofs.Prelude.{◌≡◌, ◌⊎◌, inl, inr, ℕ, ◌<◌, ◌≤◌, List, [], ◌∷◌, ◌++◌, map, length, Bool, true, false, ◌||◌, ◌&&◌, ◌==◌, refl, sym, ap, ◌∙◌, subst, arith, nat_tests, append_assoc, append-nil, list_any, flat_map, scalar, scalars, encode, encodes, encodes-append, codes, if◌then◌else◌}
use Rattle.std.proofs.lemmas.Bool.{cases_lt}
use Rattle.std.proofs.lemmas.Str.{encode_ascii, chars-encodes, length-encode, len_utf8_bounds}
use Rattle.std.specs.Str.{IsUtf8}
use Rattle.snap_content.proofs.Booleans.{or_left, or_right}
use Rattle.snap_content.specs.Front.{begins}
use Rattle.snap_content.specs.Lines.{ended}
use Rattle.snap_content.specs.Plain.{Plain}
use Rattle.snap_print.specs.Blocks.{off}
use Rattle.snap_print.specs.Lines.{lines_of, text_of, document_of}
use Rattle.snap_print.specs.Printed.{IsRow, AreRows, is_break, begins_dashes}
use Rattle.snap_run_requests.specs.Cut.{ends_line, ends_returned, begins_document, documents}
use Rattle.snap_str.proofs.AsciiBytes.{IsOfAscii, any_of_bytes}
use Rattle.snap_str.specs.Lines.{onto}
use Rattle.snap_demo.proofs.Scalars.{AreOfCharacters}

-- the bytes end in a line's end, and no line behind the first begins a document
abbrev pub IsOne : List ℕ → Type 0
IsOne [] = ⊥
IsOne (b ∷ []) = b ≡ 10
IsOne (b ∷ c ∷ bs) = ((b == 10 && begins_document (c ∷ bs)) ≡ false) × IsOne (c ∷ bs)

and_false : (a : Bool) → (a && false) ≡ false
and_false true = refl
and_false false = refl

three : (a b c : Bool) (r : Bool) → c ≡ false → ((a && b && c) && r) ≡ false
three true true c r e = ap (λ x. x && r) e
three true false c r e = refl
three false b c r e = refl

begins_two : (a b c : ℕ) (bs : List ℕ) → (b == 45) ≡ false → begins_document (a ∷ b ∷ c ∷ bs) ≡ false
begins_two a b c bs e = by (a == 45) (b == 45) e
  where
    by : (x y : Bool) → y ≡ false → ((x && y && (c == 45)) && (ends_line bs || ends_returned bs)) ≡ false
    by true y e = ap (λ y. (y && (c == 45)) && (ends_line bs || ends_returned bs)) e
    by false y e = refl

-- what stands behind such bytes does not change whether they begin a document
begins_far : (bs rest : List ℕ) → IsOne bs → begins_document (bs ++ rest) ≡ begins_document bs
begins_far [] rest one = absurd one
begins_far (b ∷ []) rest one = ap (λ x. begins_document (x ∷ rest)) one ∙ short rest
  where
    short : (rest : List ℕ) → begins_document (10 ∷ rest) ≡ false
    short [] = refl
    short (x ∷ []) = refl
    short (x ∷ y ∷ rest) = refl
begins_far (b ∷ c ∷ []) rest one = ap (λ x. begins_document (b ∷ x ∷ rest)) one.1 ∙ short rest
  where
    short : (rest : List ℕ) → begins_document (b ∷ 10 ∷ rest) ≡ false
    short [] = refl
    short (y ∷ rest) = begins_two b 10 y rest refl
begins_far (b ∷ c ∷ d ∷ []) rest one =
    ap (λ x. (b == 45 && c == 45 && x == 45) && (ends_line rest || ends_returned rest)) one.1.1 ∙ three (b == 45) (c == 45) false (ends_line rest || ends_returned rest) refl
    ∙ sym (ap (λ x. (b == 45 && c == 45 && x == 45) && true) one.1.1 ∙ three (b == 45) (c == 45) false true refl)
begins_far (b ∷ c ∷ d ∷ e ∷ []) rest one =
    ap (λ x. (b == 45 && c == 45 && d == 45) && ((x == 10) || (x == 13 && ends_line rest))) one.1.1.1
    ∙ sym (ap (λ x. (b == 45 && c == 45 && d == 45) && ((x == 10) || (x == 13 && true))) one.1.1.1)
begins_far (b ∷ c ∷ d ∷ e ∷ f ∷ bs) rest one = refl

-- such bytes, before what begins a document or before nothing, are the first document
pub documents_one : (bs rest : List ℕ) → IsOne bs → (rest ≡ []) ⊎ (begins_document rest ≡ true) → documents (bs ++ rest) ≡ bs ∷ documents rest
documents_one [] rest one next = absurd one
documents_one (b ∷ []) rest one (inl none) =
    ap (λ x. documents (b ∷ x)) none ∙ ap (λ x. if x == 10 && false then (x ∷ []) ∷ [] else (x ∷ []) ∷ []) one ∙ sym (ap (λ x. (x ∷ []) ∷ documents rest) one ∙ ap (λ r. (10 ∷ []) ∷ documents r) none)
documents_one (b ∷ []) rest one (inr begins) =
    ap (λ x. if x == 10 && begins_document rest then (x ∷ []) ∷ documents rest else onto x (documents rest)) one
    ∙ ap (λ t. if t then (10 ∷ []) ∷ documents rest else onto 10 (documents rest)) begins
    ∙ sym (ap (λ x. (x ∷ []) ∷ documents rest) one)
documents_one (b ∷ c ∷ bs) rest one next =
    ap (λ t. if b == 10 && t then (b ∷ []) ∷ documents (c ∷ bs ++ rest) else onto b (documents (c ∷ bs ++ rest))) (begins_far (c ∷ bs) rest one.1)
    ∙ ap (λ t. if t then (b ∷ []) ∷ documents (c ∷ bs ++ rest) else onto b (documents (c ∷ bs ++ rest))) one.0
    ∙ ap (λ t. onto b t) (documents_one (c ∷ bs) rest one.1 next)

-- a row of a printed text, as bytes
record IsByteRow (line : List ℕ) : Type 0 where
  pub unbroken : list_any (λ c. c == 10) line ≡ false
  pub no_dashes : begins_dashes line ≡ false

abbrev AreByteRows : List (List ℕ) → Type 0
AreByteRows [] = Unit {0}
AreByteRows (line ∷ lines) = IsByteRow line × AreByteRows lines

abbrev ended_each : List (List ℕ) → List ℕ
ended_each [] = []
ended_each (line ∷ lines) = line ++ 10 ∷ ended_each lines

not_both : (a b : Bool) (r : Bool) (s : Bool) → (a && b) ≡ false → ((a && b && r) && s) ≡ false
not_both true true r s e = cc
not_both true false r s e = refl
not_both false b r s e = refl

-- a row and more do not begin a document
row_begins_none : (line rest : List ℕ) → begins_dashes line ≡ false → begins_document (line ++ 10 ∷ rest) ≡ false
row_begins_none [] [] l = refl
row_begins_none [] (x ∷ []) l = refl
row_begins_none [] (x ∷ y ∷ rest) l = refl
row_begins_none (a ∷ []) [] l = refl
row_begins_none (a ∷ []) (x ∷ rest) l = begins_two a 10 x rest refl
row_begins_none (a ∷ b ∷ []) rest l = three (a == 45) (b == 45) false (ends_line rest || ends_returned rest) refl
row_begins_none (a ∷ b ∷ c ∷ bs) rest l = not_both (a == 45) (b == 45) (c == 45) (ends_line (bs ++ 10 ∷ rest) || ends_returned (bs ++ 10 ∷ rest)) l

no_and : (a b : Bool) → a ≡ false → (a && b) ≡ false
no_and true b e = cc
no_and false b e = refl

-- a piece of a row, its end, and what is one already or nothing
one_before : (line rest : List ℕ) → list_any (λ c. c == 10) line ≡ false → (rest ≡ []) ⊎ ((begins_document rest ≡ false) × IsOne rest) → IsOne (line ++ 10 ∷ rest)
one_before [] [] none next = refl
one_before [] (x ∷ rest) none (inl nothing) = cc
one_before [] (x ∷ rest) none (inr more) = (more.0, more.1)
one_before (a ∷ []) rest none next = (no_and (a == 10) (begins_document (10 ∷ rest)) (or_left (a == 10) false none), one_before [] rest refl next)
one_before (a ∷ b ∷ line) rest none next = (
  no_and (a == 10) (begins_document (b ∷ line ++ 10 ∷ rest)) (or_left (a == 10) (list_any (λ c. c == 10) (b ∷ line)) none),
  one_before (b ∷ line) rest (or_right (a == 10) (list_any (λ c. c == 10) (b ∷ line)) none) next,
)

behind_row : (lines : List (List ℕ)) → AreByteRows lines → (ended_each lines ≡ []) ⊎ ((begins_document (ended_each lines) ≡ false) × IsOne (ended_each lines))
behind_row [] all = inl refl
behind_row (line ∷ lines) all = inr (row_begins_none line (ended_each lines) all.0.no_dashes, one_before line (ended_each lines) all.0.unbroken (behind_row lines all.1))

-- from characters to bytes

break_only : (c : ℕ) → is_break c ≡ false → (c == 10) ≡ false
break_only c h = or_left (c == 10) (c == 13) h

unbroken_only : (line : List ℕ) → list_any is_break line ≡ false → list_any (λ c. c == 10) line ≡ false
unbroken_only [] h = refl
unbroken_only (c ∷ cs) h = rw (break_only c (or_left (is_break c) (list_any is_break cs) h)) (unbroken_only cs (or_right (is_break c) (list_any is_break cs) h))

wide_none : (m : ℕ) → m < 128 → IsOfAscii (λ c. c == m)
wide_none m small c wide = grind (arith, nat_tests)

same_found : (m : ℕ) (cs : List ℕ) → m < 128 → scalars cs ≡ true → list_any (λ c. c == m) (encodes cs) ≡ list_any (λ c. c == m) cs
same_found m cs small h =
    let utf8 : IsUtf8 (encodes cs) = (cs, (h, refl)) in
    any_of_bytes (λ c. c == m) (wide_none m small) (encodes cs) (encodes cs) utf8 refl ∙ ap (list_any (λ c. c == m)) (chars-encodes cs h)

first_not : (bs rest : List ℕ) → 0 < length bs → list_any (λ b. b == 45) bs ≡ false → begins 45 (bs ++ rest) ≡ false
first_not [] rest some none = absurd (omega (arith, some))
first_not (b ∷ bs) rest some none = or_left (b == 45) (list_any (λ b. b == 45) bs) none

dashes_not : (bs : List ℕ) → begins 45 bs ≡ false → begins_dashes bs ≡ false
dashes_not [] h = refl
dashes_not (b ∷ bs) h = no_and (b == 45) (begins 45 bs) h

-- a wide character begins with no dash
wide_first : (c : ℕ) (rest : List ℕ) → 128 ≤ c → scalars (c ∷ []) ≡ true → begins 45 (encode c ++ rest) ≡ false
wide_first c rest wide h =
    let lone : list_any (λ b. b == 45) (encode c) ≡ false =
    ap (list_any (λ b. b == 45)) (sym (append-nil (encode c))) ∙ same_found 45 (c ∷ []) (omega arith) h ∙ ap (λ b. b || false) (wide_none 45 (omega arith) c wide) in
    first_not (encode c) rest (omega (arith, length-encode c, (len_utf8_bounds c).0)) lone

lone_scalar : (a b : Bool) → (a && b) ≡ true → (a && true) ≡ true
lone_scalar true b h = refl
lone_scalar false b h = cc

later_scalars : (a b : Bool) → (a && b) ≡ true → b ≡ true
later_scalars true b h = h
later_scalars false b h = cc

first_same : (cs : List ℕ) → scalars cs ≡ true → begins 45 (encodes cs) ≡ begins 45 cs
first_same [] h = refl
first_same (c ∷ cs) h = by (cases_lt c 128)
  where
    by : (c < 128) ⊎ (128 ≤ c) → begins 45 (encode c ++ encodes cs) ≡ (c == 45)
    by (inl small) = ap (λ e. begins 45 (e ++ encodes cs)) (encode_ascii c small)
    by (inr wide) = wide_first c (encodes cs) wide (lone_scalar (scalar c) (scalars cs) h) ∙ sym (wide_none 45 (omega arith) c wide)

bytes_row : (line : List ℕ) → scalars line ≡ true → IsRow line → IsByteRow (encodes line)
bytes_row line h row = record { unbroken = same_found 10 line (omega arith) h ∙ unbroken_only line row.unbroken; no_dashes = dashes line h row.no_dashes }
  where
    dashes : (line : List ℕ) → scalars line ≡ true → begins_dashes line ≡ false → begins_dashes (encodes line) ≡ false
    dashes [] h none = refl
    dashes (c ∷ cs) h none = by (cases_lt c 128)
      where
        by : (c < 128) ⊎ (128 ≤ c) → begins_dashes (encode c ++ encodes cs) ≡ false
        by (inl small) = ap (λ e. begins_dashes (e ++ encodes cs)) (encode_ascii c small) ∙ ap (λ b. (c == 45) && b) (first_same cs (later_scalars (scalar c) (scalars cs) h)) ∙ none
        by (inr wide) = dashes_not (encode c ++ encodes cs) (wide_first c (encodes cs) wide (lone_scalar (scalar c) (scalars cs) h))

bytes_rows : (lines : List (List ℕ)) → AreOfCharacters lines → AreRows lines → AreByteRows (map encodes lines)
bytes_rows [] h rows = tt
bytes_rows (line ∷ lines) h rows = (bytes_row line h.0 rows.0, bytes_rows lines h.1 rows.1)

one_end : encodes (10 ∷ []) ≡ 10 ∷ []
unfolding lib.Utf8.encode
one_end = refl

ended_bytes : (lines : List (List ℕ)) → encodes (flat_map ended lines) ≡ ended_each (map encodes lines)
ended_bytes [] = refl
ended_bytes (line ∷ lines) =
    encodes-append (ended line) (flat_map ended lines) ∙ ap (λ t. t ++ encodes (flat_map ended lines)) (encodes-append line (10 ∷ []) ∙ ap (λ t. encodes line ++ t) one_end)
    ∙ append_assoc (encodes line) (10 ∷ []) (encodes (flat_map ended lines)) ∙ ap (λ t. encodes line ++ 10 ∷ t) (ended_bytes lines)

fence_bytes : (rest : List ℕ) → encodes (codes "---\n" ++ rest) ≡ 45 ∷ 45 ∷ 45 ∷ 10 ∷ encodes rest
unfolding lib.Utf8.encode
fence_bytes rest = refl

document_bytes : (p : Plain) → encodes (document_of off p) ≡ 45 ∷ 45 ∷ 45 ∷ 10 ∷ ended_each (map encodes (lines_of off p))
document_bytes p = fence_bytes (text_of off p) ∙ ap (λ t. 45 ∷ 45 ∷ 45 ∷ 10 ∷ t) (ended_bytes (lines_of off p))

-- a printed document is one, and begins one
pub printed_is_one : (p : Plain) → AreOfCharacters (lines_of off p) → AreRows (lines_of off p) → IsOne (encodes (document_of off p))
printed_is_one p h rows =
    subst IsOne (sym (document_bytes p)) (one_before (45 ∷ 45 ∷ 45 ∷ []) (ended_each (map encodes (lines_of off p))) refl (behind_row (map encodes (lines_of off p)) (bytes_rows (lines_of off p) h rows)))

pub printed_begins : (p : Plain) (rest : List ℕ) → begins_document (encodes (document_of off p) ++ rest) ≡ true
printed_begins p rest = ap (λ t. begins_document (t ++ rest)) (document_bytes p)

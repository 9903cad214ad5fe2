-- How far a walk came before it was out of memory.
use Rattle.snap_emit_values.proofs.Prelude.{◌≡◌, ℕ, zero, suc, ◌+◌, ◌<◌, Bool, true, false, if◌then◌else◌, List, [], ◌∷◌, ◌++◌, length, take, get_or, refl, sym, ap, ◌∙◌, arith, append_assoc, append-nil, take_more, flat_map-append, flat_map, IsBegun, Blocks, before_more, gap, break_at, mark_text, text_at, child_of, item_of, on_lines, list_text, key_of, pair_of, dict_text, is_simple, is_flat, spelled, Shape}
use Rattle.snap_emit_values.proofs.Begun.{added_twice, begun_first, begun_then, begun_as}

-- a piece and the beginning of the next line
abbrev pub ended_at : {X : Type 0} → ℕ → (X → List ℕ) → X → List ℕ
ended_at k before x = before x ++ break_at k

-- what stands after a beginning of a text
record Rest (front whole : List ℕ) : Type 0 where
  rest : List ℕ
  is : whole ≡ front ++ rest

-- pieces on lines of their own begin with some of them, each with its end
lines_front : {X : Type 0} (k : ℕ) (before last : X → List ℕ) (xs : List X) (i : ℕ) (x : X) → suc i < length xs → x ≡ get_or xs i x
    → Rest (flat_map (ended_at k before) (take i xs) ++ ended_at k before x) (on_lines k before last xs)
lines_front k before last [] i x below is = absurd (omega (arith, below))
lines_front k before last (y ∷ []) i x below is = absurd (omega (arith, below))
lines_front k before last (y ∷ z ∷ zs) zero x below is =
    record { rest = on_lines k before last (z ∷ zs); is = ap (λ t. ended_at k before t ++ on_lines k before last (z ∷ zs)) (sym is) }
lines_front k before last (y ∷ z ∷ zs) (suc i) x below is =
    let f = ended_at k before in
    let inner = lines_front k before last (z ∷ zs) i x (omega (arith, below)) is in
    record {
      rest = inner.rest;
      is = ap (λ t. f y ++ t) inner.is
          ∙ sym (append_assoc (f y) (flat_map f (take i (z ∷ zs)) ++ f x) inner.rest)
          ∙ ap (λ t. t ++ inner.rest) (sym (append_assoc (f y) (flat_map f (take i (z ∷ zs))) (f x)));
    }

-- they are all but the last, each with its end, and the last
lines_whole : {X : Type 0} (k : ℕ) (before last : X → List ℕ) (xs : List X) (n : ℕ) (x : X) → length xs ≡ suc n → x ≡ get_or xs n x
    → on_lines k before last xs ≡ flat_map (ended_at k before) (take n xs) ++ last x
lines_whole k before last [] n x long is = absurd (omega (arith, long))
lines_whole k before last (y ∷ []) zero x long is = ap last (sym is)
lines_whole k before last (y ∷ []) (suc n) x long is = absurd (omega (arith, long))
lines_whole k before last (y ∷ z ∷ zs) zero x long is = absurd (omega (arith, long))
lines_whole k before last (y ∷ z ∷ zs) (suc n) x long is =
    let f = ended_at k before in
    ap (λ t. f y ++ t) (lines_whole k before last (z ∷ zs) n x (omega (arith, long)) is)
    ∙ sym (append_assoc (f y) (flat_map f (take n (z ∷ zs))) (last x))

-- what a loop over pieces has added before the one at i
abbrev pub IsAdded : {X : Type 0} → ℕ → (X → List ℕ) → List X → ℕ → List ℕ → List ℕ → Type 0
IsAdded k before xs i old new = new ≡ old ++ flat_map (ended_at k before) (take i xs)

-- one more piece and its end
lines_more : {X : Type 0} (k : ℕ) (before : X → List ℕ) (xs : List X) (i : ℕ) (x : X) (old mid added new : List ℕ)
    → IsAdded k before xs i old mid → added ≡ mid ++ before x → new ≡ added ++ break_at k → i < length xs → x ≡ get_or xs i x
    → IsAdded k before xs (i + 1) old new
lines_more k before xs i x old mid added new so_far first second below is =
    let f = ended_at k before in
    let one : flat_map f (take (i + 1) xs) ≡ flat_map f (take i xs) ++ f x =
    ap (flat_map f) (take_more xs i x below) ∙ flat_map-append f (take i xs) (get_or xs i x ∷ [])
    ∙ ap (λ t. flat_map f (take i xs) ++ t) (append-nil (f (get_or xs i x)) ∙ ap f (sym is)) in
    added_twice old mid new (flat_map f (take i xs)) (f x) so_far (added_twice mid added new (before x) (break_at k) first second)
    ∙ ap (λ t. old ++ t) (sym one)

-- the loop failed within a piece or its end
begun_at : {X : Type 0} (k : ℕ) (before last : X → List ℕ) (xs : List X) (i : ℕ) (x : X) (old mid new : List ℕ)
    → IsAdded k before xs i old mid → suc i < length xs → x ≡ get_or xs i x → IsBegun mid new (ended_at k before x)
    → IsBegun old new (on_lines k before last xs)
begun_at k before last xs i x old mid new so_far below is h =
    let f = ended_at k before in
    let r = lines_front k before last xs i x below is in
    begun_as old new ((flat_map f (take i xs) ++ f x) ++ r.rest) (on_lines k before last xs) (sym r.is)
    (begun_first old new (flat_map f (take i xs) ++ f x) r.rest (begun_then old mid new (flat_map f (take i xs)) (f x) so_far h))

-- pieces on lines, each told where it stands
abbrev pub lines_in : {X : Type 0} → ℕ → (Blocks → X → List ℕ) → Blocks → List X → List ℕ
lines_in k piece w xs = on_lines k (piece (before_more w)) (piece w) xs

-- within a piece; u is the place that the code was told
pub begun_piece : {X : Type 0} (k : ℕ) (piece : Blocks → X → List ℕ) (u w : Blocks) (xs : List X) (i : ℕ) (x : X) (old mid new : List ℕ)
    → u ≡ before_more w → IsAdded k (piece (before_more w)) xs i old mid → suc i < length xs → x ≡ get_or xs i x → IsBegun mid new (piece u x)
    → IsBegun old new (lines_in k piece w xs)
begun_piece k piece u w xs i x old mid new same so_far below is h =
    begun_at k (piece (before_more w)) (piece w) xs i x old mid new so_far below is
    (begun_first mid new (piece (before_more w) x) (break_at k)
    (begun_as mid new (piece u x) (piece (before_more w) x) (ap (λ v. piece v x) same) h))

-- within a piece's end
pub begun_end : {X : Type 0} (k : ℕ) (piece : Blocks → X → List ℕ) (u w : Blocks) (xs : List X) (i : ℕ) (x : X) (old mid added new : List ℕ)
    → u ≡ before_more w → IsAdded k (piece (before_more w)) xs i old mid → suc i < length xs → x ≡ get_or xs i x → added ≡ mid ++ piece u x
    → IsBegun added new (break_at k) → IsBegun old new (lines_in k piece w xs)
begun_end k piece u w xs i x old mid added new same so_far below is first h =
    begun_at k (piece (before_more w)) (piece w) xs i x old mid new so_far below is
    (begun_then mid added new (piece (before_more w) x) (break_at k) (first ∙ ap (λ v. mid ++ piece v x) same) h)

-- after the loop, within the last piece
pub begun_last : {X : Type 0} (k : ℕ) (piece : Blocks → X → List ℕ) (w : Blocks) (xs : List X) (i n : ℕ) (x : X) (old mid new : List ℕ)
    → IsAdded k (piece (before_more w)) xs i old mid → i ≡ n → length xs ≡ suc n → x ≡ get_or xs n x → IsBegun mid new (piece w x)
    → IsBegun old new (lines_in k piece w xs)
begun_last k piece w xs i n x old mid new so_far end long is h =
    let before = piece (before_more w) in
    begun_as old new (flat_map (ended_at k before) (take n xs) ++ piece w x) (lines_in k piece w xs)
    (sym (lines_whole k before (piece w) xs n x long is))
    (begun_then old mid new (flat_map (ended_at k before) (take n xs)) (piece w x)
    (so_far ∙ ap (λ j. old ++ flat_map (ended_at k before) (take j xs)) end) h)

pub added_last : {X : Type 0} (k : ℕ) (piece : Blocks → X → List ℕ) (w : Blocks) (xs : List X) (i n : ℕ) (x : X) (old mid new : List ℕ)
    → IsAdded k (piece (before_more w)) xs i old mid → i ≡ n → length xs ≡ suc n → x ≡ get_or xs n x → new ≡ mid ++ piece w x
    → new ≡ old ++ lines_in k piece w xs
added_last k piece w xs i n x old mid new so_far end long is h =
    let before = piece (before_more w) in
    added_twice old mid new (flat_map (ended_at k before) (take n xs)) (piece w x)
    (so_far ∙ ap (λ j. old ++ flat_map (ended_at k before) (take j xs)) end) h
    ∙ ap (λ t. old ++ t) (sym (lines_whole k before (piece w) xs n x long is))

-- one more piece and its end, as the code was told its place
pub piece_more : {X : Type 0} (k : ℕ) (piece : Blocks → X → List ℕ) (u w : Blocks) (xs : List X) (i : ℕ) (x : X) (old mid added new : List ℕ)
    → u ≡ before_more w → IsAdded k (piece (before_more w)) xs i old mid → added ≡ mid ++ piece u x → new ≡ added ++ break_at k → i < length xs
    → x ≡ get_or xs i x → IsAdded k (piece (before_more w)) xs (i + 1) old new
piece_more k piece u w xs i x old mid added new same so_far first second below is =
    lines_more k (piece (before_more w)) xs i x old mid added new so_far (first ∙ ap (λ v. mid ++ piece v x) same) second below is

-- a list and a dict that are not empty
pub list_lines : (k : ℕ) (w : Blocks) (ts : List Shape) (n : ℕ) → n < length ts → lines_in k (item_of k) w ts ≡ list_text k w ts
list_lines k w [] n some = absurd (omega (arith, some))
list_lines k w (t ∷ ts) n some = refl

pub dict_lines : (k : ℕ) (w : Blocks) (ps : List (Shape × Shape)) (n : ℕ) → n < length ps
    → lines_in k (pair_of k) w ps ≡ dict_text k w ps
dict_lines k w [] n some = absurd (omega (arith, some))
dict_lines k w (p ∷ ps) n some = refl

-- a key that failed within its spelling, and at its mark
pub key_spelled : (k : ℕ) (w : Blocks) (key : Shape) (flat : Bool) (old new : List ℕ) → is_simple key ≡ true → IsBegun old new (spelled key)
    → IsBegun old new (key_of k w key flat)
key_spelled k w key flat old new simple h =
    begun_as old new (spelled key ++ 58 ∷ gap (k + 2) flat) (key_of k w key flat)
    (ap (λ b. if b then spelled key ++ 58 ∷ gap (k + 2) flat else mark_text 63 (text_at (k + 2) w key) ++ (break_at k ++ 58 ∷ 32 ∷ [])) (sym simple))
    (begun_first old new (spelled key) (58 ∷ gap (k + 2) flat) h)

pub key_mark : (k : ℕ) (w : Blocks) (key : Shape) (flat : Bool) (old new : List ℕ) → is_simple key ≡ false → IsBegun old new (63 ∷ 32 ∷ [])
    → IsBegun old new (key_of k w key flat)
key_mark k w key flat old new long h =
    begun_as old new ((63 ∷ 32 ∷ []) ++ (text_at (k + 2) w key ++ (break_at k ++ 58 ∷ 32 ∷ []))) (key_of k w key flat)
    (ap (λ b. if b then spelled key ++ 58 ∷ gap (k + 2) flat else mark_text 63 (text_at (k + 2) w key) ++ (break_at k ++ 58 ∷ 32 ∷ [])) (sym long))
    (begun_first old new (63 ∷ 32 ∷ []) (text_at (k + 2) w key ++ (break_at k ++ 58 ∷ 32 ∷ [])) h)

-- and after it
pub key_colon : (k inner : ℕ) (w : Blocks) (key : Shape) (flat : Bool) (old mid new : List ℕ) → is_simple key ≡ true → inner ≡ k + 2
    → mid ≡ old ++ spelled key → IsBegun mid new (58 ∷ gap inner flat) → IsBegun old new (key_of k w key flat)
key_colon k inner w key flat old mid new simple deep first h =
    begun_as old new (spelled key ++ 58 ∷ gap inner flat) (key_of k w key flat)
    (ap (λ n. spelled key ++ 58 ∷ gap n flat) deep
    ∙ ap (λ b. if b then spelled key ++ 58 ∷ gap (k + 2) flat else mark_text 63 (text_at (k + 2) w key) ++ (break_at k ++ 58 ∷ 32 ∷ [])) (sym simple))
    (begun_then old mid new (spelled key) (58 ∷ gap inner flat) first h)

-- a key up to its value, as the code was told its place and its value
key-told : (k : ℕ) (u w : Blocks) (key value : Shape) (flat : Bool) → u ≡ before_more w → flat ≡ is_flat value
    → key_of k u key flat ≡ key_of k (before_more w) key (is_flat value)
key-told k u w key value flat same one_line = ap (λ x. key_of k x key flat) same ∙ ap (key_of k (before_more w) key) one_line

abbrev pub pair_with : ℕ → Blocks → Shape → Shape → List ℕ
pair_with k w key value = key_of k (before_more w) key (is_flat value) ++ child_of (k + 2) w value

-- a pair that failed within its key, and within its value
pub pair_key : (k : ℕ) (u w : Blocks) (key value : Shape) (flat : Bool) (old new : List ℕ) → u ≡ before_more w → flat ≡ is_flat value
    → IsBegun old new (key_of k u key flat) → IsBegun old new (pair_with k w key value)
pair_key k u w key value flat old new same one_line h =
    let told : List ℕ = key_of k (before_more w) key (is_flat value) in
    begun_first old new told (child_of (k + 2) w value) (begun_as old new (key_of k u key flat) told (key-told k u w key value flat same one_line) h)

pub pair_value : (k inner : ℕ) (u w : Blocks) (key value : Shape) (flat : Bool) (old keyed new : List ℕ) → u ≡ before_more w
    → flat ≡ is_flat value → inner ≡ k + 2 → keyed ≡ old ++ key_of k u key flat → IsBegun keyed new (child_of inner w value)
    → IsBegun old new (pair_with k w key value)
pair_value k inner u w key value flat old keyed new same one_line deep first h =
    begun_then old keyed new (key_of k (before_more w) key (is_flat value)) (child_of (k + 2) w value)
    (first ∙ ap (λ x. old ++ x) (key-told k u w key value flat same one_line))
    (begun_as keyed new (child_of inner w value) (child_of (k + 2) w value) (ap (λ n. child_of n w value) deep) h)

-- The shortest lead of indented lines, and lines from a byte on.
use Rattle.snap_text_literals.proofs.Prelude.{◌≡◌, ◌==◌, ℕ, suc, ◌+◌, ◌-◌, ◌<◌, ◌≤◌, List, [], ◌∷◌, ◌++◌, Bool, true, false, ◌||◌, ◌&&◌, not, cond, map, nat_lt, length, refl, sym, ap, ◌∙◌, arith, append_assoc, append-nil, length-append, nat_tests, list_any, list_all, flat_map, is_whitespace, len_utf8, begins, before_trimmed, trimmed, unreturned, is_indent, IsIndentation, framed_line, lead, shortest, from_byte, joined_from, behind_end, is_return, is_line_end, both_second, both_first, cond_both, cond-false, both_ways, flat_map-append}
use Rattle.snap_text_literals.proofs.Free.{AreFree, any-append, blank_char}
use Rattle.snap_text_literals.proofs.WellEnded.{IsWell, EndsWell, AreClean, behind, whole, well-append}

abbrev pub indent : List ℕ → List ℕ → List ℕ
indent indentation [] = []
indent indentation (c ∷ cs) = indentation ++ c ∷ cs

pub framed-behind : (indentation : List ℕ) (ls : List (List ℕ)) → flat_map (framed_line indentation) ls ≡ flat_map behind (map (indent indentation) ls)
framed-behind indentation [] = refl
framed-behind indentation ([] ∷ ls) = ap (λ t. 10 ∷ t) (framed-behind indentation ls)
framed-behind indentation ((c ∷ cs) ∷ ls) = ap (λ t. 10 ∷ ((indentation ++ c ∷ cs) ++ t)) (framed-behind indentation ls)

well_indented : (indentation line : List ℕ) → IsWell line → IsWell (indent indentation line)
well_indented indentation [] h = let e = h.is in absurd (cc e)
well_indented indentation (c ∷ cs) h = well-append indentation (c ∷ cs) h

pub ends-indented : (indentation : List ℕ) (ls : List (List ℕ)) → EndsWell ls → EndsWell (map (indent indentation) ls)
ends-indented indentation [] h = h
ends-indented indentation (l ∷ []) h = well_indented indentation l h
ends-indented indentation (l ∷ m ∷ ls) h = ends-indented indentation (m ∷ ls) h

free_indented : (p : ℕ → Bool) (indentation line : List ℕ) → list_any p indentation ≡ false → list_any p line ≡ false → list_any p (indent indentation line) ≡ false
free_indented p indentation [] h k = refl
free_indented p indentation (c ∷ cs) h k = any-append p indentation (c ∷ cs) h k

frees_indented : (p : ℕ → Bool) (indentation : List ℕ) (ls : List (List ℕ)) → list_any p indentation ≡ false → AreFree p ls → AreFree p (map (indent indentation) ls)
frees_indented p indentation [] h f = tt
frees_indented p indentation (l ∷ ls) h f = (free_indented p indentation l h f.0, frees_indented p indentation ls h f.1)

pub clean-indented : (indentation : List ℕ) (ls : List (List ℕ)) → list_any is_line_end indentation ≡ false → list_any is_return indentation ≡ false → AreClean ls → AreClean (map (indent indentation) ls)
clean-indented indentation ls h k c = (frees_indented is_line_end indentation ls h c.0, frees_indented is_return indentation ls k c.1)

-- white space at the end
pub empty_trim : (cs : List ℕ) → list_all is_whitespace cs ≡ true → trimmed cs ≡ []
empty_trim [] h = refl
empty_trim (c ∷ cs) h =
    ap (before_trimmed c) (empty_trim cs (both_second (is_whitespace c) (list_all is_whitespace cs) h))
    ∙ ap (λ b. cond b [] (c ∷ [])) (both_first (is_whitespace c) (list_all is_whitespace cs) h)

pub trimmed-space : (text cs : List ℕ) → list_all is_whitespace cs ≡ true → trimmed (text ++ cs) ≡ trimmed text
trimmed-space [] cs h = empty_trim cs h
trimmed-space (c ∷ text) cs h = ap (before_trimmed c) (trimmed-space text cs h)

pub space-indentation : (indentation : List ℕ) → IsIndentation indentation → list_all is_whitespace indentation ≡ true
space-indentation [] h = refl
space-indentation (c ∷ cs) h =
    ap (λ b. b && list_all is_whitespace cs) (blank_char is_whitespace true c (both_first (is_indent c) (list_all is_indent cs) h) refl refl)
    ∙ space-indentation cs (both_second (is_indent c) (list_all is_indent cs) h)

-- lines from a byte on
pub from_byte-zero : (line : List ℕ) → from_byte 0 line ≡ line
from_byte-zero [] = refl
from_byte-zero (c ∷ cs) = refl

not_none : (n : ℕ) → (suc n == 0) ≡ false
not_none n = grind (arith, nat_tests)

-- a blank or a tab takes one byte
pub cut-indent : (n c : ℕ) (cs : List ℕ) → is_indent c ≡ true → from_byte (suc n) (c ∷ cs) ≡ from_byte n cs
cut-indent n c cs h =
    let width : len_utf8 c ≡ 1 = blank_char len_utf8 1 c h refl refl in
    let left : suc n - len_utf8 c ≡ n = omega (arith, width) in
    let outside : nat_lt (suc n) (len_utf8 c) ≡ false = grind (arith, nat_tests, width) in
    cond-false (suc n == 0) _ _ (not_none n) ∙ cond-false (nat_lt (suc n) (len_utf8 c)) _ _ outside ∙ ap (λ k. from_byte k cs) left

-- what is cut is the whole, nothing, or what is cut after the first character
pub from_byte-either : (P : List ℕ → Type 0) (n c : ℕ) (cs : List ℕ) → P (c ∷ cs) → P [] → P (from_byte (n - len_utf8 c) cs) → P (from_byte n (c ∷ cs))
from_byte-either P n c cs all none more = cond_both (n == 0) _ _ P (λ _. all) (λ _. cond_both (nat_lt n (len_utf8 c)) _ _ P (λ _. none) (λ _. more))

pub from_byte-past : (indentation line : List ℕ) → IsIndentation indentation → from_byte (length indentation) (indentation ++ line) ≡ line
from_byte-past [] line h = from_byte-zero line
from_byte-past (c ∷ cs) line h =
    cut-indent (length cs) c (cs ++ line) (both_first (is_indent c) (list_all is_indent cs) h) ∙ from_byte-past cs line (both_second (is_indent c) (list_all is_indent cs) h)

pub from_byte-indented : (indentation : List ℕ) (ls : List (List ℕ)) → IsIndentation indentation → map (from_byte (length indentation)) (map (indent indentation) ls) ≡ ls
from_byte-indented indentation [] h = refl
from_byte-indented indentation ([] ∷ ls) h = ap (λ r. [] ∷ r) (from_byte-indented indentation ls h)
from_byte-indented indentation ((c ∷ cs) ∷ ls) h = rw (from_byte-past indentation (c ∷ cs) h, from_byte-indented indentation ls h)

flat_from : (n : ℕ) (ls : List (List ℕ)) → flat_map (behind_end n) ls ≡ flat_map behind (map (from_byte n) ls)
flat_from n [] = refl
flat_from n (l ∷ ls) = ap (λ t. 10 ∷ (from_byte n l ++ t)) (flat_from n ls)

pub joined-whole : (n : ℕ) (ls : List (List ℕ)) → joined_from n ls ≡ whole (map (from_byte n) ls)
joined-whole n [] = refl
joined-whole n (l ∷ ls) = ap (λ t. from_byte n l ++ t) (flat_from n ls)

pub from_byte-zeros : (ls : List (List ℕ)) → map (from_byte 0) ls ≡ ls
from_byte-zeros [] = refl
from_byte-zeros (l ∷ ls) = ap (λ x. x ∷ map (from_byte 0) ls) (from_byte-zero l) ∙ ap (λ r. l ∷ r) (from_byte-zeros ls)

pub whole-append : (x : List ℕ) (xs ys : List (List ℕ)) → whole ((x ∷ xs) ++ ys) ≡ whole (x ∷ xs) ++ flat_map behind ys
whole-append x xs ys = ap (λ t. x ++ t) (flat_map-append behind xs ys) ∙ sym (append_assoc x (flat_map behind xs) (flat_map behind ys))

-- nothing is gained by a normal form
trim_step : (c : ℕ) (cs : List ℕ) → length (before_trimmed c cs) ≤ suc (length cs)
trim_step c [] = cond_both (is_whitespace c) [] (c ∷ []) (λ t. length t ≤ 1) (λ _. omega arith) (λ _. omega arith)
trim_step c (d ∷ ds) = omega arith

pub length-trimmed : (text : List ℕ) → length (trimmed text) ≤ length text
length-trimmed [] = omega arith
length-trimmed (c ∷ cs) = omega (arith, trim_step c (trimmed cs), length-trimmed cs)

pub length-unreturned : (text : List ℕ) → length (unreturned text) ≤ length text
length-unreturned [] = omega arith
length-unreturned (c ∷ cs) =
    let less = length-unreturned cs in
    cond_both (c == 13 && begins 10 (unreturned cs)) _ _ (λ t. length t ≤ suc (length cs)) (λ _. omega arith) (λ _. omega arith)

-- cutting shortens
pub length-from_byte : (n : ℕ) (line : List ℕ) → length (from_byte n line) ≤ length line
length-from_byte n [] = omega arith
length-from_byte n (c ∷ cs) =
    let less = length-from_byte (n - len_utf8 c) cs in from_byte-either (λ t. length t ≤ suc (length cs)) n c cs (omega arith) (omega arith) (omega arith)

pub from_byte-less : (n c : ℕ) (cs : List ℕ) → length (from_byte (suc n) (c ∷ cs)) < suc (length cs)
from_byte-less n c cs =
    let less = length-from_byte (suc n - len_utf8 c) cs in
    cond_both (suc n == 0) _ _ (λ t. length t < suc (length cs)) (λ e. absurd (both_ways (suc n == 0) (not_none n) e))
    (λ _. cond_both (nat_lt (suc n) (len_utf8 c)) _ _ (λ t. length t < suc (length cs)) (λ _. omega arith) (λ _. omega arith))

well_less : (n : ℕ) (line : List ℕ) → IsWell line → length (from_byte (suc n) line) < length line
well_less n [] h = let e = h.is in absurd (cc e)
well_less n (c ∷ cs) h = from_byte-less n c cs

pub whole-less : (n : ℕ) (ls : List (List ℕ)) → EndsWell ls → length (whole (map (from_byte (suc n)) ls)) < length (whole ls)
whole-less n [] h = absurd h
whole-less n (l ∷ []) h = omega (arith, well_less n l h, ap length (append-nil l), ap length (append-nil (from_byte (suc n) l)))
whole-less n (l ∷ m ∷ ls) h =
    omega (arith, whole-less n (m ∷ ls) h, length-from_byte (suc n) l, length-append l (10 ∷ whole (m ∷ ls)), length-append (from_byte (suc n) l) (10 ∷ whole (map (from_byte (suc n)) (m ∷ ls))))

-- the shortest lead of indented lines
pub lead-blank : (indentation line : List ℕ) → IsIndentation indentation → lead (indentation ++ line) ≡ indentation ++ lead line
lead-blank [] line h = refl
lead-blank (c ∷ cs) line h = rw (both_first (is_indent c) (list_all is_indent cs) h, lead-blank cs line (both_second (is_indent c) (list_all is_indent cs) h))

shortest-filled : (found : Bool) (best line rest_of : List ℕ) (c : ℕ) (ls : List (List ℕ)) → line ≡ c ∷ rest_of
    → shortest found best (line ∷ ls) ≡ cond (not found || nat_lt (length (lead line)) (length best)) (shortest true (lead line) ls) (shortest found best ls)
shortest-filled found best line rest_of c ls is = rw is

pub filled : (front : List ℕ) (c : ℕ) (cs : List ℕ) → (d : ℕ) × (ds : List ℕ) × (front ++ c ∷ cs ≡ d ∷ ds)
filled [] c cs = (c, cs, refl)
filled (d ∷ front) c cs = (d, front ++ c ∷ cs, refl)

same_less : (i a b x y : ℕ) → x ≡ i + a → y ≡ i + b → nat_lt x y ≡ nat_lt a b
same_less i a b x y h k = grind (arith, nat_tests)

shift_if : (b : Bool) (i : ℕ) (x y u v : List ℕ) → length x ≡ i + length y → length u ≡ i + length v → length (cond b x u) ≡ i + length (cond b y v)
shift_if true i x y u v h k = h
shift_if false i x y u v h k = k

pub shortest-shift : (indentation best other : List ℕ) (ls : List (List ℕ)) → IsIndentation indentation → length other ≡ length indentation + length best
    → length (shortest true other (map (indent indentation) ls)) ≡ length indentation + length (shortest true best ls)
shortest-shift indentation best other [] h e = e
shortest-shift indentation best other ([] ∷ ls) h e = shortest-shift indentation best other ls h e
shortest-shift indentation best other ((c ∷ cs) ∷ ls) h e =
    let f = filled indentation c cs in
    let line : List ℕ = indentation ++ c ∷ cs in
    let here : List ℕ = lead (c ∷ cs) in
    let width : length (lead line) ≡ length indentation + length here = ap length (lead-blank indentation (c ∷ cs) h) ∙ length-append indentation here in
    let indented : List (List ℕ) = map (indent indentation) ls in
    rw (shortest-filled true other line f.1 f.0 indented f.2, same_less (length indentation) (length here) (length best) (length (lead line)) (length other) width e)
    (shift_if (nat_lt (length here) (length best)) (length indentation) (shortest true (lead line) indented) (shortest true here ls) (shortest true other indented) (shortest true best ls)
    (shortest-shift indentation here (lead line) ls h width) (shortest-shift indentation best other ls h e))

pub shortest-indented : (indentation : List ℕ) (ls : List (List ℕ)) → IsIndentation indentation → EndsWell ls
    → length (shortest false [] (map (indent indentation) ls)) ≡ length indentation + length (shortest false [] ls)
shortest-indented indentation [] h w = absurd w
shortest-indented indentation ([] ∷ []) h w = let e = w.is in absurd (cc e)
shortest-indented indentation ([] ∷ m ∷ ls) h w = shortest-indented indentation (m ∷ ls) h w
shortest-indented indentation ((c ∷ cs) ∷ ls) h w =
    let f = filled indentation c cs in
    let line : List ℕ = indentation ++ c ∷ cs in
    let width : length (lead line) ≡ length indentation + length (lead (c ∷ cs)) = ap length (lead-blank indentation (c ∷ cs) h) ∙ length-append indentation (lead (c ∷ cs)) in
    ap length (shortest-filled false [] line f.1 f.0 (map (indent indentation) ls) f.2) ∙ shortest-shift indentation (lead (c ∷ cs)) (lead line) ls h width

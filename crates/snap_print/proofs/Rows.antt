-- No line of a printed text is a fence, and the last ends well where that is read.
use Rattle.snap_print.proofs.Prelude.{◌≡◌, ℕ, zero, suc, List, [], ◌∷◌, ◌++◌, map, Bool, true, false, not, refl, sym, ap, ◌∙◌, arith, nat_tests, ◌≤◌, append-nil, append_assoc, Some, None, Option, subst, ◌||◌, ◌&&◌, ◌==◌, nat_le, if◌then◌else◌, list_any, or_parts, and_parts, not_true, and_nothing, spelling, is_flat, is_scalar, ends_badly, is_whitespace, IsWithin, AreWithin, AreEntriesWithin, IsLine, IsRow, AreRows, EndsWell, is_trimmed, is_break, begins_dashes}
use Rattle.snap_str.specs.Lines.{onto}
use Rattle.snap_content.specs.Plain.{Plain, null, bool, int, text, list, dict, Plains, no_items, item, Entries, no_entries, entry}
use Rattle.snap_print.specs.Blocks.{Blocks, off, inside, end, last, before_more, is_inside, before_core, core, kept_ends, is_unheld, begins_block, fits_block, keeps_end, is_block, as_block, block_sign, empty_lines}
use Rattle.snap_print.specs.Lines.{is_simple, two_in, empties, text_lines, block_lines, indented, behind, marked, keyed, entry_block, before_items, before_entries, lines_of, item_lines, entry_lines}
use Rattle.snap_print.proofs.Spellings.{spelling_line}
use Rattle.snap_print.proofs.Tests.{apart}

row : (line : List ℕ) → IsLine line → IsRow line
row line is = record { unbroken = is.unbroken; no_dashes = is.no_dashes }

rows-append : (xs ys : List (List ℕ)) → AreRows xs → AreRows ys → AreRows (xs ++ ys)
rows-append [] ys h k = k
rows-append (x ∷ xs) ys h k = (h.0, rows-append xs ys h.1 k)

ends-more : (x : List ℕ) (ys : List (List ℕ)) → EndsWell ys → EndsWell (x ∷ ys)
ends-more x [] h = absurd h
ends-more x (y ∷ ys) h = h

ends-append : (xs ys : List (List ℕ)) → EndsWell ys → EndsWell (xs ++ ys)
ends-append [] ys h = h
ends-append (x ∷ xs) ys h = ends-more x (xs ++ ys) (ends-append xs ys h)

ends-alone : (xs : List (List ℕ)) → EndsWell xs → EndsWell (xs ++ [])
ends-alone xs h = subst EndsWell (sym (append-nil xs)) h

-- two blanks in front of a line
row-further : (line : List ℕ) → list_any is_break line ≡ false → IsRow (two_in line)
row-further line h = record { unbroken = h; no_dashes = refl }

row-indented : (line : List ℕ) → IsRow line → IsRow (indented line)
row-indented [] h = h
row-indented (c ∷ cs) h = row-further (c ∷ cs) h.unbroken

rows-indented : (lines : List (List ℕ)) → AreRows lines → AreRows (map indented lines)
rows-indented [] h = tt
rows-indented (line ∷ lines) h = (row-indented line h.0, rows-indented lines h.1)

row-marked : (mark : ℕ) (line : List ℕ) → is_break mark ≡ false → list_any is_break line ≡ false → IsRow (mark ∷ 32 ∷ line)
row-marked mark line unbroken h = record { unbroken = rw unbroken h; no_dashes = and_nothing (mark == 45) }

rows-behind : (mark : ℕ) (lines : List (List ℕ)) → is_break mark ≡ false → AreRows lines → AreRows (behind mark lines)
rows-behind mark [] unbroken h = tt
rows-behind mark (line ∷ lines) unbroken h = (row-marked mark line unbroken h.0.unbroken, rows-indented lines h.1)

ends-front : (c d : ℕ) (line : List ℕ) → IsLine line → ends_badly (c ∷ d ∷ line) ≡ false
ends-front c d line h = ap (λ l. ends_badly (c ∷ d ∷ l)) h.is ∙ sym (ap ends_badly h.is) ∙ h.trimmed

-- a line with a mark or blanks in front
line-marked : (mark : ℕ) (line : List ℕ) → is_break mark ≡ false → IsLine line → IsLine (mark ∷ 32 ∷ line)
line-marked mark line unbroken h = record {
  first = mark;
  more = 32 ∷ line;
  is = refl;
  unbroken = rw unbroken h.unbroken;
  trimmed = ends-front mark 32 line h;
  no_dashes = and_nothing (mark == 45);
}

line-indented : (line : List ℕ) → IsLine line → IsLine (indented line)
line-indented [] h = let none : [] ≡ h.first ∷ h.more = h.is in absurd (cc)
line-indented (c ∷ cs) h = line-marked 32 (c ∷ cs) refl h

ends-indented : (lines : List (List ℕ)) → EndsWell lines → EndsWell (map indented lines)
ends-indented [] h = absurd h
ends-indented (line ∷ []) h = line-indented line h
ends-indented (line ∷ next ∷ lines) h = ends-indented (next ∷ lines) h

ends-behind : (mark : ℕ) (lines : List (List ℕ)) → is_break mark ≡ false → EndsWell lines → EndsWell (behind mark lines)
ends-behind mark [] unbroken h = absurd h
ends-behind mark (line ∷ []) unbroken h = line-marked mark line unbroken h
ends-behind mark (line ∷ next ∷ lines) unbroken h = ends-indented (next ∷ lines) h

-- the lines of a block
abbrev AreUnbroken : List (List ℕ) → Type 0
AreUnbroken [] = Unit {0}
AreUnbroken (line ∷ lines) = (list_any is_break line ≡ false) × AreUnbroken lines

unbroken-onto : (c : ℕ) (lines : List (List ℕ)) → is_break c ≡ false → AreUnbroken lines → AreUnbroken (onto c lines)
unbroken-onto c [] h k = (rw h refl, tt)
unbroken-onto c (line ∷ lines) h k = (rw (h, k.0) refl, k.1)

unbroken-by : (q : Bool) (c : ℕ) (cs : List ℕ) → (c == 10) ≡ q → (c == 13) ≡ false → AreUnbroken (text_lines cs) → AreUnbroken (text_lines (c ∷ cs))
unbroken-by true c cs e f h = rw e (refl, h)
unbroken-by false c cs e f h = rw e (unbroken-onto c (text_lines cs) (rw (e, f) refl) h)

unbroken-lines : (s : List ℕ) → list_any is_unheld s ≡ false → AreUnbroken (text_lines s)
unbroken-lines [] h = (refl, tt)
unbroken-lines (c ∷ cs) h =
    let two = or_parts (is_unheld c) (list_any is_unheld cs) h in
    unbroken-by (c == 10) c cs refl (or_parts (c == 13) (c == 0) two.0).0 (unbroken-lines cs two.1)

rows-further : (lines : List (List ℕ)) → AreUnbroken lines → AreRows (map two_in lines)
rows-further [] h = tt
rows-further (line ∷ lines) h = (row-further line h.0, rows-further lines h.1)

rows-empty : (n : ℕ) → AreRows (empties n)
rows-empty zero = tt
rows-empty (suc n) = (record { unbroken = refl; no_dashes = refl }, rows-empty n)

unheld-one : (q : Bool) (c : ℕ) → (c == 10) ≡ q → is_unheld c ≡ false → list_any is_unheld (before_core c []) ≡ false
unheld-one true c e h = rw e refl
unheld-one false c e h = rw e (rw h refl)

unheld-by : (x : List ℕ) (c : ℕ) → is_unheld c ≡ false → list_any is_unheld x ≡ false → list_any is_unheld (before_core c x) ≡ false
unheld-by [] c h k = unheld-one (c == 10) c refl h
unheld-by (d ∷ ds) c h k = rw h k

unheld-core : (s : List ℕ) → list_any is_unheld s ≡ false → list_any is_unheld (core s) ≡ false
unheld-core [] h = refl
unheld-core (c ∷ cs) h =
    let two = or_parts (is_unheld c) (list_any is_unheld cs) h in
    unheld-by (core cs) c two.0 (unheld-core cs two.1)

-- a text that fits a block holds no return, and begins with no line's end
held : (s : List ℕ) → fits_block s ≡ true → list_any is_unheld s ≡ false
held s h = not_true (list_any is_unheld s) (and_parts (list_any (λ c. c == 10) s && begins_block s) (not (list_any is_unheld s)) h).1

rows-block : (w : Blocks) (s : List ℕ) → fits_block s ≡ true → AreRows (block_lines w s)
rows-block w s h =
    rows-append (map two_in (text_lines (core s))) (empties (empty_lines (is_inside w) (kept_ends s)))
    (rows-further (text_lines (core s)) (unbroken-lines (core s) (unheld-core s (held s h)))) (rows-empty (empty_lines (is_inside w) (kept_ends s)))

-- the last line of a text that ends in no white space
line-further : (c : ℕ) (line : List ℕ) → is_break c ≡ false → IsLine (two_in line) → IsLine (two_in (c ∷ line))
line-further c [] unbroken h = let bad : ends_badly (32 ∷ 32 ∷ []) ≡ false = h.trimmed in absurd (cc)
line-further c (d ∷ line) unbroken h = record {
  first = 32;
  more = 32 ∷ c ∷ d ∷ line;
  is = refl;
  unbroken = let rest : list_any is_break (d ∷ line) ≡ false = h.unbroken in rw unbroken rest;
  trimmed = let rest : ends_badly (d ∷ line) ≡ false = h.trimmed in rest;
  no_dashes = refl;
}

ends-onto : (c : ℕ) (lines : List (List ℕ)) → is_break c ≡ false → EndsWell (map two_in lines) → EndsWell (map two_in (onto c lines))
ends-onto c [] unbroken h = absurd h
ends-onto c (line ∷ []) unbroken h = line-further c line unbroken h
ends-onto c (line ∷ next ∷ lines) unbroken h = h

ends-by : (q : Bool) (c : ℕ) (cs : List ℕ) → (c == 10) ≡ q → (c == 13) ≡ false → EndsWell (map two_in (text_lines cs)) → EndsWell (map two_in (text_lines (c ∷ cs)))
ends-by true c cs e f h = rw e (ends-more (two_in []) (map two_in (text_lines cs)) h)
ends-by false c cs e f h = rw e (ends-onto c (text_lines cs) (rw (e, f) refl) h)

ends-text : (c : ℕ) (cs : List ℕ) → ends_badly (c ∷ cs) ≡ false → list_any is_unheld (c ∷ cs) ≡ false → EndsWell (map two_in (text_lines (c ∷ cs)))
ends-text c [] h k =
    let feed : (c == 10) ≡ false = apart is_whitespace c 10 h refl in
    let return : (c == 13) ≡ false = apart is_whitespace c 13 h refl in
    rw feed (record { first = 32; more = 32 ∷ c ∷ []; is = refl; unbroken = rw (feed, return) refl; trimmed = h; no_dashes = refl })
ends-text c (d ∷ ds) h k =
    let two = or_parts (is_unheld c) (list_any is_unheld (d ∷ ds)) k in
    ends-by (c == 10) c (d ∷ ds) refl (or_parts (c == 13) (c == 0) two.0).0 (ends-text d ds h two.1)

-- the block of a text that begins with no line's end is no empty one
ends-core : (x : List ℕ) (c : ℕ) → (c == 10) ≡ false → ends_badly (before_core c x) ≡ false → list_any is_unheld (before_core c x) ≡ false → EndsWell (map two_in (text_lines (before_core c x)))
ends-core [] c feed h k =
    let alone : before_core c [] ≡ c ∷ [] = rw feed refl in
    let P : List ℕ → Type 0 = λ y. ends_badly y ≡ false → list_any is_unheld y ≡ false → EndsWell (map two_in (text_lines y)) in
    let by : P (before_core c []) = subst P (sym alone) (ends-text c []) in
    by h k
ends-core (d ∷ ds) c feed h k = ends-text c (d ∷ ds) h k

none-behind : (n : ℕ) → nat_le n 1 ≡ true → empties (empty_lines false n) ≡ []
none-behind zero h = refl
none-behind (suc zero) h = refl
none-behind (suc (suc n)) h = let few : suc (suc n) ≤ 1 = grind (arith, nat_tests) in absurd (omega (arith, few))

ends-block : (s : List ℕ) → is_block last s ≡ true → EndsWell (block_lines last s)
ends-block [] h = absurd (cc)
ends-block (c ∷ cs) h =
    let two = and_parts (fits_block (c ∷ cs)) (keeps_end (c ∷ cs)) h in
    let keeps = and_parts (nat_le (kept_ends (c ∷ cs)) 1) (not (ends_badly (core (c ∷ cs)))) two.1 in
    let fits = and_parts (list_any (λ x. x == 10) (c ∷ cs) && begins_block (c ∷ cs)) (not (list_any is_unheld (c ∷ cs))) two.0 in
    let begun = and_parts (list_any (λ x. x == 10) (c ∷ cs)) (begins_block (c ∷ cs)) fits.0 in
    let first = or_parts (c == 32 || c == 9) (c == 10 || c == 13) (not_true (c == 32 || c == 9 || (c == 10 || c == 13)) begun.1) in
    let feed = (or_parts (c == 10) (c == 13) first.1).0 in
    let well = ends-core (core cs) c feed (not_true (ends_badly (core (c ∷ cs))) keeps.1) (unheld-core (c ∷ cs) (held (c ∷ cs) two.0)) in
    let lines : List (List ℕ) = map two_in (text_lines (core (c ∷ cs))) in
    let P : List (List ℕ) → Type 0 = λ x. EndsWell (lines ++ x) in
    subst P (sym (none-behind (kept_ends (c ∷ cs)) keeps.0)) (ends-alone lines well)

some-if : (b : Bool) (s t : List ℕ) → (if b then Some s else None) ≡ Some t → (b ≡ true) × (s ≡ t)
some-if true s t e = (refl, cc)
some-if false s t e = absurd (cc)

block-is : (w : Blocks) (p : Plain) (s : List ℕ) → as_block w p ≡ Some s → is_block w s ≡ true
block-is w null s e = absurd (cc)
block-is w (bool b) s e = absurd (cc)
block-is w (int z) s e = absurd (cc)
block-is w (text u) s e = let two = some-if (is_block w u) u s e in rw (sym two.1) two.0
block-is w (list ps) s e = absurd (cc)
block-is w (dict es) s e = absurd (cc)

is-fit : (w : Blocks) (s : List ℕ) → is_block w s ≡ true → fits_block s ≡ true
is-fit off s h = absurd (cc)
is-fit inside s h = h
is-fit end s h = h
is-fit last s h = (and_parts (fits_block s) (keeps_end s) h).0

ends-trimmed : (w : Blocks) (s : List ℕ) → is_trimmed w ≡ true → is_block w s ≡ true → EndsWell (block_lines w s)
ends-trimmed off s t h = absurd (cc)
ends-trimmed inside s t h = absurd (cc)
ends-trimmed end s t h = absurd (cc)
ends-trimmed last s t h = ends-block s h

-- an item or a value after a mark
sign-unbroken : (n : ℕ) → list_any is_break (block_sign n) ≡ false
sign-unbroken zero = refl
sign-unbroken (suc zero) = refl
sign-unbroken (suc (suc n)) = refl

rows-marked : (w : Blocks) (mark : ℕ) (o : Option (List ℕ)) (lines : List (List ℕ)) → is_break mark ≡ false → ((s : List ℕ) → o ≡ Some s → is_block w s ≡ true) → AreRows lines → AreRows (marked w mark o lines)
rows-marked w mark None lines unbroken is h = rows-behind mark lines unbroken h
rows-marked w mark (Some s) lines unbroken is h = (row-marked mark (block_sign (kept_ends s)) unbroken (sign-unbroken (kept_ends s)), rows-block w s (is-fit w s (is s refl)))

ends-marked : (w : Blocks) (mark : ℕ) (o : Option (List ℕ)) (lines : List (List ℕ)) → is_break mark ≡ false → ((s : List ℕ) → o ≡ Some s → is_block w s ≡ true) → is_trimmed w ≡ true → EndsWell lines
    → EndsWell (marked w mark o lines)
ends-marked w mark None lines unbroken is t h = ends-behind mark lines unbroken h
ends-marked w mark (Some s) lines unbroken is t h = ends-more _ (block_lines w s) (ends-trimmed w s t (is s refl))

any-append : (xs ys : List ℕ) → list_any is_break xs ≡ false → list_any is_break ys ≡ false → list_any is_break (xs ++ ys) ≡ false
any-append [] ys h k = k
any-append (x ∷ xs) ys h k = let two = or_parts (is_break x) (list_any is_break xs) h in rw two.0 (any-append xs ys two.1 k)

dashes-append : (xs ys : List ℕ) → begins_dashes xs ≡ false → begins_dashes (xs ++ 58 ∷ ys) ≡ false
dashes-append [] ys h = refl
dashes-append (x ∷ []) ys h = and_nothing (x == 45)
dashes-append (x ∷ y ∷ xs) ys h = h

row-key : (key tail : List ℕ) → IsLine key → list_any is_break tail ≡ false → IsRow (key ++ 58 ∷ tail)
row-key key tail h k = record { unbroken = any-append key (58 ∷ tail) h.unbroken k; no_dashes = dashes-append key tail h.no_dashes }

ends-behind-all : (xs ys : List ℕ) (y : ℕ) → ends_badly (xs ++ y ∷ ys) ≡ ends_badly (y ∷ ys)
ends-behind-all [] ys y = refl
ends-behind-all (x ∷ []) ys y = refl
ends-behind-all (x ∷ z ∷ xs) ys y = ends-behind-all (z ∷ xs) ys y

line-key : (key line : List ℕ) → IsLine key → IsLine line → IsLine (key ++ 58 ∷ 32 ∷ line)
line-key key line h k = record {
  first = h.first;
  more = h.more ++ 58 ∷ 32 ∷ line;
  is = ap (λ (s : List ℕ). s ++ 58 ∷ 32 ∷ line) h.is;
  unbroken = any-append key (58 ∷ 32 ∷ line) h.unbroken k.unbroken;
  trimmed = ends-behind-all key (32 ∷ line) 58 ∙ ends-front 58 32 line k;
  no_dashes = dashes-append key (32 ∷ line) h.no_dashes;
}

rows-flat : (b : Bool) (key : List ℕ) (v : Plain) (lines : List (List ℕ)) → IsLine key → is_flat v ≡ b → IsWithin v → AreRows lines
    → AreRows (if b then (key ++ 58 ∷ 32 ∷ spelling v) ∷ [] else (key ++ 58 ∷ []) ∷ map indented lines)
rows-flat true key v lines k e within h = (row-key key (32 ∷ spelling v) k (spelling_line v e within).unbroken, tt)
rows-flat false key v lines k e within h = (row-key key [] k refl, rows-indented lines h)

rows-keyed : (w : Blocks) (key : List ℕ) (v : Plain) (o : Option (List ℕ)) (lines : List (List ℕ)) → IsLine key → ((s : List ℕ) → o ≡ Some s → is_block w s ≡ true) → IsWithin v → AreRows lines
    → AreRows (keyed w key v o lines)
rows-keyed w key v None lines k is within h = rows-flat (is_flat v) key v lines k refl within h
rows-keyed w key v (Some s) lines k is within h = (row-key key (32 ∷ block_sign (kept_ends s)) k (sign-unbroken (kept_ends s)), rows-block w s (is-fit w s (is s refl)))

ends-flat : (b : Bool) (key : List ℕ) (v : Plain) (lines : List (List ℕ)) → IsLine key → is_flat v ≡ b → IsWithin v → EndsWell lines
    → EndsWell (if b then (key ++ 58 ∷ 32 ∷ spelling v) ∷ [] else (key ++ 58 ∷ []) ∷ map indented lines)
ends-flat true key v lines k e within h = line-key key (spelling v) k (spelling_line v e within)
ends-flat false key v lines k e within h = ends-more _ (map indented lines) (ends-indented lines h)

ends-keyed : (w : Blocks) (key : List ℕ) (v : Plain) (o : Option (List ℕ)) (lines : List (List ℕ)) → IsLine key → ((s : List ℕ) → o ≡ Some s → is_block w s ≡ true) → is_trimmed w ≡ true → IsWithin v → EndsWell lines
    → EndsWell (keyed w key v o lines)
ends-keyed w key v None lines k is t within h = ends-flat (is_flat v) key v lines k refl within h
ends-keyed w key v (Some s) lines k is t within h = ends-more _ (block_lines w s) (ends-trimmed w s t (is s refl))

-- a simple key is a line
scalar_flat : (k : Plain) → is_scalar k ≡ true → is_flat k ≡ true
scalar_flat null h = refl
scalar_flat (bool b) h = refl
scalar_flat (int z) h = refl
scalar_flat (text s) h = refl
scalar_flat (list _) h = absurd (cc)
scalar_flat (dict _) h = absurd (cc)

key-line : (k : Plain) → is_simple k ≡ true → IsWithin k → IsLine (spelling k)
key-line k h within = spelling_line k (scalar_flat k (and_parts (is_scalar k) _ h).0) within

rows-entry : (b : Bool) (w : Blocks) (k v : Plain) (ks vs : List (List ℕ)) → is_simple k ≡ b → IsWithin k → IsWithin v → AreRows ks → AreRows vs
    → AreRows (if b then keyed w (spelling k) v (as_block w v) vs else behind 63 ks ++ marked w 58 (as_block w v) vs)
rows-entry true w k v ks vs e kw vw kr vr = rows-keyed w (spelling k) v (as_block w v) vs (key-line k e kw) (block-is w v) vw vr
rows-entry false w k v ks vs e kw vw kr vr = rows-append (behind 63 ks) (marked w 58 (as_block w v) vs) (rows-behind 63 ks refl kr) (rows-marked w 58 (as_block w v) vs refl (block-is w v) vr)

ends-entry : (b : Bool) (w : Blocks) (k v : Plain) (ks vs : List (List ℕ)) → is_simple k ≡ b → IsWithin k → IsWithin v → is_trimmed w ≡ true → EndsWell vs
    → EndsWell (if b then keyed w (spelling k) v (as_block w v) vs else behind 63 ks ++ marked w 58 (as_block w v) vs)
ends-entry true w k v ks vs e kw vw t h = ends-keyed w (spelling k) v (as_block w v) vs (key-line k e kw) (block-is w v) t vw h
ends-entry false w k v ks vs e kw vw t h = ends-append (behind 63 ks) (marked w 58 (as_block w v) vs) (ends-marked w 58 (as_block w v) vs refl (block-is w v) t h)

rows-child : (w : Blocks) (p : Plain) → AreRows (lines_of w p) → AreRows (marked w 45 (as_block w p) (lines_of w p))
rows-child w p h = rows-marked w 45 (as_block w p) (lines_of w p) refl (block-is w p) h

rows-pair : (u w : Blocks) (k v : Plain) → IsWithin k → IsWithin v → AreRows (lines_of u k) → AreRows (lines_of w v) → AreRows (entry_block w k v (lines_of u k) (lines_of w v))
rows-pair u w k v kw vw kr vr = rows-entry (is_simple k) w k v (lines_of u k) (lines_of w v) refl kw vw kr vr

mutual
  pub printed-rows : (w : Blocks) (p : Plain) → IsWithin p → AreRows (lines_of w p)
  printed-rows w null h = (row _ (spelling_line null refl h), tt)
  printed-rows w (bool b) h = (row _ (spelling_line (bool b) refl h), tt)
  printed-rows w (int z) h = (row _ (spelling_line (int z) refl h), tt)
  printed-rows w (text s) h = (row _ (spelling_line (text s) refl h), tt)
  printed-rows w (list no_items) h = (row _ (spelling_line (list no_items) refl h), tt)
  printed-rows w (list (item p ps)) h =
      rows-append _ (item_lines w ps) (rows-child (before_items w ps) p (printed-rows (before_items w ps) p h.0)) (rows-of-items w ps h.1)
  printed-rows w (dict no_entries) h = (row _ (spelling_line (dict no_entries) refl h), tt)
  printed-rows w (dict (entry k v es)) h =
      rows-append _ (entry_lines w es)
      (rows-pair (before_more w) (before_entries w es) k v h.0 h.1.0 (printed-rows (before_more w) k h.0) (printed-rows (before_entries w es) v h.1.0)) (rows-of-entries w es h.1.1)

  rows-of-items : (w : Blocks) (ps : Plains) → AreWithin ps → AreRows (item_lines w ps)
  rows-of-items w no_items h = tt
  rows-of-items w (item p ps) h =
      rows-append _ (item_lines w ps) (rows-child (before_items w ps) p (printed-rows (before_items w ps) p h.0)) (rows-of-items w ps h.1)

  rows-of-entries : (w : Blocks) (es : Entries) → AreEntriesWithin es → AreRows (entry_lines w es)
  rows-of-entries w no_entries h = tt
  rows-of-entries w (entry k v es) h =
      rows-append _ (entry_lines w es)
      (rows-pair (before_more w) (before_entries w es) k v h.0 h.1.0 (printed-rows (before_more w) k h.0) (printed-rows (before_entries w es) v h.1.0)) (rows-of-entries w es h.1.1)

ends-child : (w : Blocks) (p : Plain) → is_trimmed w ≡ true → EndsWell (lines_of w p) → EndsWell (marked w 45 (as_block w p) (lines_of w p) ++ [])
ends-child w p t h = ends-alone (marked w 45 (as_block w p) (lines_of w p)) (ends-marked w 45 (as_block w p) (lines_of w p) refl (block-is w p) t h)

ends-pair : (u w : Blocks) (k v : Plain) → is_trimmed w ≡ true → IsWithin k → IsWithin v → EndsWell (lines_of w v) → EndsWell (entry_block w k v (lines_of u k) (lines_of w v) ++ [])
ends-pair u w k v t kw vw h = ends-alone (entry_block w k v (lines_of u k) (lines_of w v)) (ends-entry (is_simple k) w k v (lines_of u k) (lines_of w v) refl kw vw t h)

mutual
  pub printed-end : (w : Blocks) (p : Plain) → is_trimmed w ≡ true → IsWithin p → EndsWell (lines_of w p)
  printed-end w null t h = spelling_line null refl h
  printed-end w (bool b) t h = spelling_line (bool b) refl h
  printed-end w (int z) t h = spelling_line (int z) refl h
  printed-end w (text s) t h = spelling_line (text s) refl h
  printed-end w (list no_items) t h = spelling_line (list no_items) refl h
  printed-end w (list (item p ps)) t h = items-end w p ps t (printed-end w p t h.0) h.1
  printed-end w (dict no_entries) t h = spelling_line (dict no_entries) refl h
  printed-end w (dict (entry k v es)) t h = entries-end w k v es t h.0 h.1.0 (printed-end w v t h.1.0) h.1.1

  -- the last of some items ends well, the first of which would do so if it were the last
  items-end : (w : Blocks) (p : Plain) (ps : Plains) → is_trimmed w ≡ true → EndsWell (lines_of w p) → AreWithin ps
      → EndsWell (marked (before_items w ps) 45 (as_block (before_items w ps) p) (lines_of (before_items w ps) p) ++ item_lines w ps)
  items-end w p no_items t h k = ends-child w p t h
  items-end w p (item q ps) t h k =
      let u : Blocks = before_more w in
      ends-append (marked u 45 (as_block u p) (lines_of u p)) (item_lines w (item q ps)) (items-end w q ps t (printed-end w q t k.0) k.1)

  entries-end : (w : Blocks) (k v : Plain) (es : Entries) → is_trimmed w ≡ true → IsWithin k → IsWithin v → EndsWell (lines_of w v) → AreEntriesWithin es
      → EndsWell (entry_block (before_entries w es) k v (lines_of (before_more w) k) (lines_of (before_entries w es) v) ++ entry_lines w es)
  entries-end w k v no_entries t kw vw h ew = ends-pair (before_more w) w k v t kw vw h
  entries-end w k v (entry q x es) t kw vw h ew =
      let u : Blocks = before_more w in
      ends-append (entry_block u k v (lines_of u k) (lines_of u v)) (entry_lines w (entry q x es)) (entries-end w q x es t ew.0 ew.1.0 (printed-end w x t ew.1.0) ew.1.1)

-- the first line, which no block has
pub record HasFirst (lines : List (List ℕ)) : Type 0 where
  pub first : List ℕ
  pub others : List (List ℕ)
  pub is : lines ≡ first ∷ others
  pub line : IsLine first

sign-line : (n : ℕ) → IsLine (block_sign n)
sign-line zero = record { first = 124; more = 45 ∷ []; is = refl; unbroken = refl; trimmed = refl; no_dashes = refl }
sign-line (suc zero) = record { first = 124; more = []; is = refl; unbroken = refl; trimmed = refl; no_dashes = refl }
sign-line (suc (suc n)) = record { first = 124; more = 43 ∷ []; is = refl; unbroken = refl; trimmed = refl; no_dashes = refl }

line-colon : (key : List ℕ) → IsLine key → IsLine (key ++ 58 ∷ [])
line-colon key h = record {
  first = h.first;
  more = h.more ++ 58 ∷ [];
  is = ap (λ (s : List ℕ). s ++ 58 ∷ []) h.is;
  unbroken = any-append key (58 ∷ []) h.unbroken refl;
  trimmed = ends-behind-all key [] 58;
  no_dashes = dashes-append key [] h.no_dashes;
}

first-behind : (mark : ℕ) (lines more : List (List ℕ)) → is_break mark ≡ false → HasFirst lines → HasFirst (behind mark lines ++ more)
first-behind mark lines more unbroken h = record {
  first = mark ∷ 32 ∷ h.first;
  others = map indented h.others ++ more;
  is = ap (λ (ls : List (List ℕ)). behind mark ls ++ more) h.is;
  line = line-marked mark h.first unbroken h.line;
}

first-marked : (w : Blocks) (mark : ℕ) (o : Option (List ℕ)) (lines more : List (List ℕ)) → is_break mark ≡ false → HasFirst lines → HasFirst (marked w mark o lines ++ more)
first-marked w mark None lines more unbroken h = first-behind mark lines more unbroken h
first-marked w mark (Some s) lines more unbroken h =
    record { first = mark ∷ 32 ∷ block_sign (kept_ends s); others = block_lines w s ++ more; is = refl; line = line-marked mark (block_sign (kept_ends s)) unbroken (sign-line (kept_ends s)) }

first-flat : (b : Bool) (key : List ℕ) (v : Plain) (lines more : List (List ℕ)) → IsLine key → is_flat v ≡ b → IsWithin v
    → HasFirst ((if b then (key ++ 58 ∷ 32 ∷ spelling v) ∷ [] else (key ++ 58 ∷ []) ∷ map indented lines) ++ more)
first-flat true key v lines more k e within = record { first = key ++ 58 ∷ 32 ∷ spelling v; others = more; is = refl; line = line-key key (spelling v) k (spelling_line v e within) }
first-flat false key v lines more k e within = record { first = key ++ 58 ∷ []; others = map indented lines ++ more; is = refl; line = line-colon key k }

first-keyed : (w : Blocks) (key : List ℕ) (v : Plain) (o : Option (List ℕ)) (lines more : List (List ℕ)) → IsLine key → IsWithin v → HasFirst (keyed w key v o lines ++ more)
first-keyed w key v None lines more k within = first-flat (is_flat v) key v lines more k refl within
first-keyed w key v (Some s) lines more k within =
    record { first = key ++ 58 ∷ 32 ∷ block_sign (kept_ends s); others = block_lines w s ++ more; is = refl; line = line-key key (block_sign (kept_ends s)) k (sign-line (kept_ends s)) }

first-entry : (b : Bool) (w : Blocks) (k v : Plain) (ks vs more : List (List ℕ)) → is_simple k ≡ b → IsWithin k → IsWithin v → HasFirst ks
    → HasFirst ((if b then keyed w (spelling k) v (as_block w v) vs else behind 63 ks ++ marked w 58 (as_block w v) vs) ++ more)
first-entry true w k v ks vs more e kw vw h = first-keyed w (spelling k) v (as_block w v) vs more (key-line k e kw) vw
first-entry false w k v ks vs more e kw vw h =
    let value : List (List ℕ) = marked w 58 (as_block w v) vs in
    let P : List (List ℕ) → Type 0 = λ x. HasFirst x in
    subst P (sym (append_assoc (behind 63 ks) value more)) (first-behind 63 ks (value ++ more) refl h)

pub printed-first : (p : Plain) (w : Blocks) → IsWithin p → HasFirst (lines_of w p)
printed-first null w h = record { first = spelling null; others = []; is = refl; line = spelling_line null refl h }
printed-first (bool b) w h = record { first = spelling (bool b); others = []; is = refl; line = spelling_line (bool b) refl h }
printed-first (int z) w h = record { first = spelling (int z); others = []; is = refl; line = spelling_line (int z) refl h }
printed-first (text s) w h = record { first = spelling (text s); others = []; is = refl; line = spelling_line (text s) refl h }
printed-first (list no_items) w h = record { first = spelling (list no_items); others = []; is = refl; line = spelling_line (list no_items) refl h }
printed-first (list (item p ps)) w h =
    let u : Blocks = before_items w ps in
    first-marked u 45 (as_block u p) (lines_of u p) (item_lines w ps) refl (printed-first p u h.0)
printed-first (dict no_entries) w h = record { first = spelling (dict no_entries); others = []; is = refl; line = spelling_line (dict no_entries) refl h }
printed-first (dict (entry k v es)) w h =
    let u : Blocks = before_entries w es in
    first-entry (is_simple k) u k v (lines_of (before_more w) k) (lines_of u v) (entry_lines w es) refl h.0 h.1.0 (printed-first k (before_more w) h.0)

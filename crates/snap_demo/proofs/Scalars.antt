-- The printed text of a tree without literal blocks is of characters where the texts of the tree are.
use Rattle.snap_demo.proofs.Prelude.{◌≡◌, ℕ, ◌<◌, ◌^◌, List, [], ◌∷◌, ◌++◌, map, Bool, true, false, ◌&&◌, ◌||◌, ◌==◌, Option, None, Some, refl, sym, ap, ◌∙◌, subst, arith, nat_tests, scalars, scalar, low_scalar, decimal, suc, pos, negsuc, ℤ, if◌then◌else◌, codes}
use Rattle.std.proofs.lemmas.Fmt.{IsAscii-decimal_wide}
use Rattle.std.proofs.lemmas.Str.{chars-IsAscii, scalars-chars, IsUtf8-from_ascii}
use Rattle.std.specs.Fmt.{signed_decimal, digit_glyph}
use Rattle.std.specs.List.{flat_map}
use Rattle.std.specs.Str.{IsAscii}
use Rattle.snap_content.specs.Lines.{ended}
use Rattle.snap_content.specs.Plain.{Plain, null, bool, int, text, list, dict, Plains, no_items, item, Entries, no_entries, entry}
use Rattle.snap_content.specs.Quotes.{needs_quotes}
use Rattle.snap_print.proofs.Escapes.{Kind, kind}
use Rattle.snap_print.proofs.Escapes.Kind.{quote, slash, backspace, tab, line_end, page_end, line_start, coded, bare}
use Rattle.snap_print.specs.Blocks.{Blocks, off, inside, end, last, before_more, as_block}
use Rattle.snap_print.specs.Lines.{indented, behind, marked, keyed, entry_block, is_simple, before_items, before_entries, lines_of, item_lines, entry_lines, text_of, document_of}
use Rattle.snap_print.specs.Readable.{IsWithin, AreWithin, AreEntriesWithin, IsNumber}
use Rattle.snap_print.specs.Spell.{escaped, quoted, spell_text, spelling, is_flat}

-- each text of the tree is of characters
abbrev mutual
  pub HasCharacters : Plain → Type 0
  HasCharacters null = Unit {0}
  HasCharacters (bool b) = Unit {0}
  HasCharacters (int z) = IsNumber z
  HasCharacters (text s) = scalars s ≡ true
  HasCharacters (list items) = HaveCharacters items
  HasCharacters (dict entries) = EntriesHaveCharacters entries

  pub HaveCharacters : Plains → Type 0
  HaveCharacters no_items = Unit {0}
  HaveCharacters (item p ps) = HasCharacters p × HaveCharacters ps

  pub EntriesHaveCharacters : Entries → Type 0
  EntriesHaveCharacters no_entries = Unit {0}
  EntriesHaveCharacters (entry k v es) = HasCharacters k × (HasCharacters v × EntriesHaveCharacters es)

and_both : (a b : Bool) → a ≡ true → b ≡ true → (a && b) ≡ true
and_both a b e f = ap (λ x. x && b) e ∙ f

and_first : (a b : Bool) → (a && b) ≡ true → a ≡ true
and_first true b e = refl
and_first false b e = cc

and_second : (a b : Bool) → (a && b) ≡ true → b ≡ true
and_second true b e = e
and_second false b e = cc

pub joined : (a b : List ℕ) → scalars a ≡ true → scalars b ≡ true → scalars (a ++ b) ≡ true
joined [] b h k = k
joined (c ∷ a) b h k = and_both (scalar c) (scalars (a ++ b)) (and_first (scalar c) (scalars a) h) (joined a b (and_second (scalar c) (scalars a) h) k)

-- ASCII is of characters
pub ascii_scalars : (s : List ℕ) → IsAscii s → scalars s ≡ true
ascii_scalars s h = ap scalars (sym (chars-IsAscii s h)) ∙ scalars-chars s (IsUtf8-from_ascii s h)

pub decimal_scalars : (n : ℕ) → n < 10 ^ 64 → scalars (decimal n) ≡ true
decimal_scalars n small = ascii_scalars (decimal n) (IsAscii-decimal_wide n small)

number_scalars : (z : ℤ) → IsNumber z → scalars (signed_decimal z) ≡ true
number_scalars (pos n) h = let small : n < 10 ^ 64 = omega (arith, h) in decimal_scalars n small
number_scalars (negsuc n) h = let small : suc n < 10 ^ 64 = omega (arith, h) in decimal_scalars (suc n) small

glyph_below : (d : ℕ) → d < 16 → digit_glyph false d < 128
glyph_below d h = grind (arith, nat_tests)

glyph_scalar : (d : ℕ) → d < 16 → scalar (digit_glyph false d) ≡ true
glyph_scalar d h = let below = glyph_below d h in low_scalar (digit_glyph false d) (omega (arith, below))

kind_scalars : (c : ℕ) (w : List ℕ) → scalar c ≡ true → Kind c w → scalars w ≡ true
kind_scalars c _ h (quote is) = refl
kind_scalars c _ h (slash is) = refl
kind_scalars c _ h (backspace is) = refl
kind_scalars c _ h (tab is) = refl
kind_scalars c _ h (line_end is) = refl
kind_scalars c _ h (page_end is) = refl
kind_scalars c _ h (line_start is) = refl
kind_scalars c _ h (coded high low a b is) = rw (glyph_scalar high a, glyph_scalar low b) refl
kind_scalars c _ h (bare no_quote no_slash high) = and_both (scalar c) true h refl

escaped_scalars : (s : List ℕ) → scalars s ≡ true → scalars (flat_map escaped s) ≡ true
escaped_scalars [] h = refl
escaped_scalars (c ∷ s) h =
    joined (escaped c) (flat_map escaped s) (kind_scalars c (escaped c) (and_first (scalar c) (scalars s) h) (kind c)) (escaped_scalars s (and_second (scalar c) (scalars s) h))

spelled_by : (b : Bool) (s : List ℕ) → scalars s ≡ true → scalars (if b then quoted s else s) ≡ true
spelled_by true s h = joined (flat_map escaped s) (34 ∷ []) (escaped_scalars s h) refl
spelled_by false s h = h

pub spelled_scalars : (s : List ℕ) → scalars s ≡ true → scalars (spell_text s) ≡ true
spelled_scalars s h = spelled_by (needs_quotes s) s h

spelling_scalars : (p : Plain) → HasCharacters p → scalars (spelling p) ≡ true
spelling_scalars null h = refl
spelling_scalars (bool true) h = refl
spelling_scalars (bool false) h = refl
spelling_scalars (int z) h = number_scalars z h
spelling_scalars (text s) h = spelled_scalars s h
spelling_scalars (list _) h = refl
spelling_scalars (dict _) h = refl

-- lines

abbrev pub AreOfCharacters : List (List ℕ) → Type 0
AreOfCharacters [] = Unit {0}
AreOfCharacters (line ∷ lines) = (scalars line ≡ true) × AreOfCharacters lines

lines_joined : (a b : List (List ℕ)) → AreOfCharacters a → AreOfCharacters b → AreOfCharacters (a ++ b)
lines_joined [] b h k = k
lines_joined (line ∷ a) b h k = (h.0, lines_joined a b h.1 k)

indented_line : (line : List ℕ) → scalars line ≡ true → scalars (indented line) ≡ true
indented_line [] h = refl
indented_line (c ∷ cs) h = h

indented_lines : (lines : List (List ℕ)) → AreOfCharacters lines → AreOfCharacters (map indented lines)
indented_lines [] h = tt
indented_lines (line ∷ lines) h = (indented_line line h.0, indented_lines lines h.1)

behind_lines : (mark : ℕ) (lines : List (List ℕ)) → scalar mark ≡ true → AreOfCharacters lines → AreOfCharacters (behind mark lines)
behind_lines mark [] m h = tt
behind_lines mark (line ∷ lines) m h = (and_both (scalar mark) (scalars (32 ∷ line)) m h.0, indented_lines lines h.1)

no_block : (w : Blocks) (p : Plain) → w ≡ off → as_block w p ≡ None
no_block w null e = refl
no_block w (bool b) e = refl
no_block w (int z) e = refl
no_block w (text s) e = ap (λ v. as_block v (text s)) e
no_block w (list ps) e = refl
no_block w (dict es) e = refl

marked_lines : (w : Blocks) (mark : ℕ) (o : Option (List ℕ)) (lines : List (List ℕ)) → o ≡ None → scalar mark ≡ true → AreOfCharacters lines → AreOfCharacters (marked w mark o lines)
marked_lines w mark None lines none m h = behind_lines mark lines m h
marked_lines w mark (Some s) lines none m h = absurd (cc none)

flat_lines : (b : Bool) (key : List ℕ) (v : Plain) (lines : List (List ℕ)) → scalars key ≡ true → HasCharacters v → AreOfCharacters lines
    → AreOfCharacters (if b then (key ++ 58 ∷ 32 ∷ spelling v) ∷ [] else (key ++ 58 ∷ []) ∷ map indented lines)
flat_lines true key v lines k c h = (joined key (58 ∷ 32 ∷ spelling v) k (spelling_scalars v c), tt)
flat_lines false key v lines k c h = (joined key (58 ∷ []) k refl, indented_lines lines h)

keyed_lines : (w : Blocks) (key : List ℕ) (v : Plain) (o : Option (List ℕ)) (lines : List (List ℕ)) → o ≡ None → scalars key ≡ true → HasCharacters v → AreOfCharacters lines → AreOfCharacters (keyed w key v o lines)
keyed_lines w key v None lines none k c h = flat_lines (is_flat v) key v lines k c h
keyed_lines w key v (Some s) lines none k c h = absurd (cc none)

entry_by : (b : Bool) (w : Blocks) (k v : Plain) (ks vs : List (List ℕ)) → w ≡ off → HasCharacters k → HasCharacters v → AreOfCharacters ks → AreOfCharacters vs
    → AreOfCharacters (if b then keyed w (spelling k) v (as_block w v) vs else behind 63 ks ++ marked w 58 (as_block w v) vs)
entry_by true w k v ks vs e ck cv hk hv = keyed_lines w (spelling k) v (as_block w v) vs (no_block w v e) (spelling_scalars k ck) cv hv
entry_by false w k v ks vs e ck cv hk hv =
    lines_joined (behind 63 ks) (marked w 58 (as_block w v) vs) (behind_lines 63 ks refl hk) (marked_lines w 58 (as_block w v) vs (no_block w v e) refl hv)

pair_lines : (u w : Blocks) (k v : Plain) → w ≡ off → HasCharacters k → HasCharacters v → AreOfCharacters (lines_of u k) → AreOfCharacters (lines_of w v) → AreOfCharacters (entry_block w k v (lines_of u k) (lines_of w v))
pair_lines u w k v e ck cv hk hv = entry_by (is_simple k) w k v (lines_of u k) (lines_of w v) e ck cv hk hv

child_lines : (w : Blocks) (p : Plain) → w ≡ off → AreOfCharacters (lines_of w p) → AreOfCharacters (marked w 45 (as_block w p) (lines_of w p))
child_lines w p e h = marked_lines w 45 (as_block w p) (lines_of w p) (no_block w p e) refl h

off_more : (w : Blocks) → w ≡ off → before_more w ≡ off
off_more w e = ap before_more e

off_items : (w : Blocks) (ps : Plains) → w ≡ off → before_items w ps ≡ off
off_items w no_items e = e
off_items w (item p ps) e = off_more w e

off_entries : (w : Blocks) (es : Entries) → w ≡ off → before_entries w es ≡ off
off_entries w no_entries e = e
off_entries w (entry k v es) e = off_more w e

mutual
  printed_lines : (w : Blocks) (p : Plain) → w ≡ off → HasCharacters p → AreOfCharacters (lines_of w p)
  printed_lines w null e h = (refl, tt)
  printed_lines w (bool b) e h = (spelling_scalars (bool b) h, tt)
  printed_lines w (int z) e h = (spelling_scalars (int z) h, tt)
  printed_lines w (text s) e h = (spelling_scalars (text s) h, tt)
  printed_lines w (list no_items) e h = (refl, tt)
  printed_lines w (list (item p ps)) e h =
      let o = off_items w ps e in
      lines_joined _ (item_lines w ps) (child_lines (before_items w ps) p o (printed_lines (before_items w ps) p o h.0)) (items_printed w ps e h.1)
  printed_lines w (dict no_entries) e h = (refl, tt)
  printed_lines w (dict (entry k v es)) e h =
      let o = off_entries w es e in
      lines_joined _ (entry_lines w es)
      (pair_lines (before_more w) (before_entries w es) k v o h.0 h.1.0 (printed_lines (before_more w) k (off_more w e) h.0) (printed_lines (before_entries w es) v o h.1.0)) (entries_printed w es e h.1.1)

  items_printed : (w : Blocks) (ps : Plains) → w ≡ off → HaveCharacters ps → AreOfCharacters (item_lines w ps)
  items_printed w no_items e h = tt
  items_printed w (item p ps) e h =
      let o = off_items w ps e in
      lines_joined _ (item_lines w ps) (child_lines (before_items w ps) p o (printed_lines (before_items w ps) p o h.0)) (items_printed w ps e h.1)

  entries_printed : (w : Blocks) (es : Entries) → w ≡ off → EntriesHaveCharacters es → AreOfCharacters (entry_lines w es)
  entries_printed w no_entries e h = tt
  entries_printed w (entry k v es) e h =
      let o = off_entries w es e in
      lines_joined _ (entry_lines w es)
      (pair_lines (before_more w) (before_entries w es) k v o h.0 h.1.0 (printed_lines (before_more w) k (off_more w e) h.0) (printed_lines (before_entries w es) v o h.1.0)) (entries_printed w es e h.1.1)

pub lines_scalars : (p : Plain) → HasCharacters p → AreOfCharacters (lines_of off p)
lines_scalars p h = printed_lines off p refl h

ended_scalars : (lines : List (List ℕ)) → AreOfCharacters lines → scalars (flat_map ended lines) ≡ true
ended_scalars [] h = refl
ended_scalars (line ∷ lines) h = joined (ended line) (flat_map ended lines) (joined line (10 ∷ []) h.0 refl) (ended_scalars lines h.1)

pub text_scalars : (p : Plain) → HasCharacters p → scalars (text_of off p) ≡ true
text_scalars p h = ended_scalars (lines_of off p) (lines_scalars p h)

pub document_scalars : (p : Plain) → HasCharacters p → scalars (document_of off p) ≡ true
document_scalars p h = joined (codes "---\n") (text_of off p) refl (text_scalars p h)

-- A file that is made of two printed texts falls into them again.
use Rattle.snap_store.proofs.Prelude.{◌≡◌, ◌==◌, ℕ, List, [], ◌∷◌, ◌++◌, Bool, true, false, ◌||◌, cond, codes, map, refl, sym, ap, ◌∙◌, append_assoc, append-nil, subst, drop, list_any, flat_map, bytes_eq, Option, None, Some, Plain, null, bool, int, text, list, dict, no_items, item, no_entries, entry, lines_of, text_of, document_of, ended, is_line_end, IsUnbroken, ended_lines, line_of, joined_lines, up_to_fence, past_fence, header_text, lines_text, first_is_fence, is_headed, file_text, FallsInto, or_left, or_right, concat}
use Rattle.std.proofs.lemmas.Slice.Eq.{bytes_eq-Decides}
use Rattle.snap_print.specs.Blocks.{Blocks, before_more, as_block, kept_ends, block_sign}
use Rattle.snap_print.specs.Lines.{behind, marked, keyed, block_lines, is_simple, indented, before_items, before_entries, item_lines, entry_lines}
use Rattle.snap_print.specs.Printed.{IsRow, AreRows, is_break, begins_dashes}
use Rattle.snap_print.specs.Spell.{spelling, is_flat}
use Rattle.snap_store.proofs.Pieces.{pieces-line}
use Rattle.snap_store.proofs.LineEnds.{ended_by_feed}
use Rattle.snap_store.proofs.Bodies.{body-headed}
use Rattle.snap_text.proofs.Trimming.{trimmed-push, trimmed-dashes}
use Rattle.snap_text.specs.Normal.{trimmed, is_fence}
use Rattle.snap_store.specs.FileSplit.{header_of, body_of}

-- a line holds no LF, and ends in no CR
unbroken_line : (line : List ℕ) → list_any is_break line ≡ false → IsUnbroken line
unbroken_line [] h = refl
unbroken_line (c ∷ cs) h =
    ap (λ b. b || list_any is_line_end cs) (or_left (c == 10) (c == 13) (or_left (is_break c) (list_any is_break cs) h))
    ∙ unbroken_line cs (or_right (is_break c) (list_any is_break cs) h)

no_return : (front : List ℕ) → list_any is_break (front ++ 13 ∷ []) ≡ false → ⊥
no_return [] h = cc
no_return (c ∷ cs) h = no_return cs (or_right (is_break c) (list_any is_break (cs ++ 13 ∷ [])) h)

line-ended : (line : List ℕ) → IsRow line → line_of (ended line) ≡ line
line-ended line h = ended_by_feed line (λ front e. no_return front (ap (list_any is_break) (sym e) ∙ h.unbroken))

-- no row is a fence, whatever white space ends it
no_dashes : (line : List ℕ) → begins_dashes line ≡ false → (same : Bool) → bytes_eq line (codes "---") ≡ same → same ≡ false
no_dashes line h true is = absurd (let e = ap begins_dashes (sym ((bytes_eq-Decides line (codes "---")).0 is)) ∙ h in cc (e))
no_dashes line h false is = refl

no_fence : (line : List ℕ) → IsRow line → is_fence (ended line) ≡ false
no_fence line h =
    ap (λ t. bytes_eq t (codes "---")) (trimmed-push line 10 refl)
    ∙ no_dashes (trimmed line) (trimmed-dashes line h.no_dashes) (bytes_eq (trimmed line) (codes "---")) refl

-- the pieces of lines are those lines with their ends
pub pieces-lines : (lines : List (List ℕ)) (more : List ℕ) → AreRows lines → ended_lines (flat_map ended lines ++ more) ≡ map ended lines ++ ended_lines more
pieces-lines [] more h = refl
pieces-lines (line ∷ lines) more h =
    ap ended_lines (append_assoc (ended line) (flat_map ended lines) more ∙ append_assoc line (10 ∷ []) (flat_map ended lines ++ more))
    ∙ pieces-line line (flat_map ended lines ++ more) (unbroken_line line h.0.unbroken)
    ∙ ap (λ ps. ended line ∷ ps) (pieces-lines lines more h.1)

up_to : (lines more : List (List ℕ)) → AreRows lines → up_to_fence (map ended lines ++ codes "---\n" ∷ more) ≡ map ended lines
up_to [] more h = refl
up_to (line ∷ lines) more h =
    ap (λ b. cond b [] (ended line ∷ up_to_fence (map ended lines ++ codes "---\n" ∷ more))) (no_fence line h.0) ∙ ap (λ ps. ended line ∷ ps) (up_to lines more h.1)

past : (lines more : List (List ℕ)) → AreRows lines → past_fence (map ended lines ++ codes "---\n" ∷ more) ≡ more
past [] more h = refl
past (line ∷ lines) more h =
    ap (λ b. cond b (map ended lines ++ codes "---\n" ∷ more) (past_fence (map ended lines ++ codes "---\n" ∷ more))) (no_fence line h.0) ∙ past lines more h.1

concat-ended : (lines : List (List ℕ)) → concat (map ended lines) ≡ flat_map ended lines
concat-ended [] = refl
concat-ended (line ∷ lines) = ap (λ t. ended line ++ t) (concat-ended lines)

lines-ended : (lines : List (List ℕ)) → AreRows lines → map line_of (map ended lines) ≡ lines
lines-ended [] h = refl
lines-ended (line ∷ lines) h = ap (λ l. l ∷ map line_of (map ended lines)) (line-ended line h.0) ∙ ap (λ ls. line ∷ ls) (lines-ended lines h.1)

joined-ended : (line : List ℕ) (lines : List (List ℕ)) → joined_lines (line ∷ lines) ++ 10 ∷ [] ≡ flat_map ended (line ∷ lines)
joined-ended line [] = sym (append-nil (ended line))
joined-ended line (next ∷ lines) =
    append_assoc line (10 ∷ joined_lines (next ∷ lines)) (10 ∷ []) ∙ ap (λ t. line ++ 10 ∷ t) (joined-ended next lines)
    ∙ sym (append_assoc line (10 ∷ []) (flat_map ended (next ∷ lines)))

-- the text is headed, and falls into this header and the pieces of this body
pub record IsUnder (text header body : List ℕ) : Type 0 where
  pub headed : is_headed text ≡ true
  pub header_is : header_of text ≡ header
  pub body_is : body_of text ≡ lines_text (ended_lines body)

-- a header of rows, and whatever body
pub rows-under : (header : List (List ℕ)) (body : List ℕ) → AreRows header
    → IsUnder ((codes "---\n" ++ flat_map ended header) ++ codes "---\n" ++ body) (codes "---\n" ++ flat_map ended header) body
rows-under header body h =
    let text = (codes "---\n" ++ flat_map ended header) ++ codes "---\n" ++ body in
    let rest = ended_lines body in
    let cut : ended_lines text ≡ codes "---\n" ∷ (map ended header ++ codes "---\n" ∷ rest) =
    ap ended_lines (append_assoc (codes "---\n" ++ flat_map ended header) (codes "---\n") body)
    ∙ ap (λ ps. codes "---\n" ∷ ps) (pieces-lines header (codes "---\n" ++ body) h) in
    let headed : is_headed text ≡ true = ap first_is_fence cut in
    record {
      headed = headed;
      header_is = ap header_text cut ∙ ap (λ t. codes "---\n" ++ t) (ap concat (up_to header rest h) ∙ concat-ended header);
      body_is = body-headed text headed ∙ ap (λ ps. lines_text (past_fence (drop 1 ps))) cut ∙ ap lines_text (past header rest h);
    }

pub lines-split : (header : List (List ℕ)) (line : List ℕ) (lines : List (List ℕ)) → AreRows header → AreRows (line ∷ lines)
    → FallsInto ((codes "---\n" ++ flat_map ended header) ++ codes "---\n" ++ flat_map ended (line ∷ lines)) (codes "---\n" ++ flat_map ended header) (flat_map ended (line ∷ lines))
lines-split header line lines h k =
    let body = flat_map ended (line ∷ lines) in
    let rest = map ended (line ∷ lines) in
    let under = rows-under header body h in
    let body_pieces : ended_lines body ≡ rest =
    ap ended_lines (sym (append-nil body)) ∙ pieces-lines (line ∷ lines) [] k ∙ append-nil rest in
    record {
      headed = under.headed;
      header_is = under.header_is;
      body_is =
          ap (λ t. t ++ 10 ∷ []) (under.body_is ∙ ap lines_text body_pieces ∙ ap joined_lines (lines-ended (line ∷ lines) k)) ∙ joined-ended line lines;
    }

-- a plain tree has a line
pub record HasLine (lines : List (List ℕ)) : Type 0 where
  pub first : List ℕ
  pub others : List (List ℕ)
  pub is : lines ≡ first ∷ others

behind_line : (mark : ℕ) (lines more : List (List ℕ)) → HasLine lines → HasLine (behind mark lines ++ more)
behind_line mark lines more h = record {
  first = mark ∷ 32 ∷ h.first;
  others = map indented h.others ++ more;
  is = ap (λ ls. behind mark ls ++ more) h.is;
}

marked_line : (w : Blocks) (mark : ℕ) (o : Option (List ℕ)) (lines more : List (List ℕ)) → HasLine lines → HasLine (marked w mark o lines ++ more)
marked_line w mark None lines more h = behind_line mark lines more h
marked_line w mark (Some s) lines more h = record { first = mark ∷ 32 ∷ block_sign (kept_ends s); others = block_lines w s ++ more; is = refl }

flat_line : (flat : Bool) (key value : List ℕ) (lines more : List (List ℕ)) → HasLine (cond flat ((key ++ 58 ∷ 32 ∷ value) ∷ []) ((key ++ 58 ∷ []) ∷ map indented lines) ++ more)
flat_line true key value lines more = record { first = key ++ 58 ∷ 32 ∷ value; others = more; is = refl }
flat_line false key value lines more = record { first = key ++ 58 ∷ []; others = map indented lines ++ more; is = refl }

keyed_line : (w : Blocks) (key : List ℕ) (v : Plain) (o : Option (List ℕ)) (lines more : List (List ℕ)) → HasLine (keyed w key v o lines ++ more)
keyed_line w key v None lines more = flat_line (is_flat v) key (spelling v) lines more
keyed_line w key v (Some s) lines more = record { first = key ++ 58 ∷ 32 ∷ block_sign (kept_ends s); others = block_lines w s ++ more; is = refl }

entry_line : (simple : Bool) (w : Blocks) (key : List ℕ) (v : Plain) (o : Option (List ℕ)) (key_lines lines more : List (List ℕ)) → HasLine key_lines
    → HasLine (cond simple (keyed w key v o lines) (behind 63 key_lines ++ marked w 58 o lines) ++ more)
entry_line true w key v o key_lines lines more h = keyed_line w key v o lines more
entry_line false w key v o key_lines lines more h =
    let both = behind_line 63 key_lines (marked w 58 o lines ++ more) h in
    record { first = both.first; others = both.others; is = append_assoc (behind 63 key_lines) (marked w 58 o lines) more ∙ both.is }

pub has_line : (w : Blocks) (t : Plain) → HasLine (lines_of w t)
has_line w null = record { first = codes "~"; others = []; is = refl }
has_line w (bool b) = record { first = spelling (bool b); others = []; is = refl }
has_line w (int z) = record { first = spelling (int z); others = []; is = refl }
has_line w (text s) = record { first = spelling (text s); others = []; is = refl }
has_line w (list no_items) = record { first = codes "[]"; others = []; is = refl }
has_line w (list (item t ts)) =
    let u = before_items w ts in
    marked_line u 45 (as_block u t) (lines_of u t) (item_lines w ts) (has_line u t)
has_line w (dict no_entries) = record { first = codes "{}"; others = []; is = refl }
has_line w (dict (entry k v es)) =
    let u = before_entries w es in
    entry_line (is_simple k) u (spelling k) v (as_block u v) (lines_of (before_more w) k) (lines_of u v) (entry_lines w es) (has_line (before_more w) k)

-- the file of a header and a body that are printed falls into both
pub file-split : (v w : Blocks) (header body : Plain) → AreRows (lines_of v header) → AreRows (lines_of w body)
    → FallsInto (file_text v header w body) (document_of v header) (text_of w body)
file-split v w header body h k =
    let filled = has_line w body in
    let P : List (List ℕ) → Type 0 = λ lines. FallsInto (document_of v header ++ codes "---\n" ++ flat_map ended lines) (document_of v header) (flat_map ended lines) in
    let Q : List (List ℕ) → Type 0 = λ lines. AreRows lines in
    subst P (sym filled.is) (lines-split (lines_of v header) filled.first filled.others h (subst Q filled.is k))

-- No NUL stands in the text of a layout.
use Rattle.snap_parse_laws.proofs.Prelude.{◌≡◌, ℕ, ◌+◌, List, [], ◌∷◌, ◌++◌, Bool, true, refl, ◌||◌, ◌&&◌, ◌==◌, length, list_all, is_some, is_break, is_code, blanks, block_at, square, curly, and_parts, or_parts, not_true}
use Rattle.snap_scan_tokens.specs.Quoted.{escaped, further_digits, value_of}
use Rattle.snap_parse_laws.specs.Forms as form
use Rattle.snap_parse_laws.specs.Layouts as w
use Rattle.snap_parse_laws.specs.LayoutTexts as laid
use Rattle.snap_parse_laws.specs.LayoutRules as rule
use Rattle.snap_parse_laws.proofs.Escapes.{apart}
use Rattle.snap_parse_laws.proofs.Nuls.{has_no_nul, no-nul-more, no-nul-append, no-nul-blanks, no-nul-scalar, no-nul-block}

nul-break : (e : w.Break) (x : List ℕ) → has_no_nul x ≡ true → has_no_nul (laid.break_onto e x) ≡ true
nul-break w.feed x h = h
nul-break w.return_feed x h = h

nul-comment : (cs x : List ℕ) → list_all rule.is_in_comment cs ≡ true → has_no_nul x ≡ true → has_no_nul (cs ++ x) ≡ true
nul-comment [] x is h = h
nul-comment (c ∷ cs) x is h =
    let two = and_parts (rule.is_in_comment c) (list_all rule.is_in_comment cs) is in
    no-nul-more c (cs ++ x) (or_parts (is_break c) (c == 0) (not_true _ two.0)).1 (nul-comment cs x two.1 h)

nul-filler : (f : w.Filler) (x : List ℕ) → rule.is_filler f ≡ true → has_no_nul x ≡ true → has_no_nul (laid.filler_onto f x) ≡ true
nul-filler (w.blank n) x is h = no-nul-append (blanks n) x (no-nul-blanks n) h
nul-filler (w.comment n cs) x is h = no-nul-append (blanks n) (35 ∷ (cs ++ x)) (no-nul-blanks n) (nul-comment cs x is h)

nul-fillers : (fs : w.Fillers) (x : List ℕ) → rule.are_fillers fs ≡ true → has_no_nul x ≡ true → has_no_nul (laid.fillers_onto fs x) ≡ true
nul-fillers w.no_filler x is h = h
nul-fillers (w.filler f e fs) x is h =
    let two = and_parts (rule.is_filler f) (rule.are_fillers fs) is in
    nul-filler f (laid.break_onto e (laid.fillers_onto fs x)) two.0 (nul-break e (laid.fillers_onto fs x) (nul-fillers fs x two.1 h))

pub nul-gap : (g : w.Gap) (x : List ℕ) → rule.is_gap g ≡ true → has_no_nul x ≡ true → has_no_nul (laid.gap_onto g x) ≡ true
nul-gap g x is h = nul-break g.end (laid.fillers_onto g.fillers x) (nul-fillers g.fillers x is h)

nul-rest : (r : w.Rest) (e : rule.Position) (x : List ℕ) → rule.IsRest e r → has_no_nul x ≡ true → has_no_nul (laid.rest_onto r x) ≡ true
nul-rest (w.next g) e x is h = nul-gap g x is h
nul-rest w.unended e x is h = h
nul-rest (w.half g f) e x is h = nul-gap g (laid.filler_onto f x) is.1 (nul-filler f x is.2 h)

nul-digits : (ds x : List ℕ) → list_all rule.is_hexadecimal ds ≡ true → has_no_nul x ≡ true → has_no_nul (ds ++ x) ≡ true
nul-digits [] x is h = h
nul-digits (d ∷ ds) x is h =
    let two = and_parts (rule.is_hexadecimal d) (list_all rule.is_hexadecimal ds) is in
    no-nul-more d (ds ++ x) (apart rule.is_hexadecimal 0 d refl two.0) (nul-digits ds x two.1 h)

abbrev is_escape : ℕ → Bool
is_escape c = is_some (escaped c)

abbrev is_code_sign : ℕ → Bool
is_code_sign c = is_some (further_digits c)

nul-letter : (a : w.Letter) (x : List ℕ) → rule.is_letter a ≡ true → has_no_nul x ≡ true → has_no_nul (laid.letter_text a ++ x) ≡ true
nul-letter (w.as_is c) x is h = no-nul-more c x (or_parts (c == 34 || c == 92 || is_break c) (c == 0) (not_true _ is)).1 h
nul-letter (w.short e) x is h = no-nul-more e x (apart is_escape 0 e refl is) h
nul-letter (w.code e ds) x is h =
    let d = and_parts (is_some (further_digits e) && length ds == value_of (further_digits e) + 1 && list_all rule.is_hexadecimal ds) (is_code (laid.number_from 0 ds)) is in
    let b = and_parts (is_some (further_digits e) && length ds == value_of (further_digits e) + 1) (list_all rule.is_hexadecimal ds) d.0 in
    let a = and_parts (is_some (further_digits e)) (length ds == value_of (further_digits e) + 1) b.0 in
    no-nul-more e (ds ++ x) (apart is_code_sign 0 e refl a.0) (nul-digits ds x b.1 h)

nul-letters : (s : w.Letters) → rule.are_letters s ≡ true → has_no_nul (laid.letters_text s) ≡ true
nul-letters w.no_letter is = refl
nul-letters (w.letter a s) is =
    let two = and_parts (rule.is_letter a) (rule.are_letters s) is in
    nul-letter a (laid.letters_text s) two.0 (nul-letters s two.1)

nul-scalar : (v : w.Scalar) (x : List ℕ) → rule.is_scalar v ≡ true → has_no_nul x ≡ true → has_no_nul (laid.spelled v ++ x) ≡ true
nul-scalar (w.bare u) x is h = no-nul-append u x (no-nul-scalar (form.bare u) is) h
nul-scalar (w.quote s) x is h = no-nul-append (laid.letters_text s) x (nul-letters s is) h

nul-leaf : (v : w.Leaf) (k : ℕ) (e : rule.Position) (x : List ℕ) → rule.IsLeaf e v → has_no_nul x ≡ true → has_no_nul (laid.leaf_onto k v x) ≡ true
nul-leaf (w.word s r) k e x is h = nul-scalar s (laid.rest_onto r x) is.0 (nul-rest r e x is.1 h)
nul-leaf (w.empty square r) k e x is h = nul-rest r e x is h
nul-leaf (w.empty curly r) k e x is h = nul-rest r e x is h
nul-leaf (w.block u kept more) k e x is h = no-nul-append (block_at (k + 1 + 1) u kept more) x (no-nul-block (k + 1 + 1) u kept more is) h

mutual
  nul-collection : (t : w.Collection) (k : ℕ) (e : rule.Position) (x : List ℕ) → rule.IsCollection e t → has_no_nul x ≡ true → has_no_nul (laid.collection_onto k t x) ≡ true
  nul-collection (w.list ts) k e x is h = nul-items ts k e x is h
  nul-collection (w.dict es) k e x is h = nul-entries es k e x is h

  nul-items : (ts : w.Items) (k : ℕ) (e : rule.Position) (x : List ℕ) → rule.AreItems e ts → has_no_nul x ≡ true → has_no_nul (laid.items_onto k ts x) ≡ true
  nul-items (w.last t) k e x is h = nul-item t k e x is h
  nul-items (w.item t ts) k e x is h =
      nul-item t k rule.inside (blanks k ++ (45 ∷ laid.items_onto k ts x)) is.0 (no-nul-append (blanks k) (45 ∷ laid.items_onto k ts x) (no-nul-blanks k) (nul-items ts k e x is.1 h))

  nul-item : (t : w.Item) (k : ℕ) (e : rule.Position) (x : List ℕ) → rule.IsItem e t → has_no_nul x ≡ true → has_no_nul (laid.item_onto k t x) ≡ true
  nul-item (w.piece n v) k e x is h = no-nul-append (blanks n) (laid.leaf_onto k v x) (no-nul-blanks n) (nul-leaf v k e x is h)
  nul-item (w.beside n t) k e x is h = no-nul-append (blanks n) (laid.collection_onto (k + 1 + 1 + n) t x) (no-nul-blanks n) (nul-collection t (k + 1 + 1 + n) e x is h)
  nul-item (w.below g n t) k e x is h =
      nul-gap g (blanks (k + 1 + n) ++ laid.collection_onto (k + 1 + n) t x) is.0
      (no-nul-append (blanks (k + 1 + n)) (laid.collection_onto (k + 1 + n) t x) (no-nul-blanks (k + 1 + n)) (nul-collection t (k + 1 + n) e x is.1 h))

  nul-value : (v : w.Value) (k : ℕ) (e : rule.Position) (x : List ℕ) → rule.IsValue e v → has_no_nul x ≡ true → has_no_nul (laid.value_onto k v x) ≡ true
  nul-value (w.piece_of n v) k e x is h = no-nul-append (blanks n) (laid.leaf_onto k v x) (no-nul-blanks n) (nul-leaf v k e x is h)
  nul-value (w.below_key g n t) k e x is h =
      nul-gap g (blanks (k + 1 + n) ++ laid.collection_onto (k + 1 + n) t x) is.0
      (no-nul-append (blanks (k + 1 + n)) (laid.collection_onto (k + 1 + n) t x) (no-nul-blanks (k + 1 + n)) (nul-collection t (k + 1 + n) e x is.1 h))
  nul-value (w.level g ts) k e x is h =
      nul-gap g (blanks k ++ (45 ∷ laid.items_onto k ts x)) is.0 (no-nul-append (blanks k) (45 ∷ laid.items_onto k ts x) (no-nul-blanks k) (nul-items ts k e x is.1 h))

  nul-entry : (t : w.Entry) (k : ℕ) (e : rule.Position) (x : List ℕ) → rule.IsEntry e t → has_no_nul x ≡ true → has_no_nul (laid.entry_onto k t x) ≡ true
  nul-entry (w.simple v t) k e x is h = nul-scalar v (58 ∷ laid.value_onto k t x) (and_parts (rule.is_scalar v) _ is.0).0 (nul-value t k e x is.1 h)
  nul-entry (w.complex q t) k e x is h =
      nul-item q k rule.inside (blanks k ++ (58 ∷ laid.item_onto k t x)) is.0 (no-nul-append (blanks k) (58 ∷ laid.item_onto k t x) (no-nul-blanks k) (nul-item t k e x is.1 h))

  nul-entries : (es : w.Entries) (k : ℕ) (e : rule.Position) (x : List ℕ) → rule.AreEntries e es → has_no_nul x ≡ true → has_no_nul (laid.entries_onto k es x) ≡ true
  nul-entries (w.only t) k e x is h = nul-entry t k e x is h
  nul-entries (w.pair t es) k e x is h =
      nul-entry t k rule.inside (blanks k ++ laid.entries_onto k es x) is.0 (no-nul-append (blanks k) (laid.entries_onto k es x) (no-nul-blanks k) (nul-entries es k e x is.1 h))

pub nul-layout : (t : w.Layout) (k : ℕ) (e : rule.Position) (x : List ℕ) → rule.IsLayout e t → has_no_nul x ≡ true → has_no_nul (laid.layout_onto k t x) ≡ true
nul-layout (w.leaf v) k e x is h = nul-leaf v k e x is h
nul-layout (w.collection t) k e x is h = nul-collection t k e x is h

pub document-nul : (d : w.Document) → rule.IsDocument d → has_no_nul (laid.document_text d) ≡ true
document-nul d is =
    nul-gap d.gap (blanks d.column ++ laid.layout_onto d.column d.tree []) is.0
    (no-nul-append (blanks d.column) (laid.layout_onto d.column d.tree []) (no-nul-blanks d.column) (nul-layout d.tree d.column rule.ending [] is.1 refl))

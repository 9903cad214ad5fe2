-- A document in any layout owes its tokens, and a printed one is such a document.
use Rattle.snap_parse_laws.proofs.Prelude.{Blocks, is_right_of, start_state, flat_map, document_at, form_of, document_tokens, ◌≡◌, ℕ, List, [], ◌∷◌, ◌++◌, Bool, true, false, refl, sym, ap, ◌∙◌, append-nil, append_assoc, Some, None, Option, map, subst, inl, map-append, if◌then◌else◌, slice_index, Mark, before_nul, mark_of, Token, TokenType, closed, done, refused, State, kept, ends, at, pushed, unrolled, fetched, left_by, none_more, one_more, type_of, Owes, here, calm, Settles, closing, blanks}
use Rattle.std.proofs.lemmas.List.{append_cancel_right}
use Rattle.snap_scan_tokens.specs.Place.{forced}
use Rattle.snap_scan_tokens.specs.declared.info.ScanInfo.TheVariants as info
use Rattle.snap_scan_tokens.specs.declared.token.TEncoding.TheVariants.{Utf8}
use Rattle.snap_scan_tokens.specs.declared.token.TokenType.TheVariants as k
use Rattle.snap_scan.specs.Keys.{is_required}
use Rattle.snap_scan.specs.Scan.{start_scan}
use Rattle.snap_scan.specs.declared.keys.SimpleKey.{SimpleKey}
use Rattle.snap_parse_laws.specs.LayoutTokens.{layout_tokens}
use Rattle.snap_parse_laws.specs.Layouts as w
use Rattle.snap_parse_laws.specs.LayoutTexts as laid
use Rattle.snap_parse_laws.specs.LayoutRules as rule
use Rattle.snap_parse_laws.specs.Tokens.{document_with}
use Rattle.snap_parse_laws.proofs.Arrivals.{Goes}
use Rattle.snap_parse_laws.proofs.Forms.{steps-append, at_end}
use Rattle.snap_parse_laws.proofs.Gaps.{standing, settles-gap}
use Rattle.snap_parse_laws.proofs.Laid.{collection, begins-leaf, begins-collection}
use Rattle.snap_parse_laws.proofs.LaidNuls.{document-nul}
use Rattle.snap_parse_laws.proofs.Leaves.{leaf, leaf-goes}
use Rattle.snap_parse_laws.proofs.Nuls.{without-nul}
use Rattle.snap_parse_laws.proofs.Pieces.{fetch-settled, types-ends}
use Rattle.snap_parse_laws.proofs.Skips.{stops_at}
use Rattle.snap_content.specs.Lines.{ended}
use Rattle.snap_print.specs.Lines as l
use Rattle.snap_content.specs.Plain.{Plain}
use Rattle.snap_parse_laws.specs.Endings.{ends_in_block}
use Rattle.snap_parse_laws.specs.PrintedLayouts.{line, printed_document, dumped_document}
use Rattle.snap_parse_laws.proofs.Endings.{same-end}
use Rattle.snap_parse_laws.proofs.LaidOut.{lines-text}
use Rattle.snap_parse_laws.proofs.PrintedLayouts as form
use Rattle.snap_parse_laws.proofs.Printables.{printable, no-block, same-lines, same-tokens}

-- blocks closed in two goes
closing-rest : (b : Bool) (x : TokenType) (xs all : List TokenType) (rest some : List ℕ)
    → xs ++ closing None rest ≡ all → (if b then x ∷ xs else []) ++ closing None (if b then rest else some) ≡ (if b then x ∷ all else closing None some)
closing-rest true x xs all rest some h = ap (λ y. x ∷ y) h
closing-rest false x xs all rest some h = refl

same_either : (b : Bool) (x : List TokenType) → (if b then x else x) ≡ x
same_either true x = refl
same_either false x = refl

pub closing-all : (c : Option ℕ) (os : List ℕ) → closing c os ++ closing None (kept c os) ≡ closing None os
closing-all c [] = refl
closing-all c (o ∷ os) =
    closing-rest (is_right_of c o) k.BlockEnd (closing c os) (closing None os) (kept c os) (o ∷ os) (closing-all c os)
    ∙ same_either (is_right_of c o) (closing None (o ∷ os))

abbrev pub start_mark : Mark
start_mark = record { index = 0; line = 1; col = 0 }

abbrev pub held_at_start : List Token
held_at_start = at start_mark (k.StreamStart Utf8) ∷ at start_mark k.DocumentStart ∷ []

-- the state once StreamStart was made
abbrev pub begun : List ℕ → State
begun cs = record (start_state cs) { started = true; held = at start_mark (k.StreamStart Utf8) ∷ [] }

-- the state after `---`
abbrev behind_start : List ℕ → State
behind_start x = calm false 0 (here x 3 1 3) held_at_start []

started : (e : w.Break) (x : List ℕ) → fetched (begun (45 ∷ 45 ∷ 45 ∷ laid.break_onto e x)) ≡ Some (behind_start (laid.break_onto e x))
started w.feed x = refl
started w.return_feed x = refl

begins-layout : (t : w.Layout) (j : ℕ) (e : rule.Position) (rest : List ℕ) → rule.IsLayout e t → stops_at (slice_index (laid.layout_onto j t rest) 0) ≡ false
begins-layout (w.leaf v) j e rest is = begins-leaf v j e rest is
begins-layout (w.collection t) j e rest is = begins-collection t j e rest is

layout-goes : (t : w.Layout) → rule.IsLayout rule.ending t → (j : ℕ) (s : State) (i l : ℕ) (h : List Token) → Settles true s (here (laid.layout_onto j t []) i l j) h []
    → Goes s (map type_of h) (layout_tokens t) None [] []
layout-goes (w.leaf v) is j s i l h stands = leaf-goes s (map type_of h) (layout_tokens (w.leaf v)) None [] [] (leaf v j rule.ending is true j [] refl refl None 0 [] at_end tt refl refl (inl refl) s i l h stands)
layout-goes (w.collection t) is j s i l h stands = collection t rule.ending is j [] refl None 0 [] at_end tt refl refl s i l h stands

-- the state after the end
abbrev before_end : Bool → Option SimpleKey → ℕ → ℕ → ℕ → ℕ → List Token → List ℕ → State
before_end b key a i l j h os = unrolled (Some j) (standing b key a (here [] i l j) h os)

abbrev stopped : State → State
stopped s = record (pushed (at (mark_of (forced s.place)) k.StreamEnd) (closed (record s { place = forced s.place }))) { ended = true }

not-required : (b : Bool) (m : Mark) (x : State) → b ≡ false → left_by (if b then refused m info.S2 else done x) ≡ Some x
not-required b m x h = rw h refl

finish : (c : Option ℕ) (h : List Token) (columns : List ℕ) (m n : Mark) (e : Token) (before toks : List TokenType)
    → map type_of h ++ closing None columns ≡ before ++ toks ++ []
    → map type_of (h ++ ends m c columns ++ ends n None (kept c columns) ++ e ∷ []) ≡ before ++ (toks ++ type_of e ∷ [])
finish c h columns m n e before toks given =
    let all : map type_of h ++ (closing c columns ++ closing None (kept c columns)) ≡ before ++ toks =
    rw (closing-all c columns) (given ∙ append-nil (before ++ toks)) in
    let after : List TokenType → List TokenType = λ x. x ++ type_of e ∷ [] in
    let split : map type_of (h ++ ends m c columns ++ ends n None (kept c columns) ++ e ∷ [])
    ≡ map type_of h ++ (map type_of (ends m c columns) ++ map type_of (ends n None (kept c columns))) ++ type_of e ∷ [] =
    simp (map-append, append_assoc) in
    split ∙ rw (types-ends m c columns, types-ends n None (kept c columns)) (ap after all) ∙ append_assoc before toks (type_of e ∷ [])

pub laid-document : (d : w.Document) → rule.IsDocument d → Owes (start_state (laid.document_text d)) (document_with (layout_tokens d.tree))
laid-document d is =
    let x : List ℕ = blanks d.column ++ laid.layout_onto d.column d.tree [] in
    let cs : List ℕ = 45 ∷ 45 ∷ 45 ∷ laid.gap_onto d.gap x in
    let s0 : State = start_state cs in
    let s1 : State = begun cs in
    let s2 : State = behind_start (laid.gap_onto d.gap x) in
    let there = settles-gap d.gap false 0 d.column 3 1 3 (laid.layout_onto d.column d.tree []) held_at_start [] is.0 (begins-layout d.tree d.column rule.ending [] is.1) in
    let tree = layout-goes d.tree is.1 d.column s2 there.index there.line held_at_start there.settles in
    let end = tree.arrives in
    let u : State = before_end end.allowed end.key end.adjacent end.index end.line end.column tree.held tree.columns in
    let m : Mark = mark_of (here [] end.index end.line end.column) in
    let n : Mark = mark_of (forced (here [] end.index end.line end.column)) in
    let last : fetched tree.to ≡ Some (stopped u) =
    fetch-settled tree.to (standing end.allowed end.key end.adjacent (here [] end.index end.line end.column) tree.held tree.columns) end.started end.ended end.timely end.stands
    ∙ not-required (is_required end.key) n (stopped u) end.free in
    record {
      end = stopped u;
      steps = one_more s0 s1 (stopped u) refl refl (one_more s1 s2 (stopped u) refl (started d.gap.end (laid.fillers_onto d.gap.fillers x))
          (steps-append s2 tree.to (stopped u) tree.steps (one_more tree.to (stopped u) (stopped u) end.ended last (none_more (stopped u)))));
      ended = refl;
      timely = refl;
      given = finish (Some end.column) tree.held tree.columns m n (at n k.StreamEnd) (k.StreamStart Utf8 ∷ k.DocumentStart ∷ []) (layout_tokens d.tree) tree.given;
    }

-- it ends at no NUL
pub laid-source : (d : w.Document) → rule.IsDocument d → Owes (start_scan (before_nul (laid.document_text d))).state (document_with (layout_tokens d.tree))
laid-source d is =
    let whole : before_nul (laid.document_text d) ≡ laid.document_text d = without-nul (laid.document_text d) (document-nul d is) in
    let Q : List ℕ → Type 0 = λ x. Owes (start_scan x).state (document_with (layout_tokens d.tree)) in
    subst Q (sym whole) (laid-document d is)

columns : (b : Blocks) (p : Plain) → l.document_of b p ≡ document_at (form_of b p)
columns b p =
    let join : List (List ℕ) → List ℕ = λ x. 45 ∷ 45 ∷ 45 ∷ 10 ∷ flat_map ended x in
    let after : List ℕ → List ℕ = λ x. 45 ∷ 45 ∷ 45 ∷ 10 ∷ x in
    ap join (same-lines b p) ∙ ap after (lines-text (form_of b p) (no-block b p) (printable b p))

pub plain-text : (b : Blocks) (p : Plain) → l.document_of b p ≡ laid.document_text (printed_document (form_of b p))
plain-text b p = columns b p ∙ sym (form.printed-text (form_of b p) (no-block b p))

pub plain-source : (b : Blocks) (p : Plain) → Owes (start_scan (before_nul (l.document_of b p))).state (document_tokens b p)
plain-source b p =
    let d : w.Document = printed_document (form_of b p) in
    let P : List ℕ → Type 0 = λ x. Owes (start_scan (before_nul x)).state (document_tokens b p) in
    let Q : List TokenType → Type 0 = λ x. Owes (start_scan (before_nul (laid.document_text d))).state (document_with x) in
    subst P (sym (plain-text b p)) (subst Q (form.same-tokens (w.next line) (form_of b p) ∙ same-tokens b p) (laid-source d (form.printed-is-laid (form_of b p) (printable b p))))

-- a printed text without its last line's end is the text of a layout
pub dumped-plain : (b : Blocks) (p : Plain) (text : List ℕ) → ends_in_block b p ≡ false → text ++ 10 ∷ [] ≡ l.document_of b p → text ≡ laid.document_text (dumped_document (form_of b p))
dumped-plain b p text free is =
    let d : w.Document = dumped_document (form_of b p) in
    append_cancel_right text (laid.document_text d) (10 ∷ []) (is ∙ columns b p ∙ sym (form.dumped-text (form_of b p) (no-block b p) (same-end b p ∙ free)))

pub dumped-source : (b : Blocks) (p : Plain) (text : List ℕ) → ends_in_block b p ≡ false → text ++ 10 ∷ [] ≡ l.document_of b p → Owes (start_scan (before_nul text)).state (document_tokens b p)
dumped-source b p text free is =
    let d : w.Document = dumped_document (form_of b p) in
    let P : List ℕ → Type 0 = λ x. Owes (start_scan (before_nul x)).state (document_tokens b p) in
    let Q : List TokenType → Type 0 = λ x. Owes (start_scan (before_nul (laid.document_text d))).state (document_with x) in
    subst P (sym (dumped-plain b p text free is))
    (subst Q (form.same-tokens w.unended (form_of b p) ∙ same-tokens b p) (laid-source d (form.dumped-is-laid (form_of b p) (printable b p))))

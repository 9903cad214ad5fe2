-- A printed document is put again as what was printed.
use Rattle.snap_front.proofs.Prelude.{◌≡◌, ℕ, Bool, true, false, cond, List, [], ◌∷◌, ◌++◌, Some, option_map, refl, sym, ap, ◌∙◌, subst, append_assoc, IfOk, Result, Ok, Err, concat, ended_lines, is_fence, with_line, at_fence, texts_of, front_read, inl}
use Rattle.std.proofs.lemmas.Slice.Eq.{bytes_eq-Decides}
use Rattle.std.specs.Prelude.{◌==◌, ◌||◌, codes, map}
use Rattle.std.specs.Char.{is_whitespace}
use Rattle.std.specs.List.{flat_map, list_any}
use Rattle.snap_content.specs.Lines.{ended}
use Rattle.snap_content.specs.Plain.{Plain, dict, Entries, plain, pair_entries, content_of}
use Rattle.snap_content.specs.Tree as t
use Rattle.snap_content.proofs.PlainMade.{plain_made}
use Rattle.snap_print.specs.Blocks.{off}
use Rattle.snap_print.specs.Lines.{document_of, lines_of}
use Rattle.snap_print.specs.Printed.{AreRows, begins_dashes, is_break}
use Rattle.snap_print.specs.Readable.{IsWithin}
use Rattle.snap_str.specs.Cut.{Lacks}
use Rattle.snap_str.proofs.LineTexts.{ended-line}
use Rattle.snap_text_literals.specs.Normal.{before_trimmed, trimmed}
use Rattle.snap_front.specs.Commands.{ReplyView, puts, done}
use Rattle.snap_front.specs.Documents.{Docs, with_document}
use Rattle.snap_front.specs.Heads.{is_map, printed_of}
use Rattle.snap_front.specs.Kept.{IsPrintOf}
use Rattle.snap_front.specs.Runs.{put_tree, PutEnd, PutText, Comes}
use Rattle.snap_front.specs.Runs.PutEnd.{taken, refused}
use Rattle.snap_front.proofs.Splitting.{joined}

-- a text that is trimmed keeps its beginning
pub record Begins (c d : ℕ) (cs ds : List ℕ) : Type 0 where
  pub first : c ≡ d
  pub more : trimmed cs ≡ ds

trimmed-first : (c d : ℕ) (cs ds : List ℕ) → trimmed (c ∷ cs) ≡ d ∷ ds → Begins c d cs ds
trimmed-first c d cs ds e = by (trimmed cs) refl e
  where
    one : (b : Bool) → trimmed cs ≡ [] → cond b [] (c ∷ []) ≡ d ∷ ds → Begins c d cs ds
    one true is h = absurd (cc)
    one false is h = let same : c ≡ d = cc in let rest : [] ≡ ds = cc in record { first = same; more = is ∙ rest }

    by : (ts : List ℕ) → trimmed cs ≡ ts → trimmed (c ∷ cs) ≡ d ∷ ds → Begins c d cs ds
    by [] is h = one (is_whitespace c) is (sym (ap (λ x. before_trimmed c x) is) ∙ h)
    by (t ∷ ts) is h =
        let whole : c ∷ t ∷ ts ≡ d ∷ ds = sym (ap (λ x. before_trimmed c x) is) ∙ h in
        let same : c ≡ d = cc in let rest : t ∷ ts ≡ ds = cc in record { first = same; more = is ∙ rest }

dashes : (c d : ℕ) (more : List ℕ) → c ≡ 45 → d ≡ 45 → begins_dashes (c ∷ d ∷ more) ≡ true
dashes c d more e f = rw (e, f) refl

no-fence-of : (line : List ℕ) → begins_dashes line ≡ false → trimmed (line ++ 10 ∷ []) ≡ 45 ∷ 45 ∷ 45 ∷ [] → ⊥
no-fence-of [] plainly e = let h = trimmed-first 10 45 [] (45 ∷ 45 ∷ []) e in let bad : 10 ≡ 45 = h.first in absurd (cc)
no-fence-of (c ∷ []) plainly e =
    let h = trimmed-first c 45 (10 ∷ []) (45 ∷ 45 ∷ []) e in
    let k = trimmed-first 10 45 [] (45 ∷ []) h.more in
    let bad : 10 ≡ 45 = k.first in absurd (cc)
no-fence-of (c ∷ d ∷ more) plainly e =
    let h = trimmed-first c 45 (d ∷ (more ++ 10 ∷ [])) (45 ∷ 45 ∷ []) e in
    let k = trimmed-first d 45 (more ++ 10 ∷ []) (45 ∷ []) h.more in
    let bad : true ≡ false = sym (dashes c d more h.first k.first) ∙ plainly in absurd (cc)

no-fence : (line : List ℕ) → begins_dashes line ≡ false → is_fence (line ++ 10 ∷ []) ≡ false
no-fence line plainly = by (is_fence (line ++ 10 ∷ [])) refl
  where
    by : (b : Bool) → is_fence (line ++ 10 ∷ []) ≡ b → b ≡ false
    by true e = absurd (no-fence-of line plainly ((bytes_eq-Decides (trimmed (line ++ 10 ∷ [])) (codes "---")).0 e))
    by false e = refl

-- a row holds no line's end
lacks-end : (line : List ℕ) → list_any is_break line ≡ false → Lacks 10 line
lacks-end [] h = refl
lacks-end (c ∷ cs) h = by (c == 10) (c == 13) (list_any is_break cs) h (lacks-end cs)
  where
    by : (a b r : Bool) → ((a || b) || r) ≡ false → (r ≡ false → Lacks 10 cs) → (a || list_any (λ x. x == 10) cs) ≡ false
    by true b r h later = absurd (cc)
    by false true r h later = absurd (cc)
    by false false r h later = later h

rows-cut : (lines : List (List ℕ)) (body : List ℕ) → AreRows lines → at_fence (ended_lines (flat_map ended lines ++ (codes "---\n" ++ body))) ≡ Some (record { before = map ended lines; behind = ended_lines body })
rows-cut [] body rows = refl
rows-cut (line ∷ lines) body rows =
    let after : List ℕ = flat_map ended lines ++ (codes "---\n" ++ body) in
    let text : flat_map ended (line ∷ lines) ++ (codes "---\n" ++ body) ≡ line ++ 10 ∷ after
    = append_assoc (line ++ 10 ∷ []) (flat_map ended lines) (codes "---\n" ++ body) ∙ append_assoc line (10 ∷ []) after in
    ap (λ x. at_fence (ended_lines x)) text
    ∙ ap at_fence (ended-line line after (lacks-end line rows.0.unbroken))
    ∙ ap (λ b. cond b (Some (record { before = []; behind = ended_lines after })) (option_map (with_line (line ++ 10 ∷ [])) (at_fence (ended_lines after)))) (no-fence line rows.0.no_dashes)
    ∙ ap (option_map (with_line (line ++ 10 ∷ []))) (rows-cut lines body rows.1)

all-ended : (lines : List (List ℕ)) → concat (map ended lines) ≡ flat_map ended lines
all-ended [] = refl
all-ended (line ∷ lines) = ap (λ x. (line ++ 10 ∷ []) ++ x) (all-ended lines)

pub printed-splits : (p : Plain) (body : List ℕ) → AreRows (lines_of off p) → front_read (document_of off p ++ (codes "---\n" ++ body)) ≡ Some (document_of off p, body)
printed-splits p body rows =
    ap (λ o. option_map texts_of (option_map (with_line (codes "---\n")) o)) (rows-cut (lines_of off p) body rows)
    ∙ ap (λ (x : List ℕ). Some (codes "---\n" ++ x, concat (ended_lines body))) (all-ended (lines_of off p))
    ∙ ap (λ (x : List ℕ). Some (document_of off p, x)) (joined body)

again-end : (docs : Docs) (name body : List ℕ) (es : Entries) (after : Docs × ReplyView) → IsWithin (dict es) → PutEnd docs name (document_of off (dict es)) body after → after ≡ put_tree docs name body (dict es)
again-end docs name body es after within (taken p may is) =
    is ∙ ap (put_tree docs name body) (sym (may.one (dict es) (record { within = within; is = inl (record { blocks = off; text_is = refl }) })))
again-end docs name body es after within (refused none is) = absurd (none (dict es) (record { within = within; is = inl (record { blocks = off; text_is = refl }) }))

pub put-again : ((p : Plain) → IsWithin p → AreRows (lines_of off p)) → (docs : Docs) (name body : List ℕ) (es : Entries) (after : Docs × ReplyView) → IsWithin (dict es)
    → Comes docs (puts name (printed_of (content_of (dict es)) body)) after → after ≡ (with_document name (record { head = content_of (dict es); body = body }) docs, done)
put-again rows docs name body es after within comes =
    let text : front_read (printed_of (content_of (dict es)) body) ≡ Some (document_of off (dict es), body)
    = ap (λ (p : Plain). front_read (document_of off p ++ (codes "---\n" ++ body))) (plain_made (dict es)) ∙ printed-splits (dict es) body (rows (dict es) within) in
    again-end docs name body es after within (subst (λ o. PutText docs name o after) text comes)

-- what is printed of a map
pub print-of : (head : t.Tree) (body words : List ℕ) → is_map head ≡ true → words ≡ printed_of head body → IsWithin (plain head) → AreRows (lines_of off (plain head)) → IsPrintOf head body words
print-of (t.map ps) body words m is within rows = record {
  entries = pair_entries ps;
  map_is = refl;
  is = is;
  again = λ docs name after comes.
      again-end docs name body (pair_entries ps) after within
      (subst (λ o. PutText docs name o after) (ap front_read is ∙ printed-splits (dict (pair_entries ps)) body rows) comes);
}
print-of head body words m is within rows = absurd (cc)

pub print-of-ok : {E : Type 0} (r : Result (List ℕ) E) (head : t.Tree) (body : List ℕ) → is_map head ≡ true → IfOk r (λ text. text ≡ printed_of head body) → IfOk r (λ _. IsWithin (plain head))
    → IfOk r (λ _. AreRows (lines_of off (plain head))) → IfOk r (λ text. IsPrintOf head body text)
print-of-ok (Ok text) head body m is within rows = print-of head body text m is within rows
print-of-ok (Err e) head body m is within rows = tt

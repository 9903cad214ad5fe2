-- The lines that records are saved as are read back.
use Rattle.snap_pending.proofs.Prelude.{◌≡◌, inl, inr, ℕ, nat_lt, false, ◌==◌, ◌||◌, List, [], ◌∷◌, ◌++◌, map, Some, refl, ap, sym, ◌∙◌, subst, append_assoc, arith, if◌then◌else◌, encode_utf8_all, or_parts, encodes-append, chars_from_encodes, All, list_any, flat_map, Plain, Error, json_plain, json_text, Condensed, IsJsonOf, lines, without_return, lines-line, IsTextFile, IsBack, AreBack, IsReadable, HasTexts, batch_of, Tell, Refuse, IsBatch, HasRefusedLine, Pending, record_of, record_line, TellsRecord, RecordRefused, LineTells, LineRefused}
use Rattle.std.proofs.lemmas.Bool.Decides.{nat_tests}
use Rattle.std.proofs.lemmas.List.Elements.{All-head, All-tail}
use Rattle.snap_content.specs.declared.error.Error.TheVariants as e
use Rattle.snap_json.specs.OneLine.{is_low}
use Rattle.snap_json.proofs.OneLine.{text_clear}
use Rattle.snap_str.specs.Cut.{Lacks}
use Rattle.snap_pending.proofs.RecordBack.{record-back}
use Rattle.snap_pending.proofs.RecordKept.{never-refused}

-- a line without its end
abbrev bare_line : Pending → List ℕ
bare_line pending = json_text Condensed (record_of pending)

-- no line's end and no return stands in it

not_low : (c : ℕ) → nat_lt c 32 ≡ false → (c == 10 ≡ false) × (c == 13 ≡ false)
not_low c h = (grind (arith, nat_tests), grind (arith, nat_tests))

clear_of : (cs : List ℕ) → list_any is_low cs ≡ false → Lacks 10 cs × (list_any (λ c. c == 13) cs ≡ false)
clear_of [] h = (refl, refl)
clear_of (c ∷ cs) h =
    let parts = or_parts (is_low c) (list_any is_low cs) h in
    let here = not_low c parts.0 in
    let rest = clear_of cs parts.1 in
    (ap (λ b. b || list_any (λ d. d == 10) cs) here.0 ∙ rest.0, ap (λ b. b || list_any (λ d. d == 13) cs) here.1 ∙ rest.1)

no_return : (cs : List ℕ) → list_any (λ c. c == 13) cs ≡ false → without_return cs ≡ cs
no_return [] h = refl
no_return (c ∷ []) h = ap (λ b. if b then [] else (c ∷ [])) (or_parts (c == 13) false h).0
no_return (c ∷ d ∷ ds) h = ap (λ l. c ∷ l) (no_return (d ∷ ds) (or_parts (c == 13) (list_any (λ e. e == 13) (d ∷ ds)) h).1)

first_line : (pending : Pending) (more : List ℕ) → IsReadable pending → lines (record_line pending ++ more) ≡ bare_line pending ∷ lines more
first_line pending more readable =
    let clear = clear_of (bare_line pending) (text_clear Condensed 0 (json_plain (record_of pending)) refl readable.within) in
    ap lines (append_assoc (bare_line pending) (10 ∷ []) more) ∙ lines-line (bare_line pending) more clear.0
    ∙ ap (λ l. l ∷ lines more) (no_return (bare_line pending) clear.1)

pub all-lines : (ps : List Pending) → All IsReadable ps → lines (flat_map record_line ps) ≡ map bare_line ps
all-lines [] readable = refl
all-lines (p ∷ ps) readable =
    first_line p (flat_map record_line ps) (All-head IsReadable p ps readable) ∙ ap (λ l. bare_line p ∷ l) (all-lines ps (All-tail IsReadable p ps readable))

-- what a line tells, and why it may be refused

is_json : (pending : Pending) → IsReadable pending → IsJsonOf (json_plain (record_of pending)) (bare_line pending)
is_json pending readable = (readable.accepted, readable.bounded, refl)

line_back : (pending back : Pending) → IsReadable pending → LineTells (bare_line pending) back → IsBack pending back
line_back pending back readable t =
    let same = t.json (json_plain (record_of pending)) readable.within (is_json pending readable) in
    let P : Plain → Type 0 = λ v. TellsRecord v back in
    record-back pending back readable.lines (subst P same t.tells)

line_kept : (pending : Pending) (path : List ℕ) (error : Error) → IsReadable pending → HasTexts pending → LineRefused path (bare_line pending) error → error ≡ e.OutOfMemory
line_kept pending path e.UnexpectedDataType readable texts h =
    let same = h.json (json_plain (record_of pending)) readable.within (is_json pending readable) in
    let P : Plain → Type 0 = λ v. RecordRefused v e.UnexpectedDataType in
    never-refused pending e.UnexpectedDataType readable.lines texts (subst P same h.refused)
line_kept pending path e.MissingField readable texts h =
    let same = h.json (json_plain (record_of pending)) readable.within (is_json pending readable) in
    let P : Plain → Type 0 = λ v. RecordRefused v e.MissingField in
    never-refused pending e.MissingField readable.lines texts (subst P same h.refused)
line_kept pending path e.OutOfMemory readable texts h = refl
line_kept pending path (e.FailedParsingYaml named) readable texts h = absurd (h.2 (json_plain (record_of pending)) readable.within (is_json pending readable))
line_kept pending path (e.FileIo named) readable texts h = absurd h
line_kept pending path (e.FloatText named) readable texts h = absurd h
line_kept pending path e.JsonKey readable texts h = absurd h
line_kept pending path (e.NotText named) readable texts h = absurd h
line_kept pending path (e.NoFile named) readable texts h = absurd h

-- all lines of a file

tell_back : (ps bs : List Pending) → All IsReadable ps → Tell (map bare_line ps) bs → AreBack ps bs
tell_back [] [] readable t = tt
tell_back [] (b ∷ bs) readable t = absurd t
tell_back (p ∷ ps) [] readable t = absurd t
tell_back (p ∷ ps) (b ∷ bs) readable t = (line_back p b (All-head IsReadable p ps readable) t.0, tell_back ps bs (All-tail IsReadable p ps readable) t.1)

none_refused : (ps : List Pending) (path : List ℕ) (error : Error) → All IsReadable ps → All HasTexts ps → Refuse path (map bare_line ps) error → error ≡ e.OutOfMemory
none_refused [] path error readable texts h = absurd h
none_refused (p ∷ ps) path error readable texts (inl h) = line_kept p path error (All-head IsReadable p ps readable) (All-head HasTexts p ps texts) h
none_refused (p ∷ ps) path error readable texts (inr h) =
    none_refused ps path error (All-tail IsReadable p ps readable) (All-tail HasTexts p ps texts) h.2

-- the text of the file

encoded : (ps : List Pending) → flat_map encode_utf8_all (map record_line ps) ≡ encode_utf8_all (flat_map record_line ps)
encoded [] = refl
encoded (p ∷ ps) = ap (λ l. encode_utf8_all (record_line p) ++ l) (encoded ps) ∙ sym (encodes-append (record_line p) (flat_map record_line ps))

file_text : (ps : List Pending) (text : List ℕ) → IsTextFile (Some (flat_map encode_utf8_all (map record_line ps))) text → text ≡ flat_map record_line ps
file_text ps text t =
    let same : flat_map encode_utf8_all (map record_line ps) ≡ t.bytes = cc in
    t.characters ∙ sym (chars_from_encodes (flat_map record_line ps) t.bytes t.utf8 (sym (encoded ps) ∙ same))

pub records-back : (ps batch : List Pending) → All IsReadable ps → IsBatch (Some (flat_map encode_utf8_all (map record_line ps))) batch
    → (bs : List Pending) × AreBack ps bs × (batch ≡ batch_of bs)
records-back ps batch readable t =
    let P : List (List ℕ) → Type 0 = λ v. Tell v t.records in
    let told = subst P (ap lines (file_text ps t.text t.there) ∙ all-lines ps readable) t.told in
    (t.records, tell_back ps t.records readable told, t.batch_is)

pub file-kept : (ps : List Pending) (path : List ℕ) (error : Error) → All IsReadable ps → All HasTexts ps
    → HasRefusedLine path (Some (flat_map encode_utf8_all (map record_line ps))) error → error ≡ e.OutOfMemory
file-kept ps path error readable texts t =
    let P : List (List ℕ) → Type 0 = λ v. Refuse path v error in
    none_refused ps path error readable texts (subst P (ap lines (file_text ps t.text t.there) ∙ all-lines ps readable) t.refused)

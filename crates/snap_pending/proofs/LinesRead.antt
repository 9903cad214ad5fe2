-- The lines of a file, read one by one.
use Rattle.snap_pending.proofs.Prelude.{◌≡◌, ℕ, zero, suc, ◌/◌, ◌%◌, ◌==◌, ℤ, pos, negsuc, Bool, true, false, List, [], ◌∷◌, ◌++◌, Option, Result, Ok, Err, ap, sym, ◌∙◌, subst, append_assoc, append-nil, if◌then◌else◌, Error, FailedParsingYaml, UnexpectedDataType, MissingField, FileIo, FloatText, JsonKey, NotText, NoFile, OutOfMemory, Pending, Plain, null, bool, int, text, list, dict, no_items, item, no_entries, entry, content_of, plain, Tree, text_at, Condensed, IsJsonOf, tree, LineTells, LineRefused, LineEnd, RecordEnd, MayBeJsonOf, IsNoJson, parsing_refusal, PendingInlineSnapshot, Tell, Refuse, LoadRefused, lines, IsCallError}
use Rattle.std.proofs.Common.{inl, inr}
use Rattle.std.specs.Fmt.{decimal, signed_decimal, digits, digits_onto, digit_glyph}
use Rattle.snap_print.specs.Readable.{IsWithin}
use Rattle.snap_content.proofs.PlainMade.{plain_made}
use Rattle.snap_content.specs.declared.content.Content.{Content}
use Rattle.snap_emit.specs.Parsed.{MayBeReadAs, IsUnspelled, IsReadFrom, RefusalEnd}

-- what the lines that are left tell, the whole tells after what was read
abbrev pub Told : List (List ℕ) → List (List ℕ) → List Pending → Type 0
Told whole left records = (more : List Pending) → Tell left more → Tell whole (records ++ more)

-- what refuses the lines that are left refuses the whole
abbrev pub Refused : List ℕ → List (List ℕ) → List (List ℕ) → Type 0
Refused path whole left = (error : Error) → Refuse path left error → Refuse path whole error

pub told_more : (whole left more : List (List ℕ)) (line : List ℕ) (records now : List Pending) (pending : Pending) → left ≡ line ∷ more
    → LineTells line pending → now ≡ records ++ pending ∷ [] → Told whole left records → Told whole more now
told_more whole left more line records now pending is tells same told = λ rest h.
    let P : List (List ℕ) → Type 0 = λ ls. Tell ls (pending ∷ rest) in
    let Q : List Pending → Type 0 = λ ps. Tell whole ps in
    subst Q (sym (ap (λ ps. ps ++ rest) same ∙ append_assoc records (pending ∷ []) rest)) (told (pending ∷ rest) (subst P (sym is) (tells, h)))

-- no line is left
pub all_told : (whole : List (List ℕ)) (rest : List ℕ) (records : List Pending) → rest ≡ [] → Told whole (lines rest) records → Tell whole records
all_told whole rest records none told =
    let P : List ℕ → Type 0 = λ r. Told whole (lines r) records in
    let Q : List Pending → Type 0 = λ ps. Tell whole ps in
    subst Q (append-nil records) (subst P none told [] tt)

-- a call on the file that failed refuses it
pub refused_call : (path : List ℕ) (file : Option (List ℕ)) (e : Error) → IsCallError path e → LoadRefused path file e
refused_call path file (FileIo named) h = h
refused_call path file OutOfMemory h = tt
refused_call path file (FailedParsingYaml named) h = absurd h
refused_call path file UnexpectedDataType h = absurd h
refused_call path file MissingField h = absurd h
refused_call path file (FloatText named) h = absurd h
refused_call path file JsonKey h = absurd h
refused_call path file (NotText named) h = absurd h
refused_call path file (NoFile named) h = absurd h

nothing : (c : ℕ) (rest : List ℕ) → [] ≡ c ∷ rest → ⊥
nothing c rest e = cc

pub empty_is_unspelled : (line : List ℕ) → line ≡ [] → IsUnspelled line
empty_is_unspelled line none t within (inl is) = nothing _ _ (sym none ∙ is.text_is)
empty_is_unspelled line none t within (inr s) = nothing _ _ (sym none ∙ s.header.text_is)

-- the JSON text of a tree is not empty

one_of : (b : Bool) (xs ys : List ℕ) → (xs ≡ [] → ⊥) → (ys ≡ [] → ⊥) → (if b then xs else ys) ≡ [] → ⊥
one_of true xs ys f g e = f e
one_of false xs ys f g e = g e

digit_there : (c : ℕ) (rest : List ℕ) → c ∷ rest ≡ [] → ⊥
digit_there c rest e = cc

digits_there : (k n : ℕ) (acc : List ℕ) → digits_onto (suc k) 10 false n acc ≡ [] → ⊥
digits_there zero n acc e = one_of (n / 10 == 0) _ _ (digit_there _ _) (digit_there _ _) e
digits_there (suc k) n acc e = one_of (n / 10 == 0) _ _ (digit_there _ _) (digits_there k (n / 10) (digit_glyph false (n % 10) ∷ acc)) e

decimal_there : (n : ℕ) → decimal n ≡ [] → ⊥
unfolding digits
decimal_there n e = digits_there 63 n [] e

filled_number : (z : ℤ) → signed_decimal z ≡ [] → ⊥
filled_number (pos n) e = decimal_there n e
filled_number (negsuc n) e = cc

filled_json : (p : Plain) → [] ≡ text_at Condensed 0 p → ⊥
filled_json null e = cc
filled_json (bool true) e = cc
filled_json (bool false) e = cc
filled_json (int z) e = filled_number z (sym e)
filled_json (text s) e = cc
filled_json (list no_items) e = cc
filled_json (list (item q qs)) e = cc
filled_json (dict no_entries) e = cc
filled_json (dict (entry k v es)) e = cc

pub empty_is_no_json : (line : List ℕ) → line ≡ [] → IsNoJson line
empty_is_no_json line none = λ t within json. filled_json t (sym none ∙ json.2)

-- one tree is made of one plain tree
one_plain : (p q : Plain) (made : Tree) → made ≡ content_of p → made ≡ content_of q → p ≡ q
one_plain p q made e f = sym (plain_made p) ∙ ap plain (sym e ∙ f) ∙ plain_made q

no_memory_here : (named : List ℕ) → FailedParsingYaml named ≡ OutOfMemory → ⊥
no_memory_here named e = cc

no_memory_there : (named : List ℕ) → FloatText named ≡ OutOfMemory → ⊥
no_memory_there named e = cc

-- a text that was refused is no JSON text
pub parse_refused : (path line : List ℕ) (error : Error) → RefusalEnd line path error → ((t : Plain) → IsWithin t → IsJsonOf t line → error ≡ OutOfMemory)
    → LineRefused path line (parsing_refusal error)
parse_refused path line (FailedParsingYaml named) h memory = (h.0, h.1, λ t within json. no_memory_here named (memory t within json))
parse_refused path line (FloatText named) h memory = (h.0.0, h.1, λ t within json. no_memory_there named (memory t within json))
parse_refused path line OutOfMemory h memory = tt
parse_refused path line UnexpectedDataType h memory = absurd h
parse_refused path line MissingField h memory = absurd h
parse_refused path line (FileIo named) h memory = absurd h
parse_refused path line JsonKey h memory = absurd h
parse_refused path line (NotText named) h memory = absurd h
parse_refused path line (NoFile named) h memory = absurd h

-- what the tree of a line comes to, the line comes to
tree_end : (path line : List ℕ) (plain : Plain) (result : Result PendingInlineSnapshot Error) → (line ≡ [] → ⊥) → MayBeReadAs line plain → MayBeJsonOf line plain → RecordEnd plain result
    → LineEnd path line result
tree_end path line plain (Ok pending) filled read json h = record { filled = filled; tree = plain; read = read; json = json; tells = h }
tree_end path line plain (Err UnexpectedDataType) filled read json h = record { filled = filled; tree = plain; read = read; json = json; refused = h }
tree_end path line plain (Err MissingField) filled read json h = record { filled = filled; tree = plain; read = read; json = json; refused = h }
tree_end path line plain (Err OutOfMemory) filled read json h = tt
tree_end path line plain (Err (FailedParsingYaml named)) filled read json h = absurd h
tree_end path line plain (Err (FileIo named)) filled read json h = absurd h
tree_end path line plain (Err (FloatText named)) filled read json h = absurd h
tree_end path line plain (Err JsonKey) filled read json h = absurd h
tree_end path line plain (Err (NotText named)) filled read json h = absurd h
tree_end path line plain (Err (NoFile named)) filled read json h = absurd h

pub line_end : (path line : List ℕ) (made : Content) (result : Result PendingInlineSnapshot Error) → (line ≡ [] → ⊥) → IsReadFrom made line
    → ((t : Plain) → IsWithin t → IsJsonOf t line → tree made ≡ content_of t) → ((plain : Plain) → tree made ≡ content_of plain → RecordEnd plain result) → LineEnd path line result
line_end path line made result filled read json comes_to =
    tree_end path line read.plain result filled read.read (λ t within is. one_plain read.plain t (tree made) read.tree_is (json t within is)) (comes_to read.plain read.tree_is)

-- Which paths are left behind by payloads.
use Rattle.snap_assert.proofs.Prelude.{◌≡◌, ◌==◌, ◌&&◌, ◌≤◌, ℕ, Bool, true, false, not, cond, List, [], ◌∷◌, ◌++◌, length, Option, None, Some, refl, sym, ap, ◌∙◌, append_assoc, eq-eqb, codes, arith, length-append, is_some, IsSome, list_any, filter, All, bytes_eq, chars, IsUtf8, get, bytes_eq-Decides, some_same, past_mark, joined, parent_of, front_of, name_of, last_of, components, is_absolute, IsName, Files, is_among, holds_slash, stray_front, is_slashless, is_stray, not_true}
use Rattle.std.proofs.lemmas.Str.{encodes-chars, encodes-append, length-le-encodes}
use Rattle.std.specs.Str.{encode_utf8_all}
use Rattle.std.specs.Str.Iter.{HasSubslice}
use Rattle.std.proofs.lemmas.List.Elements.{All-append, All-cons, All-nil}
use Rattle.std.proofs.lemmas.Map.Views.{any-filter_same}
use Rattle.snap_path.proofs.Cuts.{past_mark-is}
use Rattle.snap_path.proofs.Joining.{joined-name, parted, name_of-name, name-longer, parts-components, components-names, front-push}
use Rattle.snap_io.specs.Listed.{AreNames}
use Rattle.snap_assert_place.specs.SnapshotPath.{IsFilePath}

-- what follows one mark and then another
abbrev pub then_past : List ℕ → Option (List ℕ) → Option (List ℕ)
then_past mark None = None
then_past mark (Some rest) = past_mark mark rest

past_first-append : (t : Bool) (a b text : List ℕ) → past_mark (a ++ b) text ≡ then_past b (past_mark a text)
    → cond t (past_mark (a ++ b) text) None ≡ then_past b (cond t (past_mark a text) None)
past_first-append true a b text h = h
past_first-append false a b text h = refl

pub past_mark-append : (a b text : List ℕ) → past_mark (a ++ b) text ≡ then_past b (past_mark a text)
past_mark-append [] b text = refl
past_mark-append (x ∷ a) b [] = refl
past_mark-append (x ∷ a) b (c ∷ text) = past_first-append (c == x) a b text (past_mark-append a b text)

-- a stray path is the front, and more without a slash
pub record IsBehind (front q : List ℕ) : Type 0 where
  pub rest : List ℕ
  pub is : q ≡ front ++ rest
  pub slashless : holds_slash rest ≡ false

behind_found : (front q : List ℕ) (found : Option (List ℕ)) → past_mark front q ≡ found → is_slashless found ≡ true → IsBehind front q
behind_found front q None is h = absurd (cc)
behind_found front q (Some rest) is h = record { rest = rest; is = past_mark-is front q rest is; slashless = not_true (holds_slash rest) h }

stray_behind : (path q : List ℕ) → is_stray path q ≡ true → IsBehind (stray_front path) q
stray_behind path q h = behind_found (stray_front path) q (past_mark (stray_front path) q) refl h

past_mark-behind : (front a b : List ℕ) → past_mark (front ++ a) (front ++ b) ≡ past_mark a b
past_mark-behind [] a b = refl
past_mark-behind (c ∷ front) a b =
    ap (λ t. cond t (past_mark (front ++ a) (front ++ b)) None) (eq-eqb c c refl) ∙ past_mark-behind front a b

stray_front-behind : (front last path : List ℕ) → path ≡ front ++ last → front ++ stray_front last ≡ stray_front path
stray_front-behind front last path is =
    sym (append_assoc front last (codes ".new.")) ∙ ap (λ p. p ++ codes ".new.") (sym is)

-- a name is stray beside the last component where its path is beside the whole path
stray_name : (path last name : List ℕ) → IsFilePath path → name_of path ≡ Some last → IsName name → is_stray last name ≡ is_stray path (joined (parent_of path) name)
stray_name path last name f l n =
    let front = front_of (parent_of path) in
    ap is_slashless
    (sym (past_mark-behind front (stray_front last) name)
    ∙ ap (λ mark. past_mark mark (front ++ name)) (stray_front-behind front last path (parted path last f.normal l))
    ∙ ap (past_mark (stray_front path)) (sym (joined-name (parent_of path) name n)))

-- a stray path is a name's in the folder of the path, and stray beside the path's own name
pub record IsNamedIn (folder q : List ℕ) : Type 0 where
  pub name : List ℕ
  pub is_name : IsName name
  pub is : joined folder name ≡ q
  pub file : List ℕ
  pub left : is_stray file name ≡ true

named : (path last q : List ℕ) → IsFilePath path → name_of path ≡ Some last → IsBehind (stray_front path) q → is_stray path q ≡ true → IsNamedIn (parent_of path) q
named path last q f l b stray =
    let name = last ++ (codes ".new." ++ b.rest) in
    let is_name : IsName name = name-longer last (codes ".new." ++ b.rest) (name_of-name path last l) b.slashless in
    let front = front_of (parent_of path) in
    let is : joined (parent_of path) name ≡ q = joined-name (parent_of path) name is_name
    ∙ sym (append_assoc front last (codes ".new." ++ b.rest)) ∙ ap (λ p. p ++ (codes ".new." ++ b.rest)) (sym (parted path last f.normal l))
    ∙ sym (append_assoc path (codes ".new.") b.rest) ∙ sym b.is in
    record { name = name; is_name = is_name; is = is; file = last; left = stray_name path last name f l is_name ∙ ap (is_stray path) is ∙ stray }

some_name : (path q : List ℕ) (found : Option (List ℕ)) → name_of path ≡ found → IsSome found → IsFilePath path → IsBehind (stray_front path) q → is_stray path q ≡ true → IsNamedIn (parent_of path) q
some_name path q None is h f b stray = absurd (cc)
some_name path q (Some last) is h f b stray = named path last q f is b stray

pub stray_named : (path q : List ℕ) → IsFilePath path → is_stray path q ≡ true → IsNamedIn (parent_of path) q
stray_named path q f h = some_name path q (name_of path) refl f.named f (stray_behind path q h) h

-- such a name is among those of a listing where a file stands at its path
pub among_names : (m : Files) (folder q : List ℕ) (names : List (List ℕ)) → AreNames m folder names → (n : IsNamedIn folder q) → is_among names n.name ≡ is_some (get m q)
among_names m folder q names l n = l.each n.name n.is_name ∙ ap (λ t. is_some (get m t)) n.is

pub filtered : (test : List ℕ → Bool) (q : List ℕ) (xs : List (List ℕ)) → list_any (bytes_eq q) (filter test xs) ≡ (test q && list_any (bytes_eq q) xs)
filtered test q xs = any-filter_same (bytes_eq q) test (test q) (λ k same. ap test (sym ((bytes_eq-Decides q k).0 same))) xs

-- a text that has no more bytes than the path is no stray
pub no_longer : (path q : List ℕ) → IsUtf8 path → IsUtf8 q → length q ≤ length path → false ≡ is_stray (chars path) (chars q)
no_longer path q utf8 other short = by (is_stray (chars path) (chars q)) refl
  where
    by : (b : Bool) → is_stray (chars path) (chars q) ≡ b → false ≡ b
    by false h = refl
    by true h =
        let stray = stray_behind (chars path) (chars q) h in
        let front = stray_front (chars path) in
        let whole = ap length (sym (encodes-chars q other) ∙ ap encode_utf8_all stray.is ∙ encodes-append front stray.rest)
        ∙ length-append (encode_utf8_all front) (encode_utf8_all stray.rest) in
        let begun = ap length (encodes-append (chars path) (codes ".new.")) ∙ length-append (encode_utf8_all (chars path)) (encode_utf8_all (codes ".new.")) in
        let same = ap length (encodes-chars path utf8) in
        let more = length-le-encodes (codes ".new.") in
        absurd (omega (arith, short, whole, begun, same, more))

-- a text that does not begin with the path is no stray
pub not_behind : (path q : List ℕ) → past_mark path q ≡ None → false ≡ is_stray path q
not_behind path q none = sym (ap is_slashless (past_mark-append path (codes ".new.") q ∙ ap (then_past (codes ".new.")) none))

pub not_new : (path q rest : List ℕ) → past_mark path q ≡ Some rest → past_mark (codes ".new.") rest ≡ None → false ≡ is_stray path q
not_new path q rest some none =
    sym (ap is_slashless (past_mark-append path (codes ".new.") q ∙ ap (then_past (codes ".new.")) some ∙ none))

pub behind_new : (path q rest more : List ℕ) (slash : Bool) → past_mark path q ≡ Some rest → past_mark (codes ".new.") rest ≡ Some more → slash ≡ holds_slash more
    → not slash ≡ is_stray path q
behind_new path q rest more slash some further s =
    ap not s ∙ sym (ap is_slashless (past_mark-append path (codes ".new.") q ∙ ap (then_past (codes ".new.")) some ∙ further))

-- a path that is joined of a name has that name
last_of-append : (xs : List (List ℕ)) (x : List ℕ) → last_of (xs ++ x ∷ []) ≡ Some x
last_of-append [] x = refl
last_of-append (a ∷ []) x = refl
last_of-append (a ∷ b ∷ xs) x = last_of-append (b ∷ xs) x

name_of-joined : (folder name : List ℕ) → IsName name → name_of (joined folder name) ≡ Some name
name_of-joined folder name h =
    let parts = components folder ++ name ∷ [] in
    let all : All IsName parts = All-append IsName (components folder) (name ∷ []) (components-names folder) (All-cons IsName name [] h (All-nil IsName)) in
    ap name_of (joined-name folder name h ∙ sym (front-push (is_absolute folder) (components folder) name)) ∙ ap last_of (parts-components (is_absolute folder) parts all) ∙ last_of-append (components folder) name

-- the name of a path that a payload may have left
left_name : (file q name : List ℕ) → name_of q ≡ Some name → IsNamedIn (parent_of file) q → (p : List ℕ) × (is_stray p name ≡ true)
left_name file q name is n =
    let same : n.name ≡ name = some_same n.name name (sym (name_of-joined (parent_of file) n.name n.is_name) ∙ ap name_of n.is ∙ is) in
    (n.file, ap (is_stray n.file) (sym same) ∙ n.left)

pub left_at : (file q name : List ℕ) (result : Bool) → name_of q ≡ Some name → IsFilePath file → is_stray file q ≡ true → ((p : List ℕ) → is_stray p name ≡ true → result ≡ true) → result ≡ true
left_at file q name result is f stray may = let n = left_name file q name is (stray_named file q f stray) in may n.0 n.1

pub none_left : (file q : List ℕ) → name_of q ≡ None → IsFilePath file → is_stray file q ≡ true → false ≡ true
none_left file q none f stray =
    let n = stray_named file q f stray in
    let clash = sym none ∙ ap name_of (sym n.is) ∙ name_of-joined (parent_of file) n.name n.is_name in cc clash

-- in the bytes of a name that a payload may have left the mark stands
pub mark_stands : (file bytes : List ℕ) → IsUtf8 bytes → is_stray file (chars bytes) ≡ true → HasSubslice bytes (codes ".new.")
unfolding lib.Utf8.encode
mark_stands file bytes utf8 stray =
    let b = stray_behind file (chars bytes) stray in (
      encode_utf8_all file,
      encode_utf8_all b.rest,
      sym (encodes-chars bytes utf8) ∙ ap encode_utf8_all b.is ∙ encodes-append (stray_front file) b.rest
          ∙ ap (λ t. t ++ encode_utf8_all b.rest) (encodes-append file (codes ".new."))
          ∙ append_assoc (encode_utf8_all file) (codes ".new.") (encode_utf8_all b.rest),
    )

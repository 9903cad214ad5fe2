-- The file of some lines, one line more and all of them, and the files beside it.
use Rattle.snap_pending.proofs.Prelude.{◌≡◌, ◌≢◌, ℕ, ◌+◌, ◌<◌, ◌≤◌, Bool, true, false, cond, List, [], ◌∷◌, ◌++◌, length, take, get_or, Option, None, Some, refl, ap, sym, ◌∙◌, append-nil, take_more, take_all, flat_map, encode_utf8_all, unwrap_or, bytes_eq, inl, inr, Files, SameBut, MayBeGone, appended, with_lines}
use Rattle.std.proofs.lemmas.Cmp.{nat_list_cmp_total}
use Rattle.std.proofs.lemmas.Grind.{flat_map-append}
use Rattle.std.proofs.lemmas.List.Concat.{flat_map-cons}
use Rattle.std.proofs.lemmas.Map.Text.{is_eq-slice_cmp}
use Rattle.std.proofs.lemmas.Slice.Eq.{bytes_eq-Decides}
use Rattle.std.specs.FinMap.{get, insert, remove, get-insert, get-remove, same_map, slice_cmp-IsAntisymmetric, nat_cmp-IsAntisymmetric}

get-inserted : (m : Files) (k q v : List ℕ) → get (insert m k v) q ≡ cond (bytes_eq q k) (Some v) (get m q)
get-inserted m k q v = get-insert nat_list_cmp_total m k v q ∙ ap (λ b. cond b (Some v) (get m q)) (is_eq-slice_cmp q k)

get-removed : (m : Files) (k q : List ℕ) → get (remove m k) q ≡ cond (bytes_eq q k) None (get m q)
get-removed m k q = get-remove nat_list_cmp_total m k q ∙ ap (λ b. cond b None (get m q)) (is_eq-slice_cmp q k)

one_key : (k : List ℕ) → bytes_eq k k ≡ true
one_key k = (bytes_eq-Decides k k).1 refl

here : (m : Files) (k v : List ℕ) → get (insert m k v) k ≡ Some v
here m k v = get-inserted m k k v ∙ ap (λ b. cond b (Some v) (get m k)) (one_key k)

gone : (m : Files) (k : List ℕ) → get (remove m k) k ≡ None
gone m k = get-removed m k k ∙ ap (λ b. cond b None (get m k)) (one_key k)

last_counts : (b : Bool) (v w : List ℕ) (o : Option (List ℕ)) → cond b (Some w) (cond b (Some v) o) ≡ cond b (Some w) o
last_counts true v w o = refl
last_counts false v w o = refl

removal_forgotten : (b : Bool) (w : List ℕ) (o : Option (List ℕ)) → cond b (Some w) (cond b None o) ≡ cond b (Some w) o
removal_forgotten true w o = refl
removal_forgotten false w o = refl

-- to insert twice is to insert the second
over : (m : Files) (k v w : List ℕ) → insert (insert m k v) k w ≡ insert m k w
over m k v w = same_map nat_list_cmp_total (slice_cmp-IsAntisymmetric nat_cmp-IsAntisymmetric) _ _ (λ q.
    get-inserted (insert m k v) k q w ∙ ap (cond (bytes_eq q k) (Some w)) (get-inserted m k q v)
    ∙ last_counts (bytes_eq q k) v w (get m q) ∙ sym (get-inserted m k q w))

again : (m : Files) (k w : List ℕ) → insert (remove m k) k w ≡ insert m k w
again m k w = same_map nat_list_cmp_total (slice_cmp-IsAntisymmetric nat_cmp-IsAntisymmetric) _ _ (λ q.
    get-inserted (remove m k) k q w ∙ ap (cond (bytes_eq q k) (Some w)) (get-removed m k q)
    ∙ removal_forgotten (bytes_eq q k) w (get m q) ∙ sym (get-inserted m k q w))

alone : (line : List ℕ) → flat_map encode_utf8_all (line ∷ []) ≡ encode_utf8_all line
alone line = flat_map-cons encode_utf8_all line [] ∙ append-nil (encode_utf8_all line)

one_line_more : (m : Files) (path : List ℕ) (ls : List (List ℕ)) (line : List ℕ)
    → appended (with_lines m path ls) path (encode_utf8_all line) ≡ with_lines m path (ls ++ line ∷ [])
one_line_more m path [] line =
    ap (λ o. insert (remove m path) path (unwrap_or o [] ++ encode_utf8_all line)) (gone m path)
    ∙ again m path (encode_utf8_all line) ∙ ap (insert m path) (sym (alone line))
one_line_more m path (l ∷ ls) line =
    let held = flat_map encode_utf8_all (l ∷ ls) in
    ap (λ o. insert (insert m path held) path (unwrap_or o [] ++ encode_utf8_all line)) (here m path held)
    ∙ over m path held (held ++ encode_utf8_all line)
    ∙ ap (insert m path) (ap (λ x. held ++ x) (sym (alone line)) ∙ sym (flat_map-append encode_utf8_all (l ∷ ls) (line ∷ [])))

pub next_line : (m : Files) (path : List ℕ) (ls : List (List ℕ)) (i : ℕ) (line : List ℕ) → i < length ls → line ≡ get_or ls i line
    → appended (with_lines m path (take i ls)) path (encode_utf8_all line) ≡ with_lines m path (take (i + 1) ls)
next_line m path ls i line h is =
    one_line_more m path (take i ls) line
    ∙ ap (with_lines m path) (sym (take_more ls i line h ∙ ap (λ x. take i ls ++ x ∷ []) (sym is)))

pub all_lines : (m : Files) (path : List ℕ) (ls : List (List ℕ)) (i : ℕ) → length ls ≤ i → with_lines m path (take i ls) ≡ with_lines m path ls
all_lines m path ls i h = ap (with_lines m path) (take_all i ls h)

-- the files beside it

other_key : (q k : List ℕ) → q ≢ k → bytes_eq q k ≡ false
other_key q k other = both (bytes_eq q k) refl
  where
    both : (b : Bool) → bytes_eq q k ≡ b → b ≡ false
    both true is = absurd (other ((bytes_eq-Decides q k).0 is))
    both false is = refl

beside_insert : (m : Files) (k q v : List ℕ) → q ≢ k → get (insert m k v) q ≡ get m q
beside_insert m k q v other = get-inserted m k q v ∙ ap (λ b. cond b (Some v) (get m q)) (other_key q k other)

beside_remove : (m : Files) (k q : List ℕ) → q ≢ k → get (remove m k) q ≡ get m q
beside_remove m k q other = get-removed m k q ∙ ap (λ b. cond b None (get m q)) (other_key q k other)

beside_lines : (m : Files) (path : List ℕ) (ls : List (List ℕ)) (q : List ℕ) → q ≢ path → get (with_lines m path ls) q ≡ get m q
beside_lines m path [] q other = beside_remove m path q other
beside_lines m path (l ∷ ls) q other = beside_insert m path q (flat_map encode_utf8_all (l ∷ ls)) other

pub same_but_removed : (path : List ℕ) (m : Files) (now : Option Files) → MayBeGone path m now → SameBut path m now
same_but_removed path m now (inl same) = record { files = m; told = same; others = λ q other. refl }
same_but_removed path m now (inr gone) = record { files = remove m path; told = gone; others = λ q other. beside_remove m path q other }

-- after lines and then a failure, still only that file is unknown
pub same_but_lines : (path : List ℕ) (m : Files) (ls : List (List ℕ)) (now : Option Files) → SameBut path (with_lines m path ls) now → SameBut path m now
same_but_lines path m ls now s = record { files = s.files; told = s.told; others = λ q other. s.others q other ∙ beside_lines m path ls q other }

-- No command but that to print is answered by a printed document.
use Rattle.snap_front.proofs.Prelude.{◌≡◌, ℕ, Bool, true, false, cond, List, [], ◌∷◌, Option, None, Some, sym, ap, subst, front_read, get_tree, set_tree, remove_tree, Step}
use Rattle.std.specs.Prelude.{◌&&◌, not}
use Rattle.snap_content.specs.Tree as t
use Rattle.snap_content.specs.Plain.{Plain, null, bool, int, text, list, dict, plain, content_of}
use Rattle.snap_front.specs.Commands.{puts, gets, sets, removes, ReplyView, not_map}
use Rattle.snap_front.specs.Documents.{Document, Docs, document_in}
use Rattle.snap_front.specs.Heads.{Changed, found, is_map, is_empty_path, set_head, set_or_refused, remove_head, removed_or_refused}
use Rattle.snap_front.specs.Kept.{IsAgain}
use Rattle.snap_front.specs.Runs.{put_tree, PutText, told_of, changed_by, changed_of, Comes}
use Rattle.snap_front.specs.Runs.PutEnd.{taken, refused}

-- a reply that is that of a pair
replied : (mid : Docs) (r : ReplyView) (x : Docs × ReplyView) → (mid, r) ≡ x → IsAgain x.1 → IsAgain r
replied mid r x is h = subst IsAgain (sym (ap (λ (y : Docs × ReplyView). y.1) is)) h

put-reply : (docs : Docs) (name body : List ℕ) (p : Plain) → IsAgain (put_tree docs name body p).1
put-reply docs name body (dict es) = tt
put-reply docs name body null = tt
put-reply docs name body (bool b) = tt
put-reply docs name body (int z) = tt
put-reply docs name body (text s) = tt
put-reply docs name body (list ps) = tt

text-reply : (docs mid : Docs) (name : List ℕ) (r : ReplyView) (o : Option (List ℕ × List ℕ)) → PutText docs name o (mid, r) → IsAgain r
text-reply docs mid name r None is = replied mid r _ is tt
text-reply docs mid name r (Some parts) (taken p may is) = replied mid r _ is (put-reply docs name parts.1 p)
text-reply docs mid name r (Some parts) (refused none is) = replied mid r _ is tt

found-reply : (o : Option t.Tree) → IsAgain (found o)
found-reply None = tt
found-reply (Some part) = tt

told-reply : (path : List Step) (docs : Docs) (o : Option Document) → IsAgain (told_of (λ d. found (get_tree path d.head)) docs o).1
told-reply path docs None = tt
told-reply path docs (Some d) = found-reply (get_tree path d.head)

changed-reply : (docs : Docs) (name : List ℕ) (d : Document) (c : Changed) → IsAgain c.1 → IsAgain (changed_by docs name d c).1
changed-reply docs name d (None, r) h = h
changed-reply docs name d (Some new, r) h = h

changed-of-reply : (change : Document → Changed) (name : List ℕ) (docs : Docs) (o : Option Document) → ((d : Document) → IsAgain (change d).1) → IsAgain (changed_of change name docs o).1
changed-of-reply change name docs None each = tt
changed-of-reply change name docs (Some d) each = changed-reply docs name d (change d) (each d)

set-or-reply : (o : Option t.Tree) → IsAgain (set_or_refused o).1
set-or-reply None = tt
set-or-reply (Some new) = tt

set-reply : (steps : List Step) (v head : t.Tree) → IsAgain (set_head steps v head).1
set-reply steps v head = by (is_empty_path steps && not (is_map v))
  where
    by : (b : Bool) → IsAgain (cond b (None, not_map) (set_or_refused (set_tree steps v head))).1
    by true = tt
    by false = set-or-reply (set_tree steps v head)

removed-or-reply : (r : ReplyView) (o : Option t.Tree) → IsAgain r → IsAgain (removed_or_refused r o).1
removed-or-reply r None h = tt
removed-or-reply r (Some new) h = h

remove-reply : (steps : List Step) (head : t.Tree) → IsAgain (remove_head steps head).1
remove-reply [] head = tt
remove-reply (s ∷ ss) head = removed-or-reply (found (get_tree (s ∷ ss) head)) (remove_tree (s ∷ ss) head) (found-reply (get_tree (s ∷ ss) head))

pub put-again-none : (docs mid : Docs) (name words : List ℕ) (r : ReplyView) → Comes docs (puts name words) (mid, r) → IsAgain r
put-again-none docs mid name words r h = text-reply docs mid name r (front_read words) h

pub got-again : (docs mid : Docs) (name : List ℕ) (path : List Step) (r : ReplyView) → Comes docs (gets name path) (mid, r) → IsAgain r
got-again docs mid name path r is = replied mid r _ is (told-reply path docs (document_in name docs))

pub set-again : (docs mid : Docs) (name : List ℕ) (path : List Step) (v : t.Tree) (r : ReplyView) → Comes docs (sets name path v) (mid, r) → IsAgain r
set-again docs mid name path v r is =
    replied mid r _ is (changed-of-reply (λ d. set_head path (content_of (plain v)) d.head) name docs (document_in name docs) (λ d. set-reply path (content_of (plain v)) d.head))

pub removed-again : (docs mid : Docs) (name : List ℕ) (path : List Step) (r : ReplyView) → Comes docs (removes name path) (mid, r) → IsAgain r
removed-again docs mid name path r is = replied mid r _ is (changed-of-reply (λ d. remove_head path d.head) name docs (document_in name docs) (λ d. remove-reply path d.head))

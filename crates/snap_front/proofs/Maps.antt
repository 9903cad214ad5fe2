-- Headers stay maps, whatever commands change in them.
use Rattle.snap_front.proofs.Prelude.{◌≡◌, ℕ, Bool, true, false, cond, List, [], ◌∷◌, Option, None, Some, option_map, option_and_then, refl, sym, ap, ◌∙◌, subst, bytes_eq, front_read, get_tree, set_tree, remove_tree, step_in, put_step, cut_step, with_entry, without_entry, Step, Key, Index}
use Rattle.std.specs.Prelude.{◌&&◌, not}
use Rattle.snap_content.specs.Tree as t
use Rattle.snap_content.specs.Plain.{Plain, null, bool, int, text, list, dict, plain, content_of}
use Rattle.snap_front.specs.Commands.{CommandView, puts, gets, sets, removes, prints, ReplyView, printed, not_map}
use Rattle.snap_front.specs.Documents.{Document, Docs, document_in, with_document}
use Rattle.snap_front.specs.Heads.{Changed, found, is_map, set_head, set_or_refused, remove_head, removed_or_refused, printed_of}
use Rattle.snap_front.specs.Kept.{AreMaps}
use Rattle.snap_front.specs.Runs.{put_tree, PutText, changed_by, changed_of, Comes}
use Rattle.snap_front.specs.Runs.PutEnd.{taken, refused}
use Rattle.snap_front.proofs.Bodies.{told-docs}

-- one step
step-map : (s : Step) (v c q : t.Tree) → is_map c ≡ true → put_step s v c ≡ Some q → is_map q ≡ true
step-map (Key name) v (t.map ps) q m h = let same : t.map (with_entry name v ps) ≡ q = cc in ap is_map (sym same)
step-map (Index n) v (t.seq ps) q m h = absurd (cc)
step-map s v c q m h = absurd (cc)

map-of : (o : Option t.TreePairs) (q : t.Tree) → option_map t.map o ≡ Some q → is_map q ≡ true
map-of None q h = absurd (cc)
map-of (Some ps) q h = let same : t.map ps ≡ q = cc in ap is_map (sym same)

cut-map : (s : Step) (c q : t.Tree) → is_map c ≡ true → cut_step s c ≡ Some q → is_map q ≡ true
cut-map (Key name) (t.map ps) q m h = map-of (without_entry name ps) q h
cut-map (Index n) (t.seq ps) q m h = absurd (cc)
cut-map s c q m h = absurd (cc)

-- and several
further-map : (s : Step) (c q : t.Tree) (o : Option t.Tree) → is_map c ≡ true → option_and_then (λ new. put_step s new c) o ≡ Some q → is_map q ≡ true
further-map s c q None m h = absurd (cc)
further-map s c q (Some x) m h = step-map s x c q m h

below-map : (s : Step) (c q : t.Tree) (f : t.Tree → Option t.Tree) (o : Option t.Tree) → is_map c ≡ true
    → option_and_then (λ inner. option_and_then (λ new. put_step s new c) (f inner)) o ≡ Some q → is_map q ≡ true
below-map s c q f None m h = absurd (cc)
below-map s c q f (Some x) m h = further-map s c q (f x) m h

set-map : (s : Step) (ss : List Step) (v c q : t.Tree) → is_map c ≡ true → set_tree (s ∷ ss) v c ≡ Some q → is_map q ≡ true
set-map s [] v c q m h = step-map s v c q m h
set-map s (r ∷ ss) v c q m h = below-map s c q (set_tree (r ∷ ss) v) (step_in s c) m h

remove-map : (s : Step) (ss : List Step) (c q : t.Tree) → is_map c ≡ true → remove_tree (s ∷ ss) c ≡ Some q → is_map q ≡ true
remove-map s [] c q m h = cut-map s c q m h
remove-map s (r ∷ ss) c q m h = below-map s c q (remove_tree (r ∷ ss)) (step_in s c) m h

-- a head that was set, or from which something was removed
set-new : (o : Option t.Tree) (new : t.Tree) → (set_or_refused o).0 ≡ Some new → o ≡ Some new
set-new None new h = absurd (cc)
set-new (Some x) new h = h

removed-new : (r : ReplyView) (o : Option t.Tree) (new : t.Tree) → (removed_or_refused r o).0 ≡ Some new → o ≡ Some new
removed-new r None new h = absurd (cc)
removed-new r (Some x) new h = h

pub set-head-map : (steps : List Step) (v head new : t.Tree) → is_map head ≡ true → (set_head steps v head).0 ≡ Some new → is_map new ≡ true
set-head-map [] v head new m h = by (is_map v) refl h
  where
    by : (b : Bool) → is_map v ≡ b → (cond (true && not b) (None, not_map) (set_or_refused (Some v))).0 ≡ Some new → is_map new ≡ true
    by true e k = let same : v ≡ new = cc in ap is_map (sym same) ∙ e
    by false e k = absurd (cc)
set-head-map (s ∷ ss) v head new m h = set-map s ss v head new m (set-new (set_tree (s ∷ ss) v head) new h)

pub remove-head-map : (steps : List Step) (head new : t.Tree) → is_map head ≡ true → (remove_head steps head).0 ≡ Some new → is_map new ≡ true
remove-head-map [] head new m h = absurd (cc)
remove-head-map (s ∷ ss) head new m h = remove-map s ss head new m (removed-new (found (get_tree (s ∷ ss) head)) (remove_tree (s ∷ ss) head) new h)

-- documents by their names
pub map-in : (name : List ℕ) (docs : Docs) (d : Document) → AreMaps docs → document_in name docs ≡ Some d → is_map d.head ≡ true
map-in name [] d m h = absurd (cc)
map-in name (x ∷ xs) d m h = by (bytes_eq x.0 name) h (map-in name xs d m.1)
  where
    by : (b : Bool) → cond b (Some x.1) (document_in name xs) ≡ Some d → (document_in name xs ≡ Some d → is_map d.head ≡ true) → is_map d.head ≡ true
    by true e later = let same : x.1 ≡ d = cc in ap (λ (y : Document). is_map y.head) (sym same) ∙ m.0
    by false e later = later e

maps-with : (name : List ℕ) (new : Document) (docs : Docs) → AreMaps docs → is_map new.head ≡ true → AreMaps (with_document name new docs)
maps-with name new [] m h = (h, tt)
maps-with name new (x ∷ xs) m h = by (bytes_eq x.0 name) (maps-with name new xs m.1 h)
  where
    by : (b : Bool) → AreMaps (with_document name new xs) → AreMaps (cond b ((x.0, new) ∷ xs) (x ∷ with_document name new xs))
    by true later = (h, m.1)
    by false later = (m.0, later)

-- what a command comes to
put-maps : (docs : Docs) (name body : List ℕ) (p : Plain) → AreMaps docs → AreMaps (put_tree docs name body p).0
put-maps docs name body (dict es) m = maps-with name (record { head = content_of (dict es); body = body }) docs m refl
put-maps docs name body null m = m
put-maps docs name body (bool b) m = m
put-maps docs name body (int z) m = m
put-maps docs name body (text s) m = m
put-maps docs name body (list ps) m = m

text-maps : (docs mid : Docs) (name : List ℕ) (r : ReplyView) (o : Option (List ℕ × List ℕ)) → PutText docs name o (mid, r) → AreMaps docs → AreMaps mid
text-maps docs mid name r None is m = subst AreMaps (sym (ap (λ (x : Docs × ReplyView). x.0) is)) m
text-maps docs mid name r (Some parts) (taken p may is) m = subst AreMaps (sym (ap (λ (x : Docs × ReplyView). x.0) is)) (put-maps docs name parts.1 p m)
text-maps docs mid name r (Some parts) (refused none is) m = subst AreMaps (sym (ap (λ (x : Docs × ReplyView). x.0) is)) m

-- a change of a head that keeps it a map
abbrev KeepsMaps : (Document → Changed) → Type 0
KeepsMaps change = (d : Document) (new : t.Tree) → is_map d.head ≡ true → (change d).0 ≡ Some new → is_map new ≡ true

changed-maps : (docs : Docs) (name : List ℕ) (d : Document) (c : Changed) → AreMaps docs → ((new : t.Tree) → c.0 ≡ Some new → is_map new ≡ true) → AreMaps (changed_by docs name d c).0
changed-maps docs name d (None, r) m each = m
changed-maps docs name d (Some new, r) m each = maps-with name (record { head = new; body = d.body }) docs m (each new refl)

changed-of-maps : (change : Document → Changed) (name : List ℕ) (docs : Docs) (o : Option Document) → document_in name docs ≡ o → AreMaps docs → KeepsMaps change → AreMaps (changed_of change name docs o).0
changed-of-maps change name docs None is m keeps = m
changed-of-maps change name docs (Some d) is m keeps = changed-maps docs name d (change d) m (λ new e. keeps d new (map-in name docs d m is) e)

pub maps-stay : (docs mid : Docs) (c : CommandView) (r : ReplyView) → Comes docs c (mid, r) → AreMaps docs → AreMaps mid
maps-stay docs mid (puts name words) r h m = text-maps docs mid name r (front_read words) h m
maps-stay docs mid (gets name path) r is m =
    subst AreMaps (sym (ap (λ (x : Docs × ReplyView). x.0) is ∙ told-docs (λ d. found (get_tree path d.head)) docs (document_in name docs))) m
maps-stay docs mid (sets name path v) r is m =
    subst AreMaps (sym (ap (λ (x : Docs × ReplyView). x.0) is))
    (changed-of-maps (λ d. set_head path (content_of (plain v)) d.head) name docs (document_in name docs) refl m (λ d new h e. set-head-map path (content_of (plain v)) d.head new h e))
maps-stay docs mid (removes name path) r is m =
    subst AreMaps (sym (ap (λ (x : Docs × ReplyView). x.0) is))
    (changed-of-maps (λ d. remove_head path d.head) name docs (document_in name docs) refl m (λ d new h e. remove-head-map path d.head new h e))
maps-stay docs mid (prints name) r is m =
    subst AreMaps (sym (ap (λ (x : Docs × ReplyView). x.0) is ∙ told-docs (λ d. printed (printed_of d.head d.body)) docs (document_in name docs))) m

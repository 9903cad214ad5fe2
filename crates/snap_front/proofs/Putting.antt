-- What a text comes to that is put as a document.
use Rattle.snap_front.proofs.Prelude.{◌≡◌, ℕ, false, List, None, Some, refl, sym, ap, ◌∙◌, subst, inl, inr, ◌⊎◌, front_read}
use Rattle.snap_content.specs.Tree as t
use Rattle.snap_content.specs.Plain.{Plain, null, bool, int, text, list, dict, Entries, content_of}
use Rattle.snap_front.specs.Commands.{ReplyView, puts, done, not_front, not_map, refusal_of}
use Rattle.snap_front.specs.Documents.{Docs, with_document}
use Rattle.snap_front.specs.Heads.{IsNoTree, IsNoMap, is_dict}
use Rattle.snap_front.specs.Reading.{MayReadAs}
use Rattle.snap_front.specs.Runs.{put_tree, PutEnd, PutText, Comes}
use Rattle.snap_front.specs.Runs.PutEnd.{taken, refused}
use Rattle.snap_front.specs.declared.refusal.Refusal.{Refusal}

other-put : (docs : Docs) (name body : List ℕ) (p : Plain) → is_dict p ≡ false → put_tree docs name body p ≡ (docs, not_map)
other-put docs name body (dict es) e = absurd (cc)
other-put docs name body null e = refl
other-put docs name body (bool b) e = refl
other-put docs name body (int z) e = refl
other-put docs name body (text s) e = refl
other-put docs name body (list ps) e = refl

-- a text without a header
pub put-none : (docs : Docs) (name words : List ℕ) (r : ReplyView) → None ≡ front_read words → r ≡ not_front → Comes docs (puts name words) (docs, r)
put-none docs name words r e is = subst (λ o. PutText docs name o (docs, r)) e (ap (λ (x : ReplyView). (docs, x)) is)

refused-end : (docs : Docs) (name header body : List ℕ) (why : Refusal) (r : ReplyView) → r ≡ refusal_of why → IsNoTree header why ⊎ IsNoMap header why → PutEnd docs name header body (docs, r)
refused-end docs name header body why r is (inl h) = refused h.nothing (ap (λ (x : ReplyView). (docs, x)) (is ∙ h.refusal_is))
refused-end docs name header body why r is (inr h) = taken h.made h.may (ap (λ (x : ReplyView). (docs, x)) (is ∙ h.refusal_is) ∙ sym (other-put docs name body h.made h.other))

-- a text whose header is refused
pub put-refused : (docs : Docs) (name words header body : List ℕ) (why : Refusal) (r : ReplyView) → Some (header, body) ≡ front_read words → r ≡ refusal_of why → IsNoTree header why ⊎ IsNoMap header why
    → Comes docs (puts name words) (docs, r)
put-refused docs name words header body why r e is h = subst (λ o. PutText docs name o (docs, r)) e (refused-end docs name header body why r is h)

-- a text whose header is a map
pub put-done : (docs docs' : Docs) (name words header body : List ℕ) (head : t.Tree) (r : ReplyView) (es : Entries) → Some (header, body) ≡ front_read words → r ≡ done → head ≡ content_of (dict es) → MayReadAs header (dict es)
    → docs' ≡ with_document name (record { head = head; body = body }) docs → Comes docs (puts name words) (docs', r)
put-done docs docs' name words header body head r es e is made may after =
    let same : (docs', r) ≡ put_tree docs name body (dict es)
    = ap (λ (x : Docs). (x, r)) (after ∙ ap (λ (h : t.Tree). with_document name (record { head = h; body = body }) docs) made) ∙ ap (λ (x : ReplyView). (with_document name (record { head = content_of (dict es); body = body }) docs, x)) is in
    subst (λ o. PutText docs name o (docs', r)) e (taken (dict es) may same)

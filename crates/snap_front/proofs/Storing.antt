-- What a command comes to, by the place of its document.
use Rattle.snap_front.proofs.Prelude.{◌≡◌, ℕ, Bool, true, false, cond, List, [], ◌∷◌, Option, None, Some, refl, sym, ap, ◌∙◌, bytes_eq, Result, Ok, Err, OnErr}
use Rattle.snap_content.specs.Tree as t
use Rattle.snap_front.specs.Commands.{ReplyView, no_name}
use Rattle.snap_front.specs.Documents.{Document, Docs, document_in, with_document}
use Rattle.snap_front.specs.Heads.{Changed, IsChanged}
use Rattle.snap_front.specs.Runs.{told_of, changed_by, changed_of}

pub told-there : (tell : Document → ReplyView) (docs : Docs) (o : Option Document) (d : Document) (r : ReplyView) → o ≡ Some d → r ≡ tell d → (docs, r) ≡ told_of tell docs o
told-there tell docs o d r is same = ap (λ (x : ReplyView). (docs, x)) same ∙ sym (ap (told_of tell docs) is)

pub told-missing : (tell : Document → ReplyView) (docs : Docs) (o : Option Document) (r : ReplyView) → o ≡ None → r ≡ no_name → (docs, r) ≡ told_of tell docs o
told-missing tell docs o r is same = ap (λ (x : ReplyView). (docs, x)) same ∙ sym (ap (told_of tell docs) is)

pub changed-missing : (change : Document → Changed) (name : List ℕ) (docs : Docs) (o : Option Document) (r : ReplyView) → o ≡ None → r ≡ no_name → (docs, r) ≡ changed_of change name docs o
changed-missing change name docs o r is same = ap (λ (x : ReplyView). (docs, x)) same ∙ sym (ap (changed_of change name docs) is)

-- the same document again changes nothing
pub same-again : (name : List ℕ) (d : Document) (docs : Docs) → document_in name docs ≡ Some d → with_document name d docs ≡ docs
same-again name d [] is = absurd (cc)
same-again name d (p ∷ ps) is = by (bytes_eq p.0 name) refl (same-again name d ps)
  where
    by : (b : Bool) → bytes_eq p.0 name ≡ b → (document_in name ps ≡ Some d → with_document name d ps ≡ ps) → with_document name d (p ∷ ps) ≡ p ∷ ps
    by true e later =
        let there : Some p.1 ≡ Some d = sym (ap (λ b. cond b (Some p.1) (document_in name ps)) e) ∙ is in
        let one : d ≡ p.1 = cc in
        ap (λ b. cond b ((p.0, d) ∷ ps) (p ∷ with_document name d ps)) e ∙ ap (λ (x : Document). (p.0, x) ∷ ps) one
    by false e later =
        let there : document_in name ps ≡ Some d = sym (ap (λ b. cond b (Some p.1) (document_in name ps)) e) ∙ is in
        ap (λ b. cond b ((p.0, d) ∷ ps) (p ∷ with_document name d ps)) e ∙ ap (λ (x : Docs). p ∷ x) (later there)

pub changed-there : (change : Document → Changed) (name : List ℕ) (docs docs' : Docs) (d : Document) (new : t.Tree) (r : ReplyView) → document_in name docs ≡ Some d
    → docs' ≡ with_document name (record { head = new; body = d.body }) docs → IsChanged (change d) d.head new r → (docs', r) ≡ changed_of change name docs (document_in name docs)
changed-there change name docs docs' d new r is after h = by (change d) h ∙ sym (ap (changed_of change name docs) is)
  where
    by : (c : Changed) → IsChanged c d.head new r → (docs', r) ≡ changed_by docs name d c
    by (None, a) k =
        let kept : docs' ≡ docs = after ∙ ap (λ (x : t.Tree). with_document name (record { head = x; body = d.body }) docs) k.head ∙ same-again name d docs is in
        ap (λ (x : Docs). (x, r)) kept ∙ ap (λ (x : ReplyView). (docs, x)) k.reply_is
    by (Some n, a) k =
        let made : docs' ≡ with_document name (record { head = n; body = d.body }) docs = after ∙ ap (λ (x : t.Tree). with_document name (record { head = x; body = d.body }) docs) k.head in
        ap (λ (x : Docs). (x, r)) made ∙ ap (λ (x : ReplyView). (with_document name (record { head = n; body = d.body }) docs, x)) k.reply_is

-- what holds holds where there is an error
pub on-err : {T E : Type 0} {P : Type 0} (r : Result T E) → P → OnErr r P
on-err (Ok x) h = tt
on-err (Err e) h = h

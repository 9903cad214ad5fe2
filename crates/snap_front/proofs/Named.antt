-- Documents by their places.
use Rattle.snap_front.proofs.Prelude.{◌≡◌, ℕ, suc, zero, Bool, true, false, cond, List, [], ◌∷◌, ◌++◌, None, Some, refl, sym, ap, ◌∙◌, get_or, set, position}
use Rattle.snap_front.specs.Documents.{Docs, document_in, with_document}
use Rattle.snap_front.specs.Stored.{seen, named, docs_in, is_named}
use Rattle.snap_front.specs.declared.store.Held.{Held}
use Rattle.snap_front.proofs.Placed.{first_here, first_later, never_first, same_place, none_later, not_none}

-- the document at the first place with that name, and the documents with another one there
pub record IsHeld (name : List ℕ) (ds : List (List ℕ × Held)) (i : ℕ) (x : List ℕ × Held) : Type 0 where
  pub there : document_in name (docs_in ds) ≡ Some (seen x.1)
  pub put : (y : List ℕ × Held) → y.0 ≡ x.0 → with_document name (seen y.1) (docs_in ds) ≡ docs_in (set ds i y)

held_here : (name : List ℕ) (p : List ℕ × Held) (ps : List (List ℕ × Held)) (x : List ℕ × Held) → is_named name p ≡ true → x ≡ p → IsHeld name (p ∷ ps) 0 x
held_here name p ps x at is = record {
  there = ap (λ b. cond b (Some (seen p.1)) (document_in name (docs_in ps))) at ∙ ap (λ (z : List ℕ × Held). Some (seen z.1)) (sym is);
  put = λ y same.
      ap (λ b. cond b ((p.0, seen y.1) ∷ docs_in ps) (named p ∷ with_document name (seen y.1) (docs_in ps))) at
      ∙ ap (λ (k : List ℕ). (k, seen y.1) ∷ docs_in ps) (sym (same ∙ ap (λ (z : List ℕ × Held). z.0) is));
}

held_later : (name : List ℕ) (p : List ℕ × Held) (ps : List (List ℕ × Held)) (i : ℕ) (x : List ℕ × Held) → is_named name p ≡ false → IsHeld name ps i x → IsHeld name (p ∷ ps) (suc i) x
held_later name p ps i x at later = record {
  there = ap (λ b. cond b (Some (seen p.1)) (document_in name (docs_in ps))) at ∙ later.there;
  put = λ y same.
      ap (λ b. cond b ((p.0, seen y.1) ∷ docs_in ps) (named p ∷ with_document name (seen y.1) (docs_in ps))) at
      ∙ ap (λ (ds : Docs). named p ∷ ds) (later.put y same);
}

pub held : (name : List ℕ) (ps : List (List ℕ × Held)) (i : ℕ) (x : List ℕ × Held) → position (is_named name) ps ≡ Some i → x ≡ get_or ps i x → IsHeld name ps i x
held name [] i x e is = absurd (cc)
held name (p ∷ ps) zero x e is = by (is_named name p) refl
  where
    by : (b : Bool) → is_named name p ≡ b → IsHeld name (p ∷ ps) 0 x
    by true at = held_here name p ps x at is
    by false at = absurd (never_first (position (is_named name) ps) (sym (first_later (is_named name) p ps at) ∙ e))
held name (p ∷ ps) (suc i) x e is = by (is_named name p) refl (λ f. held name ps i x f is)
  where
    by : (b : Bool) → is_named name p ≡ b → (position (is_named name) ps ≡ Some i → IsHeld name ps i x) → IsHeld name (p ∷ ps) (suc i) x
    by true at later = let none : Some 0 ≡ Some (suc i) = sym (first_here (is_named name) p ps at) ∙ e in absurd (cc)
    by false at later = held_later name p ps i x at (later (same_place (position (is_named name) ps) i (sym (first_later (is_named name) p ps at) ∙ e)))

-- where no document has the name, one more is added after the others
pub record IsMissing (name : List ℕ) (ds : List (List ℕ × Held)) : Type 0 where
  pub there : document_in name (docs_in ds) ≡ None
  pub put : (new : Held) → with_document name (seen new) (docs_in ds) ≡ docs_in (ds ++ (name, new) ∷ [])

pub missing : (name : List ℕ) (ps : List (List ℕ × Held)) → position (is_named name) ps ≡ None → IsMissing name ps
missing name [] e = record { there = refl; put = λ new. refl }
missing name (p ∷ ps) e = by (is_named name p) refl (missing name ps)
  where
    by : (b : Bool) → is_named name p ≡ b → (position (is_named name) ps ≡ None → IsMissing name ps) → IsMissing name (p ∷ ps)
    by true at later = absurd (not_none (position (is_named name) (p ∷ ps)) (first_here (is_named name) p ps at) e)
    by false at later =
        let more = later (none_later (position (is_named name) ps) (sym (first_later (is_named name) p ps at) ∙ e)) in
        record {
          there = ap (λ b. cond b (Some (seen p.1)) (document_in name (docs_in ps))) at ∙ more.there;
          put = λ new.
              ap (λ b. cond b ((p.0, seen new) ∷ docs_in ps) (named p ∷ with_document name (seen new) (docs_in ps))) at
              ∙ ap (λ (ds : Docs). named p ∷ ds) (more.put new);
        }

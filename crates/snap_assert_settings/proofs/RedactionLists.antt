-- Redactions, one after another.
use Rattle.snap_assert_settings.proofs.Prelude.{◌≡◌, ℕ, ◌+◌, ◌<◌, List, [], ◌∷◌, ◌++◌, length, map, take, get_or, refl, sym, ap, ◌∙◌, subst, append_assoc, append-nil, arith, inl, inr, Tree, Objects, Puts, IsRedacted, parts_of, Redaction, Selector, RedactionView, redaction_at, redaction_of, RedactedBy, AreRedactions, AreRefused}
use Rattle.std.proofs.lemmas.List.{take_more}
use Rattle.snap_select.specs.Grammar.{IsSelector}
use Rattle.snap_select.specs.Parts.{Parts}
use Rattle.snap_select.specs.Refusal.{IsRefused}
use Rattle.snap_select.specs.declared.fault.SelectError.{SelectError}

push_redacted : {X : Type 0} {P : X → Type 0} {Y : Type 0} {Q : Y → Type 0} {g : _} (objects : Objects X P) (rs : List (RedactionView (Redaction X Y P Q g)))
    (r : RedactionView (Redaction X Y P Q g)) (c next out : Tree) → RedactedBy objects rs c next → IsRedacted r.parts (Puts objects r.redaction) next out → RedactedBy objects (rs ++ r ∷ []) c out
push_redacted objects [] r c next out e h = (out, subst (λ x. IsRedacted r.parts (Puts objects r.redaction) x out) e h, refl)
push_redacted objects (x ∷ xs) r c next out p h = (p.0, p.1, push_redacted objects xs r p.0 next out p.2 h)

pub map-push : {A B : Type 0} (f : A → B) (ps : List A) (p : A) → map f (ps ++ p ∷ []) ≡ map f ps ++ f p ∷ []
map-push f [] p = refl
map-push f (x ∷ xs) p = ap (λ rs. f x ∷ rs) (map-push f xs p)

-- one redaction more
pub one_more : {X : Type 0} {P : X → Type 0} {Y : Type 0} {Q : Y → Type 0} {g : _} (objects : Objects X P) (ps : List (Selector × Redaction X Y P Q g)) (i : ℕ)
    (p : Selector × Redaction X Y P Q g) (c next out : Tree) → i < length ps → p ≡ get_or ps i p → RedactedBy objects (map redaction_of (take i ps)) c next
    → IsRedacted (parts_of p.0) (Puts objects p.1) next out → RedactedBy objects (map redaction_of (take (i + 1) ps)) c out
one_more objects ps i p c next out small is so_far h =
    subst (λ qs. RedactedBy objects qs c out)
    (sym (ap (λ qs. map redaction_of qs) (take_more ps i p small ∙ ap (λ x. take i ps ++ x ∷ []) (sym is)) ∙ map-push redaction_of (take i ps) p))
    (push_redacted objects (map redaction_of (take i ps)) (redaction_of p) c next out so_far h)

-- what is made of a list so far, with what is made of its rest
pub record GoesOn {R : Type 0} (whole rest : List (List ℕ × R)) (made : List (RedactionView R)) : Type 0 where
  pub ok : (more : List (RedactionView R)) → AreRedactions rest more → AreRedactions whole (made ++ more)
  pub no : (error : SelectError) → AreRefused rest error → AreRefused whole error

pub begins : {R : Type 0} (whole : List (List ℕ × R)) (made : List (RedactionView R)) → made ≡ [] → GoesOn whole whole made
begins whole made none = record {
  ok = λ more h. subst (λ m. AreRedactions whole (m ++ more)) (sym none) h;
  no = λ error h. h;
}

pub goes_on : {R : Type 0} (whole rest more : List (List ℕ × R)) (p : List ℕ × R) (made made' : List (RedactionView R)) (parts : Parts) → GoesOn whole rest made
    → rest ≡ p ∷ more → IsSelector p.0 parts → made' ≡ made ++ redaction_at parts p.1 ∷ [] → GoesOn whole more made'
goes_on whole rest more p made made' parts g is h next =
    let r = redaction_at parts p.1 in record {
      ok = λ later k.
          let here : AreRedactions rest (r ∷ later) = subst (λ l. AreRedactions l (r ∷ later)) (sym is) (record { selector = h; redaction_is = refl }, k) in
          subst (λ m. AreRedactions whole m) (sym (append_assoc made (r ∷ []) later) ∙ ap (λ m. m ++ later) (sym next)) (g.ok (r ∷ later) here);
      no = λ error k.
          let here : AreRefused rest error = subst (λ l. AreRefused l error) (sym is) (inr (parts, h, k)) in
          g.no error here;
    }

pub is_refused : {R : Type 0} (whole rest more : List (List ℕ × R)) (p : List ℕ × R) (made : List (RedactionView R)) (error : SelectError) → GoesOn whole rest made
    → rest ≡ p ∷ more → IsRefused p.0 error → AreRefused whole error
is_refused whole rest more p made error g is h = g.no error (subst (λ l. AreRefused l error) (sym is) (inl h))

pub all_made : {R : Type 0} (whole rest : List (List ℕ × R)) (made : List (RedactionView R)) → GoesOn whole rest made → rest ≡ [] → AreRedactions whole made
all_made whole rest made g none =
    subst (λ m. AreRedactions whole m) (append-nil made) (g.ok [] (subst (λ l. AreRedactions l []) (sym none) tt))

pub nothing_left : {X : Type 0} (l : List X) → length l ≡ 0 → l ≡ []
nothing_left [] h = refl
nothing_left (x ∷ xs) h = absurd (omega arith)

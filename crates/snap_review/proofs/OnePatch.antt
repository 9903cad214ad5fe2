-- A source is patched in one way, and is not refused then.
use Rattle.snap_review.proofs.Prelude.{◌≡◌, ◌⊎◌, ℕ, List, [], ◌∷◌, ◌++◌, Option, None, Some, refl, sym, ap, ◌∙◌, subst, inl, inr, some_same, literal_reads, IsBehind, lead, inline_normal, spelled, IsMarked, HasNoneMarked, Stands, NoneFrom, StandsFor, IsFresh, IsStale, Puts, IsPatched, Stops, IsRefused, NewLiteral, Refusal, NotStable, NoLiteral, Stale, SameLiteral, OutOfMemory}
use Rattle.std.proofs.lemmas.List.{append_cancel_right}
use Rattle.snap_text_literals.proofs.LiteralFronts.{literal-alone}

-- of two fronts of one text the longer begins with the shorter
record Fronts (f b g d : List ℕ) : Type 0 where
  either : ((more : List ℕ) × (g ≡ f ++ more) × (b ≡ more ++ d)) ⊎ ((more : List ℕ) × (f ≡ g ++ more) × (d ≡ more ++ b))

one_more : (c x : ℕ) (f b g d : List ℕ) → c ≡ x → Fronts f b g d → Fronts (c ∷ f) b (x ∷ g) d
one_more c x f b g d same r = record { either = by r.either }
  where
    by : ((more : List ℕ) × (g ≡ f ++ more) × (b ≡ more ++ d)) ⊎ ((more : List ℕ) × (f ≡ g ++ more) × (d ≡ more ++ b))
        → ((more : List ℕ) × (x ∷ g ≡ c ∷ f ++ more) × (b ≡ more ++ d)) ⊎ ((more : List ℕ) × (c ∷ f ≡ x ∷ g ++ more) × (d ≡ more ++ b))
    by (inl h) = inl (h.0, ap (λ y. y ∷ g) (sym same) ∙ ap (λ t. c ∷ t) h.1, h.2)
    by (inr h) = inr (h.0, ap (λ y. y ∷ f) same ∙ ap (λ t. x ∷ t) h.1, h.2)

fronts : (f b g d : List ℕ) → f ++ b ≡ g ++ d → Fronts f b g d
fronts [] b g d e = record { either = inl (g, refl, e) }
fronts (c ∷ f) b [] d e = record { either = inr (c ∷ f, refl, sym e) }
fronts (c ∷ f) b (x ∷ g) d e = let head : c ≡ x = cc in one_more c x f b g d head (fronts f b g d cc)

behind_one : (source b d : List ℕ) → IsBehind literal_reads source b → IsBehind literal_reads source d → b ≡ d
behind_one source b d h k = by (fronts h.front b k.front d (sym h.is ∙ k.is)).either
  where
    by : ((more : List ℕ) × (k.front ≡ h.front ++ more) × (b ≡ more ++ d)) ⊎ ((more : List ℕ) × (h.front ≡ k.front ++ more) × (d ≡ more ++ b)) → b ≡ d
    by (inl r) = r.2 ∙ ap (λ t. t ++ d) (literal-alone h.front r.0 h.text k.text h.reads (subst (λ t. literal_reads t k.text) r.1 k.reads))
    by (inr r) = sym (r.2 ∙ ap (λ t. t ++ b) (literal-alone k.front r.0 k.text h.text k.reads (subst (λ t. literal_reads t h.text) r.1 h.reads)))

pub marked_one : (text here behind other after : List ℕ) → IsMarked text here behind → IsMarked text other after → (here ≡ other) × (behind ≡ after)
marked_one [] here behind other after h k = absurd h
marked_one (c ∷ cs) here behind other after (inl h) (inl k) = (h.1 ∙ sym k.1, behind_one cs behind after h.2 k.2)
marked_one (c ∷ cs) here behind other after (inl h) (inr k) = absurd (k.0 h.0 behind h.2)
marked_one (c ∷ cs) here behind other after (inr h) (inl k) = absurd (h.0 k.0 after k.2)
marked_one (c ∷ cs) here behind other after (inr h) (inr k) = marked_one cs here behind other after h.1 k.1

pub marked_some : (text here behind : List ℕ) → IsMarked text here behind → HasNoneMarked text → ⊥
marked_some [] here behind h none = h
marked_some (c ∷ cs) here behind (inl h) none = none.0 h.0 behind h.2
marked_some (c ∷ cs) here behind (inr h) none = marked_some cs here behind h.1 none.1

record SamePlace (source : List ℕ) (line : ℕ) (p q : Stands source line) : Type 0 where
  from_same : p.from ≡ q.from
  here_same : p.here ≡ q.here
  behind_same : p.behind ≡ q.behind

one_place : (source : List ℕ) (line : ℕ) (p q : Stands source line) → SamePlace source line p q
one_place source line p q =
    let from_same : p.from ≡ q.from = some_same p.from q.from (sym p.line_is ∙ q.line_is) in
    let both = marked_one q.from p.here p.behind q.here q.behind (subst (λ from. IsMarked from p.here p.behind) from_same p.first) q.first in
    record { from_same = from_same; here_same = both.0; behind_same = both.1 }

record SamePut (put behind put' behind' : List ℕ) : Type 0 where
  put_same : put ≡ put'
  behind_same : behind ≡ behind'

one_put : (source rest : List ℕ) (change : NewLiteral) (put behind put' behind' : List ℕ) → Puts source rest change put behind → Puts source rest change put' behind' → SamePut put behind put' behind'
one_put source rest change put behind put' behind' p q =
    let place = one_place source change.line p.place q.place in
    let gap : p.gap ≡ q.gap = append_cancel_right p.gap q.gap q.place.here (ap (λ h. p.gap ++ h) (sym place.here_same) ∙ sym p.gap_is ∙ q.gap_is) in
    record {
      put_same = p.put_is ∙ ap (λ g. g ++ spelled (lead p.place.from) (inline_normal change.text)) gap
          ∙ ap (λ from. q.gap ++ spelled (lead from) (inline_normal change.text)) place.from_same ∙ sym q.put_is;
      behind_same = p.behind_is ∙ place.behind_same ∙ sym q.behind_is;
    }

pub one_patch : (source rest : List ℕ) (changes : List NewLiteral) (made other : List ℕ) → IsPatched source rest changes made → IsPatched source rest changes other → made ≡ other
one_patch source rest [] made other h k = h ∙ sym k
one_patch source rest (c ∷ cs) made other (put, behind, later, p, is, more) (put', behind', later', q, is', more') =
    let same = one_put source rest c put behind put' behind' p q in
    let rests : later ≡ later' = one_patch source behind' cs later later' (subst (λ b. IsPatched source b cs later) same.behind_same more) more' in
    is ∙ ap (λ x. x ++ later) same.put_same ∙ ap (λ x. put' ++ x) rests ∙ sym is'

-- a change that is put isn't refused
stale_put : (old : Option (List ℕ)) (here behind here' behind' : List ℕ) → here ≡ here' → behind ≡ behind' → IsFresh old here behind → IsStale old here' behind' → ⊥
stale_put None here behind here' behind' e f fresh stale = let no : None ≡ Some stale.known = stale.old_is in cc
stale_put (Some old) here behind here' behind' e f fresh stale =
    let known : old ≡ stale.known = some_same old stale.known stale.old_is in
    stale.other (subst (λ o. StandsFor here' behind' o) known (subst (λ h. StandsFor h behind' old) e (subst (λ b. StandsFor here b old) f fresh)))

not_stopped : (source rest : List ℕ) (change : NewLiteral) (put behind : List ℕ) (refusal : Refusal) → Puts source rest change put behind → Stops source rest change refusal → (refusal ≡ OutOfMemory → ⊥) → ⊥
not_stopped source rest change put behind (NotStable line) p h memory = h.1 p.stable
not_stopped source rest change put behind (NoLiteral line) p h memory = marked_some p.place.from p.place.here p.place.behind p.place.first (subst NoneFrom p.place.line_is h.2)
not_stopped source rest change put behind (Stale line) p h memory =
    let place = one_place source change.line p.place h.2.0 in stale_put change.old p.place.here p.place.behind h.2.0.here h.2.0.behind place.here_same place.behind_same p.fresh h.2.1
not_stopped source rest change put behind (SameLiteral line) p h memory =
    let place = one_place source change.line p.place h.2.0 in h.2.2 p.gap (p.gap_is ∙ ap (λ x. p.gap ++ x) place.here_same)
not_stopped source rest change put behind OutOfMemory p h memory = memory refl

pub not_refused : (source rest : List ℕ) (changes : List NewLiteral) (made : List ℕ) (refusal : Refusal) → IsPatched source rest changes made → (refusal ≡ OutOfMemory → ⊥) → IsRefused source rest changes refusal → ⊥
not_refused source rest [] made refusal h memory r = r
not_refused source rest (c ∷ cs) made refusal (put, behind, later, p, is, more) memory (inl stops) = not_stopped source rest c put behind refusal p stops memory
not_refused source rest (c ∷ cs) made refusal (put, behind, later, p, is, more) memory (inr (put', behind', q, stops)) =
    let same = one_put source rest c put behind put' behind' p q in
    not_refused source behind cs later refusal more memory (subst (λ b. IsRefused source b cs refusal) (sym same.behind_same) stops)

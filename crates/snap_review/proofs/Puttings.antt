-- A source that is patched change by change.
use Rattle.snap_review.proofs.Prelude.{◌≡◌, ◌⊎◌, ℕ, zero, suc, ◌+◌, ◌<◌, ◌≤◌, List, [], ◌∷◌, ◌++◌, Bool, true, false, ◌&&◌, drop, get_or, drop-cons, add-one, cond, Option, Some, length, refl, sym, ap, ◌∙◌, arith, append_assoc, length-append, inl, inr, encodes, encodes-chars, encodes-append, chars, IsUtf8, literal_reads, lead, inline_normal, of_literal, spelled, is_indent, IsIndentation, from_line, IsMarked, StandsFor, IsFresh, IsStale, Puts, IsPatched, Stops, IsRefused, RefusedFrom, ReadsBack, FreshEnd, NewLiteral, Refusal, NotStable, NoLiteral, Stale, SameLiteral, OutOfMemory}
use Rattle.std.specs.List.{list_all}
use Rattle.std.proofs.lemmas.Str.{length-le-encodes}
use Rattle.std.proofs.lemmas.List.{append_cancel_right}
use Rattle.snap_text_literals.proofs.InlineLaw.{comes-back}
use Rattle.snap_review.proofs.Marks.{IsRest, rest_then, from_rest, marked_rest, marked_literal, two_rests}

-- what was made so far, and what is left, are the whole
pub record IsSoFar (source : List ℕ) (all left : List NewLiteral) (made rest : List ℕ) : Type 0 where
  pub patched : (more : List ℕ) → IsPatched source rest left more → IsPatched source source all (made ++ more)
  pub refused : (r : Refusal) → IsRefused source rest left r → IsRefused source source all r

pub so_far_start : (source : List ℕ) (all : List NewLiteral) (made : List ℕ) → made ≡ [] → IsSoFar source all all made source
so_far_start source all made none = record { patched = λ more h. rw none h; refused = λ r h. h }

pub so_far_then : (source : List ℕ) (all left later : List NewLiteral) (change : NewLiteral) (made rest put behind next : List ℕ) → IsSoFar source all left made rest → left ≡ change ∷ later
    → Puts source rest change put behind → next ≡ made ++ put → IsSoFar source all later next behind
so_far_then source all left later change made rest put behind next s is p made_is = record {
  patched = λ more h. rw (made_is, append_assoc made put more) (s.patched (put ++ more) (rw is (put, behind, more, p, refl, h)));
  refused = λ r h. s.refused r (rw is (inr (put, behind, p, h)));
}

pub so_far_end : (source : List ℕ) (all left : List NewLiteral) (made rest : List ℕ) → IsSoFar source all left made rest → left ≡ [] → IsPatched source source all (made ++ rest)
so_far_end source all left made rest s is = s.patched rest (rw is refl)

stops_from : (source rest : List ℕ) (all : List NewLiteral) (r : Refusal) → IsRefused source rest all r → RefusedFrom source rest all r
stops_from source rest all (NotStable line) h = h
stops_from source rest all (NoLiteral line) h = h
stops_from source rest all (Stale line) h = h
stops_from source rest all (SameLiteral line) h = h
stops_from source rest all OutOfMemory h = tt

pub so_far_stops : (source : List ℕ) (all left later : List NewLiteral) (change : NewLiteral) (made rest : List ℕ) (r : Refusal) → IsSoFar source all left made rest → left ≡ change ∷ later
    → Stops source rest change r → RefusedFrom source source all r
so_far_stops source all left later change made rest r s is h = stops_from source source all r (s.refused r (rw is (inl h)))

-- the gap in front of a literal
pub gap_bytes : (rest here gap : List ℕ) → IsUtf8 rest → IsUtf8 here → chars rest ≡ gap ++ chars here → length here ≤ length rest
gap_bytes rest here gap u v e =
    let bytes : rest ≡ encodes gap ++ here = sym (encodes-chars rest u) ∙ ap encodes e ∙ encodes-append gap (chars here) ∙ ap (λ x. encodes gap ++ x) (encodes-chars here v) in
    omega (arith, ap length bytes, length-append (encodes gap) here)

pub record HasGap (rest here : List ℕ) : Type 0 where
  pub gap : List ℕ
  pub is : rest ≡ gap ++ here

no_more : (xs : List ℕ) → length (encodes xs) ≡ 0 → xs ≡ []
no_more [] h = refl
no_more (c ∷ cs) h = absurd (omega (arith, length-le-encodes (c ∷ cs), h))

pub has_gap : (source rest here a b : List ℕ) → IsUtf8 rest → IsUtf8 here → source ≡ a ++ chars rest → source ≡ b ++ chars here → length here ≤ length rest → HasGap (chars rest) (chars here)
has_gap source rest here a b u v e f long = by (two_rests a (chars rest) b (chars here) (sym e ∙ f)).either
  where
    by : IsRest (chars rest) (chars here) ⊎ IsRest (chars here) (chars rest) → HasGap (chars rest) (chars here)
    by (inl r) = record { gap = r.front; is = r.is }
    by (inr r) =
        let bytes : here ≡ encodes r.front ++ rest = sym (encodes-chars here v) ∙ ap encodes r.is ∙ encodes-append r.front (chars rest) ∙ ap (λ x. encodes r.front ++ x) (encodes-chars rest u) in
        let none : r.front ≡ [] = no_more r.front (omega (arith, ap length bytes, length-append (encodes r.front) rest)) in
        record { gap = []; is = sym (r.is ∙ ap (λ x. x ++ chars rest) none) }

-- indentation
lead-indents : (text : List ℕ) → IsIndentation (lead text)
lead-indents [] = refl
lead-indents (c ∷ cs) = by (is_indent c) refl (lead-indents cs)
  where
    by : (b : Bool) → is_indent c ≡ b → IsIndentation (lead cs) → IsIndentation (cond b (c ∷ lead cs) [])
    by true e later = ap (λ b. b && list_all is_indent (lead cs)) e ∙ later
    by false e later = refl

pub reads-back : (source rest put behind : List ℕ) (change : NewLiteral) → (p : Puts source rest change put behind) → ReadsBack (spelled (lead p.place.from) (inline_normal change.text)) change.text
reads-back source rest put behind change p =
    comes-back (spelled (lead p.place.from) (inline_normal change.text)) (lead p.place.from) change.text refl (lead-indents p.place.from) (ap inline_normal p.stable)

-- whether a literal stands for a text of that normal form
pub stands_iff : (Same : Type 0) (here behind literal text normal : List ℕ) → here ≡ literal ++ behind → literal_reads literal text → ((t u : List ℕ) → literal_reads literal t → literal_reads literal u → t ≡ u)
    → (Same → inline_normal (of_literal text) ≡ normal) × (inline_normal (of_literal text) ≡ normal → Same) → (Same → StandsFor here behind normal) × (StandsFor here behind normal → Same)
stands_iff Same here behind literal text normal is reads one (to, from) = (
  λ s. record { literal = literal; text = text; is = is; reads = reads; normal_is = to s },
  λ s.
      let same : s.literal ≡ literal = append_cancel_right s.literal literal behind (sym s.is ∙ is) in
      let text_is : s.text ≡ text = one s.text text (rw same at s.reads) reads in
      from (ap (λ t. inline_normal (of_literal t)) (sym text_is) ∙ s.normal_is),
)

pub fresh_end : (b : Bool) (old : List ℕ) (here behind : List ℕ) → (b ≡ true → StandsFor here behind old) × (StandsFor here behind old → b ≡ true) → FreshEnd b (Some old) here behind
fresh_end true old here behind p = p.0 refl
fresh_end false old here behind p = record { known = old; old_is = refl; other = λ s. let e : false ≡ true = p.1 s in cc }

pub fresh_true : (b : Bool) (old : Option (List ℕ)) (here behind : List ℕ) → b ≡ true → FreshEnd b old here behind → IsFresh old here behind
fresh_true true old here behind e h = h
fresh_true false old here behind e h = absurd (cc)

pub fresh_false : (b : Bool) (old : Option (List ℕ)) (here behind : List ℕ) → b ≡ false → FreshEnd b old here behind → IsStale old here behind
fresh_false false old here behind e h = h
fresh_false true old here behind e h = absurd (cc)

-- the changes that are left
pub left_at : {X : Type 0} (xs : List X) (i : ℕ) (x : X) → i < length xs → x ≡ get_or xs i x → drop i xs ≡ x ∷ drop (i + 1) xs
left_at xs i x h is = drop-cons xs i x h ∙ ap (λ y. y ∷ drop (suc i) xs) (sym is) ∙ ap (λ n. x ∷ drop n xs) (sym (add-one i))

pub none_left : {X : Type 0} (xs : List X) (i : ℕ) → length xs ≤ i → drop i xs ≡ []
none_left [] zero h = refl
none_left [] (suc i) h = refl
none_left (x ∷ xs) zero h = absurd (omega arith)
none_left (x ∷ xs) (suc i) h = none_left xs i (omega (arith, h))

pub behind_rest : (source rest put behind : List ℕ) (change : NewLiteral) → Puts source rest change put behind → IsRest source behind
behind_rest source rest put behind change p =
    let from = from_rest change.line source p.place.from p.place.line_is in
    let here = marked_rest p.place.from p.place.here p.place.behind p.place.first in
    let literal = marked_literal p.place.from p.place.here p.place.behind p.place.first in
    rw p.behind_is (rest_then source p.place.here p.place.behind (rest_then source p.place.from p.place.here from here) (record { front = literal.front; is = literal.is }))

pub here_rest : (source from here behind : List ℕ) (line : ℕ) → from_line line source ≡ Some from → IsMarked from here behind → IsRest source here
here_rest source from here behind line e h = rest_then source from here (from_rest line source from e) (marked_rest from here behind h)

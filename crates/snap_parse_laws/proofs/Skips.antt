-- Skipping, on texts of a known form.
use Rattle.snap_parse_laws.proofs.Prelude.{◌≡◌, ℕ, List, [], ◌∷◌, Bool, true, false, refl, ap, ◌∙◌, ◌||◌, ◌&&◌, ◌==◌, slice_index, not, is_break, is_blank, Place, mark_of, Token, any_overdue, State, to_next, is_space, in_flow, stale, calm, arrived, Settles, or_parts}

-- a character at which skipping stops
abbrev pub stops_at : ℕ → Bool
stops_at c = is_blank c || is_break c || c == 35

no_space : (a b x : Bool) → a || b ≡ false → a || (b && x) ≡ false
no_space false false x h = refl
no_space false true x h = cc
no_space true b x h = cc

pub to_next-stops : (cs : List ℕ) (s : State) → stops_at (slice_index cs 0) ≡ false → to_next cs s ≡ s
to_next-stops [] s stop = refl
to_next-stops (c ∷ cs) s stop =
    let first = or_parts (is_blank c || is_break c) (c == 35) stop in
    let both = or_parts (is_blank c) (is_break c) first.0 in
    let space : is_space c s ≡ false = no_space (c == 32) (c == 9) (in_flow s || not s.allowed) both.0 in
    rw (space, both.1, first.1) refl

-- a state that arrives at another one, whose keys are in time, settles as that one does
pub settles-by : (b : Bool) (a : ℕ) (s t : State) (p : Place) (h : List Token) (columns : List ℕ) → s.started ≡ true → s.ended ≡ false → arrived s ≡ t
    → any_overdue (mark_of t.place) t.keys ≡ false → stale t ≡ calm b a p h columns → Settles b s p h columns
settles-by b a s t p h columns started ended there timely calms =
    let late : State → Bool = λ v. any_overdue (mark_of v.place) v.keys in
    record { adjacent = a; started = started; ended = ended; timely = ap late there ∙ timely; calm = ap stale there ∙ calms }

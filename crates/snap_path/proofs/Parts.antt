-- The components of a text: character by character, and from its last slash.
use Rattle.snap_path.proofs.Prelude.{◌≡◌, ℕ, List, [], ◌∷◌, ◌++◌, Bool, true, false, ◌==◌, cond, codes, length, ◌<◌, subst, arith, Option, None, Some, refl, sym, ap, ◌∙◌, append_assoc, append-nil, filter, flat_map, filter-append, bytes_eq, then_slashed, stand_behind, start, path_of_parts, is_absolute, joined, between_slashes, is_component, components, slashed, behind_slash, steps_up, all_but_last, last_of, Apart, apart, AreApart, from_apart, onto, Cut, cut_of, later_or_here, cut_last, or_left, or_right}
use Rattle.std.proofs.lemmas.List.Concat.{flat_map-append}
use Rattle.snap_str.specs.Cut.{Lacks, IsCutAtFirst}

between_first : (c : ℕ) (before behind : List ℕ) (slash : Bool) → (c == 47) ≡ slash → slash ≡ false → between_slashes (before ++ 47 ∷ behind) ≡ before ∷ between_slashes behind
    → between_slashes (c ∷ (before ++ 47 ∷ behind)) ≡ (c ∷ before) ∷ between_slashes behind
between_first c before behind slash is none rest =
    ap (λ b. cond b ([] ∷ between_slashes (before ++ 47 ∷ behind)) (onto c (between_slashes (before ++ 47 ∷ behind)))) (is ∙ none) ∙ ap (onto c) rest

-- a text without a slash is its one part, and else its parts are the first, and those after the slash
between-cut : (before behind : List ℕ) → Lacks 47 before → between_slashes (before ++ 47 ∷ behind) ≡ before ∷ between_slashes behind
between-cut [] behind none = refl
between-cut (c ∷ cs) behind none =
    between_first c cs behind (c == 47) refl (or_left (c == 47) _ none) (between-cut cs behind (or_right (c == 47) _ none))

between-whole : (text : List ℕ) → Lacks 47 text → between_slashes text ≡ text ∷ []
between-whole [] none = refl
between-whole (c ∷ cs) none =
    ap (λ b. cond b ([] ∷ between_slashes cs) (onto c (between_slashes cs))) (or_left (c == 47) _ none) ∙ ap (onto c) (between-whole cs (or_right (c == 47) _ none))

pub components-first : (text before behind : List ℕ) → IsCutAtFirst 47 text before behind → components text ≡ filter is_component (before ∷ []) ++ components behind
components-first text before behind at =
    ap (filter is_component) (ap between_slashes at.is ∙ between-cut before behind at.first) ∙ filter-append is_component (before ∷ []) (between_slashes behind)

pub components-one : (text : List ℕ) → Lacks 47 text → components text ≡ filter is_component (text ∷ [])
components-one text none = ap (filter is_component) (between-whole text none)

-- a path of parts: the first, and the others after slashes
pub slashed-cons : (part : List ℕ) (parts : List (List ℕ)) → slashed (part ∷ parts) ≡ part ++ flat_map behind_slash parts
slashed-cons part [] = sym (append-nil part)
slashed-cons part (next ∷ parts) = ap (λ s. part ++ 47 ∷ s) (slashed-cons next parts)

stands : (parts : List (List ℕ)) → stand_behind true parts ≡ true
stands [] = refl
stands (part ∷ parts) = refl

then_behind : (xs ys : List (List ℕ)) → then_slashed true (xs ++ ys) ≡ then_slashed true xs ++ then_slashed (stand_behind true xs) ys
then_behind xs ys = flat_map-append behind_slash xs ys ∙ ap (λ b. flat_map behind_slash xs ++ then_slashed b ys) (sym (stands xs))

pub then_slashed-append : (behind : Bool) (xs ys : List (List ℕ)) → then_slashed behind (xs ++ ys) ≡ then_slashed behind xs ++ then_slashed (stand_behind behind xs) ys
then_slashed-append true xs ys = then_behind xs ys
then_slashed-append false [] ys = refl
then_slashed-append false (x ∷ xs) ys =
    slashed-cons x (xs ++ ys) ∙ ap (λ more. x ++ more) (flat_map-append behind_slash xs ys) ∙ sym (append_assoc x (flat_map behind_slash xs) (flat_map behind_slash ys))
    ∙ ap (λ first. first ++ flat_map behind_slash ys) (sym (slashed-cons x xs))

pub whole-path : (absolute : Bool) (parts : List (List ℕ)) → start absolute ++ then_slashed false parts ≡ path_of_parts absolute parts
whole-path true parts = refl
whole-path false parts = refl

-- the components of the tail after those of the base
pub joined-below : (base tail first whole : List ℕ) (absolute behind : Bool) → is_absolute tail ≡ false → absolute ≡ is_absolute base → first ≡ start absolute ++ then_slashed false (components base)
    → behind ≡ stand_behind false (components base) → whole ≡ first ++ then_slashed behind (components tail) → whole ≡ joined base tail
joined-below base tail first whole absolute behind below root at_first stands_behind at_whole =
    let parts = components base in
    at_whole
    ∙ ap (λ f. f ++ then_slashed behind (components tail)) at_first
    ∙ ap (λ b. (start absolute ++ then_slashed false parts) ++ then_slashed b (components tail)) stands_behind
    ∙ append_assoc (start absolute) (then_slashed false parts) (then_slashed (stand_behind false parts) (components tail))
    ∙ ap (λ t. start absolute ++ t) (sym (then_slashed-append false parts (components tail)))
    ∙ whole-path absolute (parts ++ components tail)
    ∙ ap (λ a. path_of_parts a (parts ++ components tail)) root
    ∙ sym (ap (λ b. cond b (path_of_parts true (components tail)) (path_of_parts (is_absolute base) (parts ++ components tail))) below)

pub all_but_last-push : (parts : List (List ℕ)) (last : List ℕ) → all_but_last (parts ++ last ∷ []) ≡ parts
all_but_last-push [] last = refl
all_but_last-push (part ∷ []) last = refl
all_but_last-push (part ∷ next ∷ parts) last = ap (λ p. part ∷ p) (all_but_last-push (next ∷ parts) last)

pub last_of-push : (parts : List (List ℕ)) (last : List ℕ) → last_of (parts ++ last ∷ []) ≡ Some last
last_of-push [] last = refl
last_of-push (part ∷ []) last = refl
last_of-push (part ∷ next ∷ parts) last = last_of-push (next ∷ parts) last

-- the parts of a text that is cut at its last slash
abbrev PartsAt : List ℕ → Option Cut → Type 0
PartsAt text None = between_slashes text ≡ text ∷ []
PartsAt text (Some cut) = between_slashes text ≡ between_slashes cut.before ++ cut.behind ∷ []

onto-append : (c : ℕ) (text : List ℕ) (more : List (List ℕ)) → onto c (between_slashes text ++ more) ≡ onto c (between_slashes text) ++ more
onto-append c [] more = refl
onto-append c (d ∷ ds) more = by (d == 47) (between_slashes ds)
  where
    by : (b : Bool) (parts : List (List ℕ)) → onto c (cond b ([] ∷ parts) (onto d parts) ++ more) ≡ onto c (cond b ([] ∷ parts) (onto d parts)) ++ more
    by true parts = refl
    by false [] = refl
    by false (part ∷ parts) = refl

parts_step : (c : ℕ) (cs : List ℕ) (slash : Bool) (later : Option Cut) → (c == 47) ≡ slash → PartsAt cs later
    → PartsAt (c ∷ cs) (later_or_here c later (cond slash (Some cs) None))
parts_step c cs true None is h = ap (λ b. cond b ([] ∷ between_slashes cs) (onto c (between_slashes cs))) is ∙ ap (λ p. [] ∷ p) h
parts_step c cs false None is h = ap (λ b. cond b ([] ∷ between_slashes cs) (onto c (between_slashes cs))) is ∙ ap (onto c) h
parts_step c cs true (Some later) is h =
    ap (λ b. cond b ([] ∷ between_slashes cs) (onto c (between_slashes cs))) is ∙ ap (λ p. [] ∷ p) h
    ∙ ap (λ b. cond b ([] ∷ between_slashes later.before) (onto c (between_slashes later.before)) ++ later.behind ∷ []) (sym is)
parts_step c cs false (Some later) is h =
    ap (λ b. cond b ([] ∷ between_slashes cs) (onto c (between_slashes cs))) is ∙ ap (onto c) h
    ∙ onto-append c later.before (later.behind ∷ [])
    ∙ ap (λ b. cond b ([] ∷ between_slashes later.before) (onto c (between_slashes later.before)) ++ later.behind ∷ []) (sym is)

pub parts_at : (text : List ℕ) → PartsAt text (cut_last (47 ∷ []) text)
parts_at [] = refl
parts_at (c ∷ cs) = parts_step c cs (c == 47) (cut_last (47 ∷ []) cs) refl (parts_at cs)

-- the components of a text that is cut at its last slash
pub components-cut : (text before behind : List ℕ) → cut_last (codes "/") text ≡ Some (cut_of before behind)
    → components text ≡ components before ++ filter is_component (behind ∷ [])
components-cut text before behind is =
    ap (filter is_component) (subst (PartsAt text) is (parts_at text)) ∙ filter-append is_component (between_slashes before) (behind ∷ [])

components-whole : (text : List ℕ) → cut_last (codes "/") text ≡ None → components text ≡ filter is_component (text ∷ [])
components-whole text is = ap (filter is_component) (subst (PartsAt text) is (parts_at text))

only : (part : List ℕ) (is : Bool) → is_component part ≡ is → filter is_component (part ∷ []) ≡ cond is (part ∷ []) []
only part is h = ap (λ b. cond b (part ∷ []) []) h

-- the first component, and what stands after it
pub next-here : (text before behind : List ℕ) → IsCutAtFirst 47 text before behind → is_component before ≡ true → components text ≡ before ∷ components behind
next-here text before behind at is = components-first text before behind at ∙ ap (λ parts. parts ++ components behind) (only before true is)

pub next-last : (text : List ℕ) → Lacks 47 text → is_component text ≡ true → components text ≡ text ∷ []
next-last text none is = components-one text none ∙ only text true is

pub component-size : (part : List ℕ) → is_component part ≡ true → 0 < length part
component-size [] is = absurd (cc (is))
component-size (c ∷ cs) is = omega arith

-- the last component, and what stands before it
pub behind-here : (text before behind : List ℕ) → cut_last (codes "/") text ≡ Some (cut_of before behind) → is_component behind ≡ true → components text ≡ components before ++ behind ∷ []
behind-here text before behind at is = components-cut text before behind at ∙ ap (λ parts. components before ++ parts) (only behind true is)

pub behind-later : (text before behind : List ℕ) → cut_last (codes "/") text ≡ Some (cut_of before behind) → is_component behind ≡ false → components before ≡ components text
behind-later text before behind at is =
    sym (components-cut text before behind at ∙ ap (λ parts. components before ++ parts) (only behind false is) ∙ append-nil (components before))

pub whole-here : (text : List ℕ) → cut_last (codes "/") text ≡ None → is_component text ≡ true → components text ≡ text ∷ []
whole-here text at is = components-whole text at ∙ only text true is

pub whole-none : (text : List ℕ) → cut_last (codes "/") text ≡ None → is_component text ≡ false → components text ≡ []
whole-none text at is = components-whole text at ∙ only text false is

-- one more part after those that stand there
pub part-pushed : (old new whole part : List ℕ) (behind : Bool) (parts more : List (List ℕ)) → new ≡ old ++ then_slashed behind (part ∷ []) → parts ≡ part ∷ more
    → old ++ then_slashed behind parts ≡ whole → new ++ then_slashed true more ≡ whole
part-pushed old new whole part behind parts more pushed is so_far =
    ap (λ p. p ++ then_slashed true more) pushed ∙ append_assoc old (then_slashed behind (part ∷ [])) (then_slashed true more)
    ∙ ap (λ t. old ++ t) (sym (then_slashed-append behind (part ∷ []) more) ∙ ap (then_slashed behind) (sym is)) ∙ so_far

pub part-stands : (behind whole : Bool) (part : List ℕ) (parts more : List (List ℕ)) → parts ≡ part ∷ more → stand_behind behind parts ≡ whole → stand_behind true more ≡ whole
part-stands behind whole part parts more is so_far = stands more ∙ ap (stand_behind behind) (sym is) ∙ so_far

pub all-pushed : (path whole : List ℕ) (behind : Bool) (parts : List (List ℕ)) → parts ≡ [] → path ++ then_slashed behind parts ≡ whole → path ≡ whole
all-pushed path whole true parts none so_far = sym (append-nil path) ∙ ap (λ ps. path ++ then_slashed true ps) (sym none) ∙ so_far
all-pushed path whole false parts none so_far = sym (append-nil path) ∙ ap (λ ps. path ++ then_slashed false ps) (sym none) ∙ so_far

pub all-stand : (behind whole : Bool) (parts : List (List ℕ)) → parts ≡ [] → stand_behind behind parts ≡ whole → behind ≡ whole
all-stand behind whole parts none so_far = ap (stand_behind behind) (sym none) ∙ so_far

-- two lists without their common front
abbrev apart_of : List (List ℕ) → List (List ℕ) → Apart
apart_of path base = record { path = path; base = base }

pub apart-both : (path base more others : List (List ℕ)) (part other : List ℕ) → path ≡ part ∷ more → base ≡ other ∷ others → bytes_eq part other ≡ false → AreApart path base
apart-both path base more others part other is at differ =
    ap (λ ps. apart ps base) is ∙ ap (apart (part ∷ more)) at ∙ ap (λ b. cond b (apart more others) (apart_of (part ∷ more) (other ∷ others))) differ
    ∙ ap (λ ps. apart_of ps (other ∷ others)) (sym is) ∙ ap (apart_of path) (sym at)

pub apart-common : (path base more others : List (List ℕ)) (part other : List ℕ) → path ≡ part ∷ more → base ≡ other ∷ others → bytes_eq part other ≡ true
    → apart path base ≡ apart more others
apart-common path base more others part other is at same =
    ap (λ ps. apart ps base) is ∙ ap (apart (part ∷ more)) at ∙ ap (λ b. cond b (apart more others) (apart_of (part ∷ more) (other ∷ others))) same

-- the steps up, and what is left of the path after them
pub seen-apart : (seen first none : List ℕ) (behind : Bool) (whole : Apart) (below above : List (List ℕ)) → below ≡ whole.path → above ≡ whole.base → none ≡ []
    → first ≡ none ++ then_slashed false (steps_up above) → behind ≡ stand_behind false (steps_up above) → seen ≡ first ++ then_slashed behind below → seen ≡ from_apart whole
seen-apart seen first none behind whole below above is_path is_base empty at_first stands_behind at_seen =
    at_seen ∙ ap (λ f. f ++ then_slashed behind below) (at_first ∙ ap (λ n. n ++ then_slashed false (steps_up above)) empty)
    ∙ ap (λ b. then_slashed false (steps_up above) ++ then_slashed b below) stands_behind
    ∙ sym (then_slashed-append false (steps_up above) below) ∙ ap (λ ps. slashed (steps_up ps ++ below)) is_base ∙ ap (λ ps. slashed (steps_up whole.base ++ ps)) is_path

-- Which words are flags.
use Rattle.snap_run.proofs.Prelude.{◌≡◌, ◌&&◌, ◌||◌, not, ℕ, Bool, true, false, List, [], ◌∷◌, Option, None, Some, refl, sym, ap, ◌∙◌, subst, codes}
use Rattle.std.proofs.Common.{cond}
use Rattle.std.specs.Str.{bytes_eq}
use Rattle.std.proofs.lemmas.Slice.Eq.{bytes_eq-Decides}
use Rattle.snap_assert_settings.specs.declared.config.Flags.{Flags}
use Rattle.snap_run.specs.Answers.{is_force, is_force_pass, is_full, is_literal, with_flags, stands, are_flags, flags_told, flags_mean, no_flags}

-- these flags and those that stand among the words
abbrev joined : Flags → List (List ℕ) → Flags
joined flags words = record {
  force_update = flags.force_update || stands (codes "--force") words;
  force_pass = flags.force_pass || stands (codes "--force-pass") words;
  full = flags.full || stands (codes "--full") words;
  literal = flags.literal || stands (codes "--literal") words;
}

-- the flag isn't set, or its word doesn't stand among these
abbrev is_free_of : Bool → List ℕ → List (List ℕ) → Bool
is_free_of flag word words = not (flag && stands word words)

-- none of these flags stands among the words
abbrev is_free : Flags → List (List ℕ) → Bool
is_free flags words =
    is_free_of flags.force_update (codes "--force") words
    && (is_free_of flags.force_pass (codes "--force-pass") words && (is_free_of flags.full (codes "--full") words && is_free_of flags.literal (codes "--literal") words))

abbrev told : Flags → List (List ℕ) → Option Flags
told flags words = cond (are_flags words && is_free flags words) (Some (joined flags words)) None

-- what the words come to, where it is known of those after the first
abbrev Comes : Flags → List ℕ → List (List ℕ) → Type 0
Comes flags word words = ((more : Flags) → with_flags more words ≡ told more words) → with_flags flags (word ∷ words) ≡ told flags (word ∷ words)

never : (x : Bool) → (x && false) ≡ false
never true = refl
never false = refl

first_moved : (x y z : Bool) → (y && (x && z)) ≡ ((x && y) && z)
first_moved true y z = refl
first_moved false true z = refl
first_moved false false z = refl

second_moved : (x y u z : Bool) → (y && (u && (x && z))) ≡ ((x && y) && (u && z))
second_moved true y u z = refl
second_moved false true true z = refl
second_moved false true false z = refl
second_moved false false u z = refl

third_moved : (x y u v z : Bool) → (y && (u && (v && (x && z)))) ≡ ((x && y) && (u && (v && z)))
third_moved x y true v z = second_moved x y v z
third_moved x y false v z = never y ∙ sym (never (x && y))

fourth_moved : (x y u v w : Bool) → (y && (u && (v && (w && x)))) ≡ ((x && y) && (u && (v && (w && true))))
fourth_moved true true true true true = refl
fourth_moved true true true true false = refl
fourth_moved true true true false w = refl
fourth_moved true true false v w = refl
fourth_moved true false u v w = refl
fourth_moved false true true true true = refl
fourth_moved false true true true false = refl
fourth_moved false true true false w = refl
fourth_moved false true false v w = refl
fourth_moved false false u v w = refl

abbrev flags_of : Bool → Bool → Bool → Bool → Flags
flags_of u p f l = record { force_update = u; force_pass = p; full = f; literal = l }

-- a flag that is set already makes the words none
set_first : (y : Bool) → false ≡ (y && false)
set_first y = sym (never y)

set_second : (y u : Bool) → false ≡ (y && (u && false))
set_second y u = sym (ap (λ b. y && b) (never u) ∙ never y)

set_third : (y u v : Bool) → false ≡ (y && (u && (v && false)))
set_third y u v = set_second y u ∙ ap (λ b. y && (u && b)) (sym (never v))

set_fourth : (y u v w : Bool) → false ≡ (y && (u && (v && (w && false))))
set_fourth y u v w = set_third y u v ∙ ap (λ b. y && (u && (v && b))) (sym (never w))

of_force : (u p f l : Bool) (words : List (List ℕ)) → Comes (flags_of u p f l) (codes "--force") words
of_force true p f l words rest =
    ap (λ b. cond b (Some (joined (flags_of true p f l) (codes "--force" ∷ words))) None) (set_first (not (stands (codes "--force") words) && are_flags words))
of_force false p f l words rest =
    rest (flags_of true p f l)
    ∙ ap (λ b. cond b (Some (joined (flags_of true p f l) words)) None)
    (first_moved (not (stands (codes "--force") words)) (are_flags words)
    (is_free_of p (codes "--force-pass") words && (is_free_of f (codes "--full") words && is_free_of l (codes "--literal") words)))

of_force_pass : (u p f l : Bool) (words : List (List ℕ)) → Comes (flags_of u p f l) (codes "--force-pass") words
of_force_pass u true f l words rest =
    ap (λ b. cond b (Some (joined (flags_of u true f l) (codes "--force-pass" ∷ words))) None)
    (set_second (not (stands (codes "--force-pass") words) && are_flags words) (is_free_of u (codes "--force") words))
of_force_pass u false f l words rest =
    rest (flags_of u true f l)
    ∙ ap (λ b. cond b (Some (joined (flags_of u true f l) words)) None)
    (second_moved (not (stands (codes "--force-pass") words)) (are_flags words) (is_free_of u (codes "--force") words)
    (is_free_of f (codes "--full") words && is_free_of l (codes "--literal") words))

of_full : (u p f l : Bool) (words : List (List ℕ)) → Comes (flags_of u p f l) (codes "--full") words
of_full u p true l words rest =
    ap (λ b. cond b (Some (joined (flags_of u p true l) (codes "--full" ∷ words))) None)
    (set_third (not (stands (codes "--full") words) && are_flags words) (is_free_of u (codes "--force") words) (is_free_of p (codes "--force-pass") words))
of_full u p false l words rest =
    rest (flags_of u p true l)
    ∙ ap (λ b. cond b (Some (joined (flags_of u p true l) words)) None)
    (third_moved (not (stands (codes "--full") words)) (are_flags words) (is_free_of u (codes "--force") words) (is_free_of p (codes "--force-pass") words) (is_free_of l (codes "--literal") words))

of_literal : (u p f l : Bool) (words : List (List ℕ)) → Comes (flags_of u p f l) (codes "--literal") words
of_literal u p f true words rest =
    ap (λ b. cond b (Some (joined (flags_of u p f true) (codes "--literal" ∷ words))) None)
    (set_fourth (not (stands (codes "--literal") words) && are_flags words) (is_free_of u (codes "--force") words) (is_free_of p (codes "--force-pass") words) (is_free_of f (codes "--full") words))
of_literal u p f false words rest =
    rest (flags_of u p f true)
    ∙ ap (λ b. cond b (Some (joined (flags_of u p f true) words)) None)
    (fourth_moved (not (stands (codes "--literal") words)) (are_flags words) (is_free_of u (codes "--force") words) (is_free_of p (codes "--force-pass") words) (is_free_of f (codes "--full") words))

of_other : (flags : Flags) (word : List ℕ) (words : List (List ℕ)) → is_force word ≡ false → is_force_pass word ≡ false → is_full word ≡ false → is_literal word ≡ false → Comes flags word words
of_other flags word words u p f l rest = rw (u, p, f, l) refl

is_itself : (word flag : List ℕ) → bytes_eq word flag ≡ true → flag ≡ word
is_itself word flag e = sym ((bytes_eq-Decides word flag).0 e)

-- which flag the word is, if it is one
by_literal : (flags : Flags) (word : List ℕ) (words : List (List ℕ)) (b : Bool) → is_literal word ≡ b → is_force word ≡ false → is_force_pass word ≡ false → is_full word ≡ false → Comes flags word words
by_literal flags word words true l u p f =
    subst (λ w. Comes flags w words) (is_itself word (codes "--literal") l) (of_literal flags.force_update flags.force_pass flags.full flags.literal words)
by_literal flags word words false l u p f = of_other flags word words u p f l

by_full : (flags : Flags) (word : List ℕ) (words : List (List ℕ)) (b : Bool) → is_full word ≡ b → is_force word ≡ false → is_force_pass word ≡ false → Comes flags word words
by_full flags word words true f u p =
    subst (λ w. Comes flags w words) (is_itself word (codes "--full") f) (of_full flags.force_update flags.force_pass flags.full flags.literal words)
by_full flags word words false f u p = by_literal flags word words (is_literal word) refl u p f

by_force_pass : (flags : Flags) (word : List ℕ) (words : List (List ℕ)) (b : Bool) → is_force_pass word ≡ b → is_force word ≡ false → Comes flags word words
by_force_pass flags word words true p u =
    subst (λ w. Comes flags w words) (is_itself word (codes "--force-pass") p) (of_force_pass flags.force_update flags.force_pass flags.full flags.literal words)
by_force_pass flags word words false p u = by_full flags word words (is_full word) refl u p

by_force : (flags : Flags) (word : List ℕ) (words : List (List ℕ)) (b : Bool) → is_force word ≡ b → Comes flags word words
by_force flags word words true u =
    subst (λ w. Comes flags w words) (is_itself word (codes "--force") u) (of_force flags.force_update flags.force_pass flags.full flags.literal words)
by_force flags word words false u = by_force_pass flags word words (is_force_pass word) refl u

always : (x : Bool) → (x && true) ≡ x
always true = refl
always false = refl

none_more : (u p f l : Bool) → Some (flags_of u p f l) ≡ told (flags_of u p f l) []
none_more true true true true = refl
none_more true true true false = refl
none_more true true false true = refl
none_more true true false false = refl
none_more true false true true = refl
none_more true false true false = refl
none_more true false false true = refl
none_more true false false false = refl
none_more false true true true = refl
none_more false true true false = refl
none_more false true false true = refl
none_more false true false false = refl
none_more false false true true = refl
none_more false false true false = refl
none_more false false false true = refl
none_more false false false false = refl

by_words : (flags : Flags) (words : List (List ℕ)) → with_flags flags words ≡ told flags words
by_words flags [] = none_more flags.force_update flags.force_pass flags.full flags.literal
by_words flags (word ∷ words) = by_force flags word words (is_force word) refl (λ more. by_words more words)

pub flags_meant : (words : List (List ℕ)) → flags_mean words ≡ cond (are_flags words) (Some (flags_told words)) None
flags_meant words = by_words no_flags words ∙ ap (λ b. cond b (Some (flags_told words)) None) (always (are_flags words))

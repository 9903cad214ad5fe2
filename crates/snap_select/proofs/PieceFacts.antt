-- Fronts of texts, and the numbers of digits.
use Rattle.snap_select.proofs.Prelude.{w64, to_z, of_z, ◌≡◌, ℕ, zero, suc, ℤ, pos, negsuc, ◌^◌, ◌<◌, ◌≤◌, Bool, true, false, List, [], ◌∷◌, ◌++◌, refl, sym, ap, ◌∙◌, subst, arith, Result, Ok, Err, MatchOption, lit<, inl, inr, and_from, eqb-true, ne_eqb, ltb-true, cases_lt, digit_value, list_all, IsTrue, ◌==◌, chars, IsUtf8, IsAscii, IsNumeral, AllDigits, digits_value, ParsesUnsigned, ParsesSigned, without_leading_plus, without_leading_sign, signed_digits_value, is_xid_continue, bytes_are, begins_name, FitsBound, past, front, is_decimal, Fails, IsNameThen, unsigned, IsNumber, number_value, IsNumberThen, signed}
use mir.Val.{SFits as FitsSigned}
use Rattle.snap_content.specs.Front.{begins}
use Rattle.snap_select.proofs.Tokens.{either, signed_more}
use Rattle.std.proofs.lemmas.Bool.Decides.{nat_tests}
use Rattle.std.proofs.lemmas.Int.{to_z-of_z}
use Rattle.std.specs.Result.{result_ok, OkIff}

pub cut_at : (p : ℕ → Bool) (xs : List ℕ) → xs ≡ front p xs ++ past p xs
cut_at p [] = refl
cut_at p (c ∷ cs) = either (p c) _ (λ e. rw e (ap (λ x. c ∷ x) (cut_at p cs))) (λ e. rw e refl)

pub front_passes : (p : ℕ → Bool) (xs : List ℕ) → IsTrue (list_all p (front p xs))
front_passes p [] = refl
front_passes p (c ∷ cs) = either (p c) _ (λ e. rw e (and_from (p c) (list_all p (front p cs)) e (front_passes p cs))) (λ e. rw e refl)

pub past_fails : (p : ℕ → Bool) (xs : List ℕ) → Fails p (past p xs)
past_fails p [] = tt
past_fails p (c ∷ cs) = either (p c) _ (λ e. rw e (past_fails p cs)) (λ e. rw e e)

pub past_ends : (p : ℕ → Bool) (text rest : List ℕ) → rest ≡ past p text → Fails p rest
past_ends p text rest e = subst (Fails p) (sym e) (past_fails p text)

pub name_cut : (text more rest : List ℕ) (c : ℕ) → text ≡ c ∷ more → rest ≡ past is_xid_continue more → text ≡ (c ∷ front is_xid_continue more) ++ rest
name_cut text more rest c h k =
    h ∙ ap (λ x. c ∷ x) (cut_at is_xid_continue more ∙ ap (λ x. front is_xid_continue more ++ x) (sym k))

pub name_then : (text more rest name : List ℕ) (c : ℕ) → text ≡ c ∷ more → rest ≡ past is_xid_continue more → begins_name c ≡ true
    → name ≡ c ∷ front is_xid_continue more → IsNameThen text name rest
name_then text more rest name c h k b e =
    rw e (record { is = name_cut text more rest c h k; named = (b, front_passes is_xid_continue more); ends = past_ends is_xid_continue more rest k })

pub front_digits : (xs : List ℕ) → AllDigits 10 (front is_decimal xs)
front_digits [] = tt
front_digits (c ∷ cs) = either (is_decimal c) _ (λ e. rw e (ltb-true (digit_value c) 10 e, front_digits cs)) (λ e. rw e tt)

-- digits are ASCII, and none is a plus
digit_below : (d : ℕ) → digit_value d < 10 → d < 128
digit_below d h = grind (arith, nat_tests)

digits_ascii : (ds : List ℕ) → AllDigits 10 ds → IsAscii ds
digits_ascii [] h k = lit< tt
digits_ascii (d ∷ ds) h zero = digit_below d h.0
digits_ascii (d ∷ ds) h (suc k) = digits_ascii ds h.1 k

-- a digit is no other character that is told apart
pub digit_apart : (c d : ℕ) → digit_value c < 10 → (digit_value d < 10 → ⊥) → (c == d) ≡ false
digit_apart c d h k = ne_eqb c d (λ e. k (subst (λ x. digit_value x < 10) e h))

pub digit_no_minus : (c : ℕ) → digit_value c < 10 → (c == 45) ≡ false
digit_no_minus c h = digit_apart c 45 h (λ k. omega arith)

digit_no_plus : (c : ℕ) → digit_value c < 10 → (c == 43) ≡ false
digit_no_plus c h = digit_apart c 43 h (λ k. omega arith)

unsigned_same : (ds : List ℕ) → IsNumeral 10 ds → without_leading_plus ds ≡ ds
unsigned_same [] h = refl
unsigned_same (d ∷ ds) h = rw (digit_no_plus d h.1.0) refl

parsed : {E : Type 0} (ds bare : List ℕ) (r : Result ℕ E) → IsNumeral 10 ds → bare ≡ ds → OkIff r (IsNumeral 10 bare × (digits_value 10 bare < 2 ^ 64)) (digits_value 10 bare)
    → MatchOption (result_ok r) (2 ^ 64 ≤ digits_value 10 ds) (λ n. n ≡ digits_value 10 ds)
parsed ds bare (Ok n) h e k = k.1 ∙ ap (digits_value 10) e
parsed ds bare (Err f) h e k =
    elim (cases_lt (digits_value 10 ds) (2 ^ 64)) [ inl small ↦ absurd (k (subst (λ x. IsNumeral 10 x × (digits_value 10 x < 2 ^ 64)) (sym e) (h, small))) | inr large ↦ large ]

pub number_parsed : {E : Type 0} (bs : List ℕ) (r : Result ℕ E) → IsUtf8 bs → ParsesUnsigned 64 10 bs r → IsNumeral 10 (chars bs)
    → MatchOption (result_ok r) (2 ^ 64 ≤ digits_value 10 (chars bs)) (λ n. n ≡ digits_value 10 (chars bs))
number_parsed bs r u h k =
    let same : bs ≡ chars bs = bytes_are bs (chars bs) u (digits_ascii (chars bs) k.1) refl in
    parsed (chars bs) (without_leading_plus bs) r k (ap without_leading_plus same ∙ unsigned_same (chars bs) k) h

-- a number is its minus, where it has one, and its digits
pub number_is : (number : List ℕ) → number ≡ signed (begins 45 number) (unsigned number)
number_is [] = refl
number_is (c ∷ cs) = either (c == 45) _ (λ e. rw e (ap (λ x. x ∷ cs) (eqb-true c 45 e))) (λ e. rw e refl)

pub number_cut : (text more rest : List ℕ) (c : ℕ) → unsigned text ≡ c ∷ more → rest ≡ past is_decimal more → text ≡ signed (begins 45 text) (c ∷ front is_decimal more) ++ rest
number_cut text more rest c h k =
    number_is text ∙ ap (signed (begins 45 text)) (h ∙ ap (λ x. c ∷ x) (cut_at is_decimal more ∙ ap (λ x. front is_decimal more ++ x) (sym k))) ∙ sym (signed_more (begins 45 text) (c ∷ front is_decimal more) rest)

unsigned_signed : (negative : Bool) (digits : List ℕ) → IsNumeral 10 digits → unsigned (signed negative digits) ≡ digits
unsigned_signed true digits h = refl
unsigned_signed false [] h = refl
unsigned_signed false (d ∷ ds) h = rw (digit_no_minus d h.1.0) refl

pub number_then : (text more rest number : List ℕ) (c : ℕ) → unsigned text ≡ c ∷ more → rest ≡ past is_decimal more → is_decimal c ≡ true → number ≡ signed (begins 45 text) (c ∷ front is_decimal more) → IsNumberThen text number rest
number_then text more rest number c h k d e =
    let digits = c ∷ front is_decimal more in
    let numeral : IsNumeral 10 digits = (omega arith, (ltb-true (digit_value c) 10 d, front_digits more)) in
    rw e (record { is = number_cut text more rest c h k; numeral = subst (IsNumeral 10) (sym (unsigned_signed (begins 45 text) digits numeral)) numeral; ends = past_ends is_decimal more rest k })

-- the bound of a number
fits_bound : (z : ℤ) → FitsSigned w64 z → FitsBound z
fits_bound (pos n) h = h.sfits
fits_bound (negsuc n) h = h.sfits

bound_fits : (z : ℤ) → FitsBound z → FitsSigned w64 z
bound_fits (pos n) h = record { sfits = h }
bound_fits (negsuc n) h = record { sfits = h }

signless : (number : List ℕ) → IsNumber number → (without_leading_sign number ≡ unsigned number) × (signed_digits_value 10 number ≡ number_value number)
signless [] h = absurd (omega (arith, h.0))
signless (c ∷ cs) h =
    either (c == 45) _ (λ e. (rw e refl, rw e refl)) (λ e. let k = rw e at h in let f = digit_no_plus c k.1.0 in (rw (e, f) refl, rw (e, f) refl))

signed_ascii : (negative : Bool) (digits : List ℕ) → AllDigits 10 digits → IsAscii (signed negative digits)
signed_ascii true digits h zero = omega arith
signed_ascii true digits h (suc k) = digits_ascii digits h k
signed_ascii false digits h k = digits_ascii digits h k

number_ascii : (number : List ℕ) → IsNumber number → IsAscii number
number_ascii number h = subst IsAscii (sym (number_is number)) (signed_ascii (begins 45 number) (unsigned number) h.1)

parsed_bound : {E : Type 0} (ds : List ℕ) (v w : ℤ) (r : Result ℤ E) → IsNumeral 10 ds → v ≡ w → OkIff r (IsNumeral 10 ds × FitsSigned w64 v) v → MatchOption (result_ok r) (¬ FitsBound w) (λ n. (n ≡ w) × FitsBound n)
parsed_bound ds v w (Ok n) h e k = (k.1 ∙ e, subst FitsBound (sym k.1) (fits_bound v k.0.1))
parsed_bound ds v w (Err f) h e k = λ u. k (h, bound_fits v (subst FitsBound (sym e) u))

pub bound_parsed : {E : Type 0} (bs : List ℕ) (r : Result ℤ E) → IsUtf8 bs → ParsesSigned w64 10 bs r → IsNumber (chars bs) → MatchOption (result_ok r) (¬ FitsBound (number_value (chars bs))) (λ n. (n ≡ number_value (chars bs)) × FitsBound n)
bound_parsed bs r u h k =
    let same : bs ≡ chars bs = bytes_are bs (chars bs) u (number_ascii (chars bs) k) refl in
    let s = signless (chars bs) k in
    parsed_bound (without_leading_sign (chars bs)) (signed_digits_value 10 (chars bs)) (number_value (chars bs)) r (subst (IsNumeral 10) (sym s.0) k) s.1 (subst (λ x. ParsesSigned w64 10 x r) same h)

-- as a machine's number and back
pub kept_bound : (z : ℤ) → FitsBound z → to_z w64 (of_z w64 z) ≡ z
kept_bound z h = to_z-of_z w64 z (bound_fits z h)

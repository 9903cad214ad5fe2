-- Statuses before any document is run, and runs in place.
use Rattle.snap_run.proofs.Prelude.{◌≡◌, ◌||◌, ◌&&◌, ℕ, Bool, true, false, not, List, [], ◌∷◌, Option, None, Some, refl, ap, ◌∙◌, Outside, RequestView, asserts, begins, ends, Answer, RunWords, answer_fails, some_fails, verdict_of, is_failure, RunsTo, RunsFrom, Update, Status}
use Rattle.snap_assert_settings.specs.declared.config.Update.TheVariants.{InPlace}

-- some bytes are those that are left, where these are told
input_of : (left : Option (List ℕ)) → (input : List ℕ) × ((xs : List ℕ) → left ≡ Some xs → input ≡ xs)
input_of None = ([], λ xs e. cc)
input_of (Some y) = (y, λ xs e. cc)

pub before_all : (status : Status) (words : RunWords) (left : Option (List ℕ)) (a b : Outside) → ((docs : List (List ℕ)) → RunsTo status words docs a b) → RunsFrom status words left a b
before_all status words left a b h = let i = input_of left in record { input = i.0; told = i.1; runs = h _ }

-- in place no answer fails
pub no_failure : (mode : Update) (passed : Bool) → mode ≡ InPlace → is_failure (verdict_of mode passed) ≡ false
no_failure mode true h = refl
no_failure mode false h = ap (λ m. is_failure (verdict_of m false)) h

this_fails_not : (words : RunWords) (r : RequestView) (passed : Bool) → words.update ≡ InPlace → answer_fails words r passed ≡ false
this_fails_not words (asserts a) passed h = ap (λ b. b && not words.force_pass) (no_failure words.update passed h)
this_fails_not words begins passed h = refl
this_fails_not words ends passed h = refl

pub none_fails : (words : RunWords) (answers : List Answer) → words.update ≡ InPlace → some_fails words answers ≡ false
none_fails words [] h = refl
none_fails words (a ∷ more) h = ap (λ b. b || some_fails words more) (this_fails_not words a.request a.passed h) ∙ none_fails words more h

-- The numbers of words that ask for a demonstration are within their limits.
use Rattle.snap_demo_laws.proofs.Prelude.{◌≡◌, refl, ap, arith, ℕ, ◌-◌, ◌^◌, ◌<◌, ◌≤◌, List, [], ◌∷◌, Bool, true, false, Option, None, Some, codes, if◌then◌else◌, bytes_eq, some_same}
use Rattle.std.proofs.lemmas.Bool.Decides.{nat_tests}
use Rattle.std.specs.Prelude.{nat_le}
use Rattle.snap_demo.specs.Words.{at_most, demo_mean, demo_of, number_of}
use Rattle.snap_demo.specs.declared.words.DemoWords.{DemoWords}
use Rattle.snap_run.specs.Answers.{RunWords, text_asked, words_mean}
use Rattle.snap_run.specs.Meaning.{a_demonstration, meaning, meaning_by}

pub record IsWithinLimits (said : DemoWords) : Type 0 where
  pub seed : said.seed < 2 ^ 64
  pub count : said.count ≤ 10000

below_most : (k most : ℕ) → nat_le k most ≡ true → k ≤ most
below_most k most e = grind (arith, nat_tests)

most_kept : (most : ℕ) (o : Option ℕ) (n : ℕ) → at_most most o ≡ Some n → n ≤ most
most_kept most None n e = cc
most_kept most (Some k) n e = by (nat_le k most) refl e
  where
    by : (b : Bool) → nat_le k most ≡ b → (if b then Some k else None) ≡ Some n → n ≤ most
    by true test e = let same = some_same k n e in let low = below_most k most test in omega (arith, same, low)
    by false test e = cc

both_within : (seed count : Option ℕ) (said : DemoWords) → demo_of (at_most (2 ^ 64 - 1) seed) (at_most 10000 count) ≡ Some said → IsWithinLimits said
both_within seed count said e = by (at_most (2 ^ 64 - 1) seed) (at_most 10000 count) (most_kept (2 ^ 64 - 1) seed) (most_kept 10000 count) e
  where
    by : (a b : Option ℕ) → ((n : ℕ) → a ≡ Some n → n ≤ 2 ^ 64 - 1) → ((n : ℕ) → b ≡ Some n → n ≤ 10000) → demo_of a b ≡ Some said → IsWithinLimits said
    by None b low few e = absurd (cc e)
    by (Some s) None low few e = absurd (cc e)
    by (Some s) (Some c) low few e =
        let same = some_same (record { seed = s; count = c }) said e in
        let seed_is : s ≡ said.seed = ap (λ w. w.seed) same in
        let count_is : c ≡ said.count = ap (λ w. w.count) same in
        let narrow = low s refl in
        let small = few c refl in
        record { seed = omega (arith, seed_is, narrow); count = omega (arith, count_is, small) }

mean_within : (words : List (List ℕ)) (said : DemoWords) → demo_mean words ≡ Some said → IsWithinLimits said
mean_within [] said e = absurd (cc e)
mean_within (a ∷ []) said e = absurd (cc e)
mean_within (a ∷ b ∷ []) said e = absurd (cc e)
mean_within (a ∷ seed ∷ count ∷ []) said e = by (bytes_eq a (codes "demo")) e
  where
    by : (t : Bool) → (if t then demo_of (at_most (2 ^ 64 - 1) (number_of seed)) (at_most 10000 (number_of count)) else None) ≡ Some said → IsWithinLimits said
    by true e = both_within (number_of seed) (number_of count) said e
    by false e = absurd (cc e)
mean_within (a ∷ b ∷ c ∷ d ∷ more) said e = absurd (cc e)

demo_meant : (t : Option (List ℕ)) (r : Option RunWords) (d : Option DemoWords) (said : DemoWords) → meaning_by t r d ≡ a_demonstration said → d ≡ Some said
demo_meant (Some t) r d said e = absurd (cc e)
demo_meant None (Some r) d said e = absurd (cc e)
demo_meant None None (Some s) said e = cc
demo_meant None None None said e = absurd (cc e)

pub within_limits : (words : List (List ℕ)) (said : DemoWords) → meaning words ≡ a_demonstration said → IsWithinLimits said
within_limits words said e = mean_within words said (demo_meant (text_asked words) (words_mean words) (demo_mean words) said e)

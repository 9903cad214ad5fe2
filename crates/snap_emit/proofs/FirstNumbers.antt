-- In a value that is a tree, a number comes first where one stands.
use Rattle.snap_emit.proofs.Prelude.{◌≡◌, Bool, true, ◌||◌, ◌&&◌, Option, Some, None, is_some, option_map, option_and_then, refl, ap, plain_read, plains_read, entries_read, has_number_text, have_number_texts, are_number_texts_in, is_number_first, is_number_first_of, is_number_first_in}
use Rattle.snap_content.specs.Plain as p
use Rattle.snap_yaml.specs.Value as v

mapped : {A B : Type 0} (f : A → B) (o : Option A) → is_some (option_map f o) ≡ true → is_some o ≡ true
mapped f None h = h
mapped f (Some x) h = refl

both : (x : Option p.Plain) (o : Option p.Plains) → is_some (option_and_then (λ first. option_map (p.item first) o) x) ≡ true → (is_some x ≡ true) × (is_some o ≡ true)
both None o h = absurd (cc)
both (Some x) None h = absurd (cc)
both (Some x) (Some xs) h = (refl, refl)

all : (k x : Option p.Plain) (o : Option p.Entries) → is_some (option_and_then (λ key. option_and_then (λ value. option_map (p.entry key value) o) x) k) ≡ true
    → (is_some k ≡ true) × ((is_some x ≡ true) × (is_some o ≡ true))
all None x o h = absurd (cc)
all (Some k) None o h = absurd (cc)
all (Some k) (Some x) None h = absurd (cc)
all (Some k) (Some x) (Some xs) h = (refl, (refl, refl))

joined : (a b c d e : Bool) → a ≡ c → b ≡ true → d ≡ e → (a || (b && d)) ≡ (c || e)
joined a b c d e one is rest = rw (one, is, rest) refl

mutual
  first-is : (x : v.Value) → is_some (plain_read x) ≡ true → is_number_first x ≡ has_number_text x
  first-is (v.real w) h = refl
  first-is (v.integer z) h = refl
  first-is (v.string s) h = refl
  first-is (v.boolean b) h = refl
  first-is (v.array xs) h = first-of xs (mapped p.list (plains_read xs) h)
  first-is (v.hash ps) h = first-in ps (mapped p.dict (entries_read ps) h)
  first-is v.null h = refl
  first-is v.bad_value h = refl

  first-of : (xs : v.Values) → is_some (plains_read xs) ≡ true → is_number_first_of xs ≡ have_number_texts xs
  first-of v.no_values h = refl
  first-of (v.value x xs) h =
      let parts = both (plain_read x) (plains_read xs) h in
      joined (is_number_first x) (is_some (plain_read x)) (has_number_text x) (is_number_first_of xs) (have_number_texts xs) (first-is x parts.0) parts.0 (first-of xs parts.1)

  first-in : (ps : v.ValuePairs) → is_some (entries_read ps) ≡ true → is_number_first_in ps ≡ are_number_texts_in ps
  first-in v.no_pairs h = refl
  first-in (v.pair k x ps) h =
      let parts = all (plain_read k) (plain_read x) (entries_read ps) h in
      joined (is_number_first k) (is_some (plain_read k)) (has_number_text k) (is_number_first x || (is_some (plain_read x) && is_number_first_in ps)) (has_number_text x || are_number_texts_in ps)
      (first-is k parts.0) parts.0
      (joined (is_number_first x) (is_some (plain_read x)) (has_number_text x) (is_number_first_in ps) (are_number_texts_in ps) (first-is x parts.1.0) parts.1.0 (first-in ps parts.1.1))

pub numbers-first : (x : v.Value) (t : p.Plain) → plain_read x ≡ Some t → is_number_first x ≡ has_number_text x
numbers-first x t read = first-is x (ap is_some read)

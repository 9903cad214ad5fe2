-- One level of a value, where the search is given the equation, and the items of an array.
use Rattle.snap_yaml.proofs.Prelude.{◌≡◌, ℕ, List, [], ◌∷◌, map, Option, Some, None, refl, sym, ap, ◌∙◌, rules, option_map, slice_get, option_copied, Bor, value_of, array_list, array_values, Array}
use Rattle.std.proofs.lemmas.Option.{slice_get-map}
use Rattle.snap_yaml.specs.Value as v
use Rattle.snap_yaml.specs.Readers.{listed, array_in, items_in}
use Rattle.snap_yaml.specs.declared.yaml.Yaml as y

pub value-String : (text : List ℕ) → value_of (y.String text) ≡ v.string text
value-String text = search (rules, y.the_lemmas)

pub value-Array : (items : Array) → value_of (y.Array items) ≡ v.array (array_values (array_list items))
value-Array items = search (rules, y.the_lemmas)

pub listed-values : (vs : List v.Value) → listed (v.values_of vs) ≡ vs
listed-values [] = refl
listed-values (x ∷ xs) = ap (λ ys. x ∷ ys) (listed-values xs)

-- what a borrow that was found means
copied : (r : Option (Bor y.Yaml)) → option_map (λ found. value_of found.now) r ≡ option_map value_of (option_copied r)
copied None = refl
copied (Some found) = refl

pub item-found : (r : Option (Bor y.Yaml)) (ys : List y.Yaml) (n : ℕ) → option_copied r ≡ slice_get ys n
    → option_map (λ found. value_of found.now) r ≡ slice_get (listed (array_values ys)) n
item-found r ys n is =
    copied r ∙ ap (option_map value_of) is ∙ sym (slice_get-map value_of ys n) ∙ ap (λ vs. slice_get vs n) (sym (listed-values (map value_of ys)))

-- the items of a value that is an array
items-listed : (x : v.Value) (vs : v.Values) → Some vs ≡ array_in x → listed vs ≡ items_in x
items-listed (v.array xs) vs is = ap listed (cc)
items-listed (v.real s) vs is = absurd (cc)
items-listed (v.integer z) vs is = absurd (cc)
items-listed (v.string s) vs is = absurd (cc)
items-listed (v.boolean b) vs is = absurd (cc)
items-listed (v.hash ps) vs is = absurd (cc)
items-listed v.null vs is = absurd (cc)
items-listed v.bad_value vs is = absurd (cc)

pub items-kept : (x : v.Value) (ys zs : List y.Yaml) → Some (array_values ys) ≡ array_in x → zs ≡ ys → map value_of zs ≡ items_in x
items-kept x ys zs is same = ap (map value_of) same ∙ sym (listed-values (map value_of ys)) ∙ items-listed x (array_values ys) is

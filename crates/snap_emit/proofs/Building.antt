-- A builder's steps are a loader's, with each value as it is read.
use Rattle.snap_emit.proofs.Prelude.{◌≡◌, Bool, true, false, ◌||◌, ◌&&◌, List, [], ◌∷◌, ◌++◌, map, Option, Some, None, option_map, option_and_then, is_some, unwrap_or, if◌then◌else◌, Result, Ok, Err, refl, sym, ap, subst, ◌∙◌, plain_read, plains_read, entries_read, is_number_first, is_number_first_of, is_number_first_in, content_of, ℕ, ℤ, codes}
use Rattle.snap_content.specs.Plain as p
use Rattle.snap_content.specs.Tree as t
use Rattle.snap_yaml.specs.Value as v
use Rattle.snap_yaml.specs.Readers.{is_bad}
use Rattle.snap_yaml.specs.Typing.{integer_or, integer_of, prefixed_number, is_real_text, typed_yaml, typed_word, typed_as, typed_bool, typed_int, typed_float, typed_null, tagged}
use Rattle.snap_print.specs.Typed.{is_null_word}
use Rattle.std.specs.Str.{bytes_eq}
use Rattle.snap_scan_tokens.specs.declared.tag.Tag.{Tag}
use Rattle.snap_parse.specs.Documents.{plain_value}
use Rattle.snap_parse_events.specs.declared.event.Event.{Event}
use Rattle.snap_parse_events.specs.declared.event.Event.TheVariants as e
use Rattle.snap_parse.specs.Steps.{Held, in_list, in_dict, LoadState, put_in, put_at, closed, close_at, step}
use Rattle.snap_emit.specs.Built as b
use Rattle.snap_emit.specs.declared.loaded.Loaded.{Loaded}
use Rattle.snap_emit.specs.declared.refusal.Refusal.{Refusal}
use Rattle.snap_emit.specs.declared.refusal.Refusal.TheVariants.{NoYaml, NotOneDocument, Alias, NoTree, Number}

-- the last of several, where there is each of them
before-behind : {X : Type 0} (x : Option X) (xs : Option (List X)) (y : Option X) → b.before x (b.behind xs y) ≡ b.behind (b.before x xs) y
before-behind None xs y = refl
before-behind (Some x) None y = refl
before-behind (Some x) (Some xs) None = refl
before-behind (Some x) (Some xs) (Some y) = refl

trees-more : (xs : List v.Value) (x : v.Value) → b.trees_read (xs ++ x ∷ []) ≡ b.behind (b.trees_read xs) (b.tree_read x)
trees-more [] x = one (b.tree_read x)
  where
    one : (o : Option t.Tree) → b.before o (Some []) ≡ b.behind (Some []) o
    one None = refl
    one (Some y) = refl
trees-more (y ∷ ys) x = ap (b.before (b.tree_read y)) (trees-more ys x) ∙ before-behind (b.tree_read y) (b.trees_read ys) (b.tree_read x)

abbrev pair_read : v.Value × v.Value → Option (t.Tree × t.Tree)
pair_read q = b.both (b.tree_read q.0) (b.tree_read q.1)

pairs-more : (xs : List (v.Value × v.Value)) (x : v.Value × v.Value) → b.pairs_read (xs ++ x ∷ []) ≡ b.behind (b.pairs_read xs) (pair_read x)
pairs-more [] x = one (pair_read x)
  where
    one : (o : Option (t.Tree × t.Tree)) → b.before o (Some []) ≡ b.behind (Some []) o
    one None = refl
    one (Some y) = refl
pairs-more (y ∷ ys) x = ap (b.before (pair_read y)) (pairs-more ys x) ∙ before-behind (pair_read y) (b.pairs_read ys) (pair_read x)

-- whether there is each of them
some-map : {X Y : Type 0} (f : X → Y) (o : Option X) → is_some (option_map f o) ≡ is_some o
some-map f None = refl
some-map f (Some x) = refl

some-before : {X : Type 0} (x : Option X) (xs : Option (List X)) → is_some (b.before x xs) ≡ (is_some x && is_some xs)
some-before None xs = refl
some-before (Some x) None = refl
some-before (Some x) (Some xs) = refl

some-both : {X : Type 0} (x y : Option X) → is_some (b.both x y) ≡ (is_some x && is_some y)
some-both None y = refl
some-both (Some x) None = refl
some-both (Some x) (Some y) = refl

-- a number that comes first in some or, where each of them is a tree, in the last
alone : (first is : Bool) → (first || (is && false)) ≡ (false || (true && first))
alone true is = refl
alone false true = refl
alone false false = refl

further : (first is rest are last : Bool) → (first || (is && (rest || (are && last)))) ≡ ((first || (is && rest)) || ((is && are) && last))
further true is rest are last = refl
further false true rest are last = refl
further false false rest are last = refl

first-more : (xs : List v.Value) (x : v.Value)
    → is_number_first_of (v.values_of (xs ++ x ∷ [])) ≡ (is_number_first_of (v.values_of xs) || (is_some (b.trees_read xs) && is_number_first x))
first-more [] x = alone (is_number_first x) (is_some (plain_read x))
first-more (y ∷ ys) x =
    let first = is_number_first y in
    let is = is_some (plain_read y) in
    let rest = is_number_first_of (v.values_of ys) in
    let last = is_number_first x in
    ap (λ z. first || (is && z)) (first-more ys x)
    ∙ further first is rest (is_some (b.trees_read ys)) last
    ∙ ap (λ z. (first || (is && rest)) || (z && last))
    (ap (λ z. z && is_some (b.trees_read ys)) (sym (some-map content_of (plain_read y))) ∙ sym (some-before (b.tree_read y) (b.trees_read ys)))

-- what comes first in a pair, and whether both are trees
abbrev first_in_pair : v.Value × v.Value → Bool
first_in_pair q = is_number_first q.0 || (is_some (plain_read q.0) && is_number_first q.1)

abbrev is_pair : v.Value × v.Value → Bool
is_pair q = is_some (plain_read q.0) && is_some (plain_read q.1)

grouped : (key is value too rest : Bool) → (key || (is && (value || (too && rest)))) ≡ ((key || (is && value)) || ((is && too) && rest))
grouped = further

pair-is : (q : v.Value × v.Value) → is_pair q ≡ is_some (pair_read q)
pair-is q =
    ap (λ z. z && is_some (plain_read q.1)) (sym (some-map content_of (plain_read q.0)))
    ∙ ap (λ z. is_some (b.tree_read q.0) && z) (sym (some-map content_of (plain_read q.1)))
    ∙ sym (some-both (b.tree_read q.0) (b.tree_read q.1))

first-in-more : (xs : List (v.Value × v.Value)) (x : v.Value × v.Value)
    → is_number_first_in (v.pairs_of (xs ++ x ∷ [])) ≡ (is_number_first_in (v.pairs_of xs) || (is_some (b.pairs_read xs) && first_in_pair x))
first-in-more [] x =
    grouped (is_number_first x.0) (is_some (plain_read x.0)) (is_number_first x.1) (is_some (plain_read x.1)) false ∙ alone (first_in_pair x) (is_pair x)
first-in-more (y ∷ ys) x =
    let rest = is_number_first_in (v.pairs_of ys) in
    let last = first_in_pair x in
    grouped (is_number_first y.0) (is_some (plain_read y.0)) (is_number_first y.1) (is_some (plain_read y.1)) (is_number_first_in (v.pairs_of (ys ++ x ∷ [])))
    ∙ ap (λ z. first_in_pair y || (is_pair y && z)) (first-in-more ys x)
    ∙ further (first_in_pair y) (is_pair y) rest (is_some (b.pairs_read ys)) last
    ∙ ap (λ z. z || ((is_pair y && is_some (b.pairs_read ys)) && last))
    (sym (grouped (is_number_first y.0) (is_some (plain_read y.0)) (is_number_first y.1) (is_some (plain_read y.1)) rest))
    ∙ ap (λ z. is_number_first_in (v.pairs_of (y ∷ ys)) || (z && last))
    (ap (λ z. z && is_some (b.pairs_read ys)) (pair-is y) ∙ sym (some-before (pair_read y) (b.pairs_read ys)))

-- what was open, when it ends
some-same : {X : Type 0} (x y : X) → Some x ≡ Some y → x ≡ y
some-same x y h = cc

seq-step : (o : Option p.Plain) (ps : Option p.Plains) (ts : Option (List t.Tree)) → option_map t.trees_of ts ≡ option_map p.trees_made ps
    → option_map t.trees_of (b.before (option_map content_of o) ts) ≡ option_map p.trees_made (option_and_then (λ first. option_map (p.item first) ps) o)
seq-step None ps ts h = refl
seq-step (Some x) None None h = refl
seq-step (Some x) None (Some ts) h = absurd (cc)
seq-step (Some x) (Some ps) None h = absurd (cc)
seq-step (Some x) (Some ps) (Some ts) h = ap (λ z. Some (t.tree (content_of x) z)) (some-same (t.trees_of ts) (p.trees_made ps) h)

seq-made : (xs : List v.Value) → option_map t.trees_of (b.trees_read xs) ≡ option_map p.trees_made (plains_read (v.values_of xs))
seq-made [] = refl
seq-made (x ∷ xs) = seq-step (plain_read x) (plains_read (v.values_of xs)) (b.trees_read xs) (seq-made xs)

seq-whole : (ps : Option p.Plains) (ts : Option (List t.Tree)) → option_map t.trees_of ts ≡ option_map p.trees_made ps
    → option_map content_of (option_map p.list ps) ≡ b.seq_read ts
seq-whole None None h = refl
seq-whole None (Some ts) h = absurd (cc)
seq-whole (Some ps) None h = absurd (cc)
seq-whole (Some ps) (Some ts) h = ap (λ z. Some (t.seq z)) (sym (some-same (t.trees_of ts) (p.trees_made ps) h))

map-step : (k o : Option p.Plain) (es : Option p.Entries) (ts : Option (List (t.Tree × t.Tree))) → option_map t.pairs_of ts ≡ option_map p.pairs_made es
    → option_map t.pairs_of (b.before (b.both (option_map content_of k) (option_map content_of o)) ts)
    ≡ option_map p.pairs_made (option_and_then (λ key. option_and_then (λ value. option_map (p.entry key value) es) o) k)
map-step None o es ts h = refl
map-step (Some k) None es ts h = refl
map-step (Some k) (Some x) None None h = refl
map-step (Some k) (Some x) None (Some ts) h = absurd (cc)
map-step (Some k) (Some x) (Some es) None h = absurd (cc)
map-step (Some k) (Some x) (Some es) (Some ts) h =
    ap (λ z. Some (t.pair (content_of k) (content_of x) z)) (some-same (t.pairs_of ts) (p.pairs_made es) h)

map-made : (xs : List (v.Value × v.Value)) → option_map t.pairs_of (b.pairs_read xs) ≡ option_map p.pairs_made (entries_read (v.pairs_of xs))
map-made [] = refl
map-made (x ∷ xs) = map-step (plain_read x.0) (plain_read x.1) (entries_read (v.pairs_of xs)) (b.pairs_read xs) (map-made xs)

map-whole : (es : Option p.Entries) (ts : Option (List (t.Tree × t.Tree))) → option_map t.pairs_of ts ≡ option_map p.pairs_made es
    → option_map content_of (option_map p.dict es) ≡ b.map_read ts
map-whole None None h = refl
map-whole None (Some ts) h = absurd (cc)
map-whole (Some es) None h = absurd (cc)
map-whole (Some es) (Some ts) h = ap (λ z. Some (t.map z)) (sym (some-same (t.pairs_of ts) (p.pairs_made es) h))

abbrev with_tree : Bool → Option t.Tree → b.Reading
with_tree number o = record { tree = o; number = number; bad = false }

closed-read : (h : Held) → b.reading (closed h) ≡ b.closed_read (b.open_of h)
closed-read (in_list xs) =
    ap (with_tree (is_number_first_of (v.values_of xs))) (seq-whole (plains_read (v.values_of xs)) (b.trees_read xs) (seq-made xs))
closed-read (in_dict xs k) =
    ap (with_tree (is_number_first_in (v.pairs_of xs))) (map-whole (entries_read (v.pairs_of xs)) (b.pairs_read xs) (map-made xs))

-- what a node goes into
due-read : (bad : Bool) (x : v.Value) → option_map b.reading (if bad then None else Some x) ≡ (if bad then None else Some (b.reading x))
due-read true x = refl
due-read false x = refl

abbrev dict_with : List (v.Value × v.Value) → Option b.Reading → b.Open
dict_with xs due = b.dict_open (b.pairs_read xs) (is_number_first_in (v.pairs_of xs)) due

put-read : (x : v.Value) (h : Held) → b.open_of (put_in x h) ≡ b.put_open (b.reading x) (b.open_of h)
put-read x (in_list xs) =
    ap (λ ts. b.list_open ts (is_number_first_of (v.values_of (xs ++ x ∷ [])))) (trees-more xs x)
    ∙ ap (b.list_open (b.behind (b.trees_read xs) (b.tree_read x))) (first-more xs x)
put-read x (in_dict xs None) = ap (dict_with xs) (due-read (is_bad x) x)
put-read x (in_dict xs (Some k)) =
    let first = is_number_first_in (v.pairs_of xs) in
    ap (λ ts. b.dict_open ts (is_number_first_in (v.pairs_of (xs ++ (k, x) ∷ []))) None) (pairs-more xs (k, x))
    ∙ ap (λ z. b.dict_open (b.behind (b.pairs_read xs) (pair_read (k, x))) z None)
    (first-in-more xs (k, x)
    ∙ ap (λ z. first || (is_some (b.pairs_read xs) && (is_number_first k || (z && is_number_first x)))) (sym (some-map content_of (plain_read k))))

put-at-read : (x : v.Value) (ds : List v.Value) (node : Option v.Value) (hs : List Held)
    → b.state_read (put_at x ds node hs) ≡ b.put_read_at (b.reading x) (b.documents_of ds) (option_map b.reading node) (map b.open_of hs)
put-at-read x ds node [] = refl
put-at-read x ds node (h ∷ hs) =
    let at : b.Open → b.BuildState = λ o. record { documents = b.documents_of ds; node = option_map b.reading node; held = o ∷ map b.open_of hs } in
    ap at (put-read x h)

close-at-read : (ds : List v.Value) (node : Option v.Value) (hs : List Held)
    → b.state_read (close_at ds node hs) ≡ b.close_read_at (b.documents_of ds) (option_map b.reading node) (map b.open_of hs)
close-at-read ds node [] = refl
close-at-read ds node (h ∷ hs) =
    put-at-read (closed h) ds node hs
    ∙ ap (λ r. b.put_read_at r (b.documents_of ds) (option_map b.reading node) (map b.open_of hs)) (closed-read h)

-- a document that ends
node-read : (o : Option v.Value) → b.reading (unwrap_or o v.bad_value) ≡ b.reading_or_bad (option_map b.reading o)
node-read None = refl
node-read (Some x) = refl

documents-more : (ds : List v.Value) (x : v.Value) → b.documents_of (ds ++ x ∷ []) ≡ b.one_more (b.documents_of ds) (b.reading x)
documents-more [] x = refl
documents-more (d ∷ []) x = refl
documents-more (d ∷ e ∷ ds) x = refl

end-read : (ds : List v.Value) (node : Option v.Value)
    → b.documents_of (ds ++ unwrap_or node v.bad_value ∷ []) ≡ b.one_more (b.documents_of ds) (b.reading_or_bad (option_map b.reading node))
end-read ds node = documents-more ds (unwrap_or node v.bad_value) ∙ ap (b.one_more (b.documents_of ds)) (node-read node)

pub step-read : (x : Event) (s : LoadState) → b.state_read (step x s) ≡ b.step_read x (b.state_read s)
step-read e.StreamStart s = refl
step-read e.StreamEnd s = refl
step-read e.DocumentStart s = refl
step-read e.DocumentEnd s =
    let at : b.Documents → b.BuildState = λ ds. record { documents = ds; node = None; held = map b.open_of s.held } in ap at (end-read s.documents s.node)
step-read (e.Alias id) s = refl
step-read (e.Scalar text style id tag) s = put-at-read _ s.documents s.node s.held
step-read (e.SequenceStart id) s = refl
step-read e.SequenceEnd s = close-at-read s.documents s.node s.held
step-read (e.MappingStart id) s = refl
step-read e.MappingEnd s = close-at-read s.documents s.node s.held

-- the one document that a builder has is the one that a loader would have
one-loaded : (ds : List v.Value) (aliased : Bool) (r : Result Loaded Refusal) → b.IsOneDocument (b.documents_of ds) aliased r → b.IsLoadedFrom ds aliased r
one-loaded [] aliased (Ok loaded) h = absurd h
one-loaded [] aliased (Err (NoYaml error)) h = h
one-loaded [] aliased (Err NotOneDocument) h = λ x same. cc
one-loaded [] aliased (Err Alias) h = h
one-loaded [] aliased (Err NoTree) h = h
one-loaded [] aliased (Err Number) h = h
one-loaded (d ∷ []) aliased (Ok loaded) h = record { value = d; alone = refl; content = h.content; number = h.number; alias = h.alias }
one-loaded (d ∷ []) aliased (Err (NoYaml error)) h = h
one-loaded (d ∷ []) aliased (Err NotOneDocument) h = absurd h
one-loaded (d ∷ []) aliased (Err Alias) h = h
one-loaded (d ∷ []) aliased (Err NoTree) h = h
one-loaded (d ∷ []) aliased (Err Number) h = h
one-loaded (d ∷ e ∷ ds) aliased (Ok loaded) h = absurd h
one-loaded (d ∷ e ∷ ds) aliased (Err (NoYaml error)) h = h
one-loaded (d ∷ e ∷ ds) aliased (Err NotOneDocument) h = λ x same. cc
one-loaded (d ∷ e ∷ ds) aliased (Err Alias) h = h
one-loaded (d ∷ e ∷ ds) aliased (Err NoTree) h = h
one-loaded (d ∷ e ∷ ds) aliased (Err Number) h = h

pub told-loaded : (ds : List v.Value) (aliased had : Bool) (d : b.Documents) (r : Result Loaded Refusal) → d ≡ b.documents_of ds → had ≡ aliased
    → b.IsOneDocument d had r → b.IsLoadedFrom ds aliased r
told-loaded ds aliased had d r same alias h =
    one-loaded ds aliased r (subst (λ x. b.IsOneDocument x aliased r) same (subst (λ x. b.IsOneDocument d x r) alias h))

-- a plain scalar is neither a list nor a mapping
word-or : (o : Option ℤ) (x : v.Value) → b.is_word_value x ≡ true → b.is_word_value (integer_or o x) ≡ true
word-or None x h = h
word-or (Some z) x h = refl

word-if : (c : Bool) (x y : v.Value) → b.is_word_value x ≡ true → b.is_word_value y ≡ true → b.is_word_value (if c then x else y) ≡ true
word-if true x y h k = h
word-if false x y h k = k

typed-word : (w : List ℕ) → b.is_word_value (typed_yaml w) ≡ true
typed-word w =
    word-or (prefixed_number w) (typed_word w)
    (word-if (is_null_word w) v.null _ refl (word-if (bytes_eq w (codes "true")) (v.boolean true) _ refl
    (word-if (bytes_eq w (codes "false")) (v.boolean false) _ refl
    (word-or (integer_of 10 w) _ (word-if (is_real_text w) (v.real w) (v.string w) refl refl)))))

tagged-word : (handle suffix w : List ℕ) → b.is_word_value (tagged handle suffix w) ≡ true
tagged-word handle suffix w =
    word-if (bytes_eq handle (codes "!!")) (typed_as suffix w) (v.string w)
    (word-if (bytes_eq suffix (codes "bool")) (typed_bool w) _
    (word-if (bytes_eq w (codes "true")) (v.boolean true) _ refl (word-if (bytes_eq w (codes "false")) (v.boolean false) v.bad_value refl refl))
    (word-if (bytes_eq suffix (codes "int")) (typed_int w) _ (word-or (integer_of 10 w) v.bad_value refl)
    (word-if (bytes_eq suffix (codes "float")) (typed_float w) _ (word-if (is_real_text w) (v.real w) v.bad_value refl refl)
    (word-if (bytes_eq suffix (codes "null")) (typed_null w) (v.string w) (word-if (is_null_word w) v.null v.bad_value refl refl) refl))))
    refl

pub plain-word : (w : List ℕ) (tag : Option Tag) → b.is_word_value (plain_value w tag) ≡ true
plain-word w None = typed-word w
plain-word w (Some tag) = tagged-word tag.handle tag.suffix w

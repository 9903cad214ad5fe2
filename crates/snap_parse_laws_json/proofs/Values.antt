-- A value of a JSON text is fetched as its tokens.
use Rattle.snap_parse_laws_json.proofs.Prelude.{◌≡◌, ◌<◌, ◌≤◌, ℕ, suc, ◌+◌, List, [], ◌∷◌, ◌++◌, Bool, true, false, refl, sym, ap, ◌∙◌, subst, arith, append-nil, append_assoc, max, Some, None, Option, map, nat_lt, length, nat_tests, map-append, ◌||◌, codes, signed_decimal, Plain, null, bool, int, text, list, dict, Plains, no_items, item, Entries, no_entries, entry, spell_bool, Place, mark_of, Token, TokenType, Keys, fresh, still_fresh, shallower, Steps, none_more, one_more, fetched, type_of, State, at, SimpleKey, text_at, items_at, entries_at, member_text, is_refused, has_refused, items_refused, entries_refused, json_string, Condensed, Brackets, square, curly, open_sign, close_sign, open_token, close_token, here, steps-append, levels, item_levels, entry_levels, is_long, has_long, items_long, entries_long, json_tokens, item_tokens, entry_tokens, key_tokens, plain_token, quoted_token, or_parts}
use Rattle.std.proofs.Math.Nat.{le-max_left, le-max_right}
use Rattle.snap_scan_tokens.specs.declared.token.TokenType.TheVariants as k
use Rattle.snap_parse_laws_json.proofs.Scalars.{keys_from, free-behind, behind_string, step-string, behind_word, step-word, behind_colon, step-colon}
use Rattle.snap_parse_laws_json.proofs.Signs.{key_from, free-from, opened, step-open, free-inside, keys_inside, closed, step-close, without_key, free-without, free-outside, parted, step-comma}
use Rattle.snap_parse_laws_json.proofs.Standing.{flow_state, AreFree, still-free}
use Rattle.snap_parse_laws_json.proofs.Words.{IsWord, EndsValue, int-word, bool-word, null-word}

-- s goes on to the place of rest, where n lists and dicts are open, and gives these tokens
pub record Reads (s : State) (before toks : List TokenType) (n : ℕ) (rest : List ℕ) : Type 0 where
  pub adjacent : ℕ
  pub index : ℕ
  pub column : ℕ
  pub held : List Token
  pub keys : Keys
  pub steps : Steps s (flow_state false adjacent (here rest index 1 column) held keys)
  pub free : AreFree n keys
  pub given : map type_of held ≡ before ++ toks

-- the state that is reached
abbrev pub reached : {s : State} {before toks : List TokenType} {n : ℕ} {rest : List ℕ} → Reads s before toks n rest → State
reached {s} {before} {toks} {n} {rest} r = flow_state false r.adjacent (here rest r.index 1 r.column) r.held r.keys

one-step : (s t : State) → s.ended ≡ false → fetched s ≡ Some t → Steps s t
one-step s t going is = one_more s t t going is (none_more t)

-- a step, and what is read after it
then : (s t : State) (before next pre toks : List TokenType) (n : ℕ) (rest : List ℕ) → Steps s t → next ≡ before ++ pre → Reads t next toks n rest → Reads s before (pre ++ toks) n rest
then s t before next pre toks n rest steps is r =
    let after : List TokenType → List TokenType = λ x. x ++ toks in
    record {
      adjacent = r.adjacent;
      index = r.index;
      column = r.column;
      held = r.held;
      keys = r.keys;
      steps = steps-append s t (reached r) steps r.steps;
      free = r.free;
      given = r.given ∙ ap after is ∙ append_assoc before pre toks;
    }

-- two parts, one after the other
join : (s : State) (before xs ys : List TokenType) (m n : ℕ) (here_ rest : List ℕ) (r : Reads s before xs m here_) → Reads (reached r) (map type_of r.held) ys n rest → Reads s before (xs ++ ys) n rest
join s before xs ys m n here_ rest r next = then s (reached r) before (map type_of r.held) xs ys n rest r.steps r.given next

-- a closing bracket
bracket : (q : Brackets) (n : ℕ) (b : Bool) (a : ℕ) (rest : List ℕ) (i j : ℕ) (h : List Token) (ks : Keys) → AreFree (suc n) ks
    → Reads (flow_state b a (here (close_sign q ∷ rest) i 1 j) h ks) (map type_of h) (close_token q ∷ []) n rest
bracket q n b a rest i j h ks free =
    let p : Place = here (close_sign q ∷ rest) i 1 j in
    let late : Keys = still_fresh (mark_of p) ks in
    let close : Token = at (mark_of p) (close_token q) in
    record {
      adjacent = a;
      index = i + 1;
      column = j + 1;
      held = h ++ close ∷ [];
      keys = shallower (without_key late);
      steps = one-step (flow_state b a p h ks) (closed q a rest i j h late) refl (step-close q (suc n) b a rest i j h ks free);
      free = free-outside n late (still-free (mark_of p) (suc n) ks free);
      given = map-append type_of h (close ∷ []);
    }

-- what is read up to a closing bracket, and the bracket
shut : (q : Brackets) (s : State) (before toks : List TokenType) (n : ℕ) (rest : List ℕ) → Reads s before toks (suc n) (close_sign q ∷ rest) → Reads s before (toks ++ close_token q ∷ []) n rest
shut q s before toks n rest r =
    join s before toks (close_token q ∷ []) (suc n) n (close_sign q ∷ rest) rest r (bracket q n false r.adjacent rest r.index r.column r.held r.keys r.free)

-- a list or dict of which the inner part is read
enclosed : (q : Brackets) (n : ℕ) (b : Bool) (a : ℕ) (cs rest : List ℕ) (i j : ℕ) (h : List Token) (ks : Keys) (toks : List TokenType) → AreFree n ks → nat_lt n 1023 ≡ true
    → ((held : List Token) (keys : Keys) → AreFree (suc n) keys → Reads (flow_state true a (here cs (i + 1) 1 (j + 1)) held keys) (map type_of held) toks n rest)
    → Reads (flow_state b a (here (open_sign q ∷ cs) i 1 j) h ks) (map type_of h) (open_token q ∷ toks) n rest
enclosed q n b a cs rest i j h ks toks free room inner =
    let p : Place = here (open_sign q ∷ cs) i 1 j in
    let late : Keys = still_fresh (mark_of p) ks in
    let late_free = still-free (mark_of p) n ks free in
    let held : List Token = h ++ at (mark_of p) (open_token q) ∷ [] in
    let keys : Keys = keys_inside (key_from b p h late.key) late.outer in
    let inside = inner held keys (free-inside n (key_from b p h late.key) late late_free (free-from b p h late.key late_free.key)) in
    let s : State = flow_state b a p h ks in
    let t : State = opened q b a cs i j h late in
    then s t (map type_of h) (map type_of held) (open_token q ∷ []) toks n rest (one-step s t refl (step-open q n b a cs i j h ks free room))
    (map-append type_of h (at (mark_of p) (open_token q) ∷ [])) inside

-- an empty list or dict
hollow : (q : Brackets) (n : ℕ) (b : Bool) (a : ℕ) (rest : List ℕ) (i j : ℕ) (h : List Token) (ks : Keys) → AreFree n ks → nat_lt n 1023 ≡ true
    → Reads (flow_state b a (here (open_sign q ∷ close_sign q ∷ rest) i 1 j) h ks) (map type_of h) (open_token q ∷ close_token q ∷ []) n rest
hollow q n b a rest i j h ks free room =
    enclosed q n b a (close_sign q ∷ rest) rest i j h ks (close_token q ∷ []) free room
    (λ held keys inner_free. bracket q n true a rest (i + 1) (j + 1) held keys inner_free)

-- a bare word
word : (w : List ℕ) → IsWord w → (n : ℕ) (b : Bool) (a : ℕ) (rest : List ℕ) (i j : ℕ) (h : List Token) (ks : Keys) → AreFree n ks → EndsValue n rest
    → Reads (flow_state b a (here (w ++ rest) i 1 j) h ks) (map type_of h) (plain_token w ∷ []) n rest
word w is n b a rest i j h ks free ends =
    let p : Place = here (w ++ rest) i 1 j in
    let scalar : Token = at (mark_of p) (plain_token w) in
    let s : State = flow_state b a p h ks in
    let t : State = behind_word b a w rest i j h ks in
    record {
      adjacent = a;
      index = i + length w;
      column = j + length w;
      held = h ++ scalar ∷ [];
      keys = keys_from b p h ks;
      steps = one-step s t refl (step-word n b a w is rest i j h ks free ends);
      free = free-behind n b p h ks free;
      given = map-append type_of h (scalar ∷ []);
    }

-- a text in quotes
string : (x : List ℕ) (n : ℕ) (b : Bool) (a : ℕ) (rest : List ℕ) (i j : ℕ) (h : List Token) (ks : Keys) → AreFree n ks
    → Reads (flow_state b a (here (json_string x ++ rest) i 1 j) h ks) (map type_of h) (quoted_token x ∷ []) n rest
string x n b a rest i j h ks free =
    let p : Place = here (json_string x ++ rest) i 1 j in
    let scalar : Token = at (mark_of p) (quoted_token x) in
    let s : State = flow_state b a p h ks in
    let t : State = behind_string b x rest i j h ks in
    record {
      adjacent = i + length (json_string x);
      index = i + length (json_string x);
      column = j + length (json_string x);
      held = h ++ scalar ∷ [];
      keys = keys_from b p h ks;
      steps = one-step s t refl (step-string n b a x rest i j h ks free);
      free = free-behind n b p h ks free;
      given = map-append type_of h (scalar ∷ []);
    }

-- a tree whose text is read where n lists and dicts are open
pub record IsFit (n : ℕ) (p : Plain) : Type 0 where
  pub accepted : has_refused p ≡ false
  pub short : has_long p ≡ false
  pub shallow : levels p + n ≤ 1023

record AreFit (n : ℕ) (ps : Plains) : Type 0 where
  accepted : items_refused ps ≡ false
  short : items_long ps ≡ false
  shallow : item_levels ps + n ≤ 1023

record AreEntriesFit (n : ℕ) (es : Entries) : Type 0 where
  accepted : entries_refused es ≡ false
  short : entries_long es ≡ false
  shallow : entry_levels es + n ≤ 1023

record IsMemberFit (key : Plain) (n : ℕ) (p : Plain) : Type 0 where
  accepted : is_refused key ≡ false
  short : is_long key ≡ false
  value : IsFit n p

within : (x y n : ℕ) → max x y + n ≤ 1023 → (x + n ≤ 1023) × (y + n ≤ 1023)
within x y n h =
    let one : x ≤ max x y = le-max_left x y in
    let two : y ≤ max x y = le-max_right x y in
    (omega (arith, one, h), omega (arith, two, h))

fit-list : (n : ℕ) (ps : Plains) → IsFit n (list ps) → AreFit (suc n) ps
fit-list n ps fit = record { accepted = fit.accepted; short = fit.short; shallow = (let h : suc (item_levels ps) + n ≤ 1023 = fit.shallow in omega (arith, h)) }

fit-dict : (n : ℕ) (es : Entries) → IsFit n (dict es) → AreEntriesFit (suc n) es
fit-dict n es fit = record { accepted = fit.accepted; short = fit.short; shallow = (let h : suc (entry_levels es) + n ≤ 1023 = fit.shallow in omega (arith, h)) }

fit-item : (n : ℕ) (p : Plain) (ps : Plains) → AreFit n (item p ps) → IsFit n p × AreFit n ps
fit-item n p ps fit =
    let accepted = or_parts (has_refused p) (items_refused ps) fit.accepted in
    let short = or_parts (has_long p) (items_long ps) fit.short in
    let shallow = within (levels p) (item_levels ps) n fit.shallow in
    (record { accepted = accepted.0; short = short.0; shallow = shallow.0 }, record { accepted = accepted.1; short = short.1; shallow = shallow.1 })

fit-entry : (n : ℕ) (key p : Plain) (es : Entries) → AreEntriesFit n (entry key p es) → IsMemberFit key n p × AreEntriesFit n es
fit-entry n key p es fit =
    let accepted = or_parts (is_refused key) (has_refused p || entries_refused es) fit.accepted in
    let accepted_rest = or_parts (has_refused p) (entries_refused es) accepted.1 in
    let short = or_parts (is_long key) (has_long p || entries_long es) fit.short in
    let short_rest = or_parts (has_long p) (entries_long es) short.1 in
    let shallow = within (levels p) (entry_levels es) n fit.shallow in (
      record { accepted = accepted.0; short = short.0; value = record { accepted = accepted_rest.0; short = short_rest.0; shallow = shallow.0 } },
      record { accepted = accepted_rest.1; short = short_rest.1; shallow = shallow.1 },
    )

room-list : (n : ℕ) (ps : Plains) → IsFit n (list ps) → nat_lt n 1023 ≡ true
room-list n ps fit = let h : suc (item_levels ps) + n ≤ 1023 = fit.shallow in let below : n < 1023 = omega (arith, h) in grind (arith, nat_tests)

room-dict : (n : ℕ) (es : Entries) → IsFit n (dict es) → nat_lt n 1023 ≡ true
room-dict n es fit = let h : suc (entry_levels es) + n ≤ 1023 = fit.shallow in let below : n < 1023 = omega (arith, h) in grind (arith, nat_tests)

-- the text of p is read as its tokens wherever it stands
abbrev pub IsRead : Plain → Type 0
IsRead p = (column n : ℕ) → IsFit n p → (b : Bool) (a : ℕ) (rest : List ℕ) (i j : ℕ) (h : List Token) (ks : Keys) → AreFree n ks → EndsValue n rest
    → Reads (flow_state b a (here (text_at Condensed column p ++ rest) i 1 j) h ks) (map type_of h) (json_tokens p) n rest

-- the text of further items is read as their tokens
abbrev AreRead : Plains → Type 0
AreRead ps = (column n : ℕ) → AreFit (suc n) ps → (a : ℕ) (rest : List ℕ) (i j : ℕ) (h : List Token) (ks : Keys) → AreFree (suc n) ks → EndsValue (suc n) rest
    → Reads (flow_state false a (here (items_at Condensed column ps ++ rest) i 1 j) h ks) (map type_of h) (item_tokens ps) (suc n) rest

-- the text of further entries is read as their tokens
abbrev AreEntriesRead : Entries → Type 0
AreEntriesRead es = (column n : ℕ) → AreEntriesFit (suc n) es → (a : ℕ) (rest : List ℕ) (i j : ℕ) (h : List Token) (ks : Keys) → AreFree (suc n) ks → EndsValue (suc n) rest
    → Reads (flow_state false a (here (entries_at Condensed column es ++ rest) i 1 j) h ks) (map type_of h) (entry_tokens es) (suc n) rest

-- nothing is left to be read
nothing : (n a : ℕ) (rest : List ℕ) (i j : ℕ) (h : List Token) (ks : Keys) → AreFree n ks → Reads (flow_state false a (here rest i 1 j) h ks) (map type_of h) [] n rest
nothing n a rest i j h ks free =
    record {
      adjacent = a;
      index = i;
      column = j;
      held = h;
      keys = ks;
      steps = none_more (flow_state false a (here rest i 1 j) h ks);
      free = free;
      given = sym (append-nil (map type_of h));
    }

-- a comma, and what is read after it
parting : (n a : ℕ) (cs rest : List ℕ) (i j : ℕ) (h : List Token) (ks : Keys) (toks : List TokenType) → AreFree (suc n) ks
    → ((held : List Token) (keys : Keys) → AreFree (suc n) keys → Reads (flow_state true a (here cs (i + 1) 1 (j + 1)) held keys) (map type_of held) toks (suc n) rest)
    → Reads (flow_state false a (here (44 ∷ cs) i 1 j) h ks) (map type_of h) (k.FlowEntry ∷ toks) (suc n) rest
parting n a cs rest i j h ks toks free on =
    let p : Place = here (44 ∷ cs) i 1 j in
    let late : Keys = still_fresh (mark_of p) ks in
    let held : List Token = h ++ at (mark_of p) k.FlowEntry ∷ [] in
    let s : State = flow_state false a p h ks in
    let t : State = parted a cs i j h late in
    then s t (map type_of h) (map type_of held) (k.FlowEntry ∷ []) toks (suc n) rest (one-step s t refl (step-comma (suc n) false a cs i j h ks free))
    (map-append type_of h (at (mark_of p) k.FlowEntry ∷ [])) (on held (without_key late) (free-without (suc n) late (still-free (mark_of p) (suc n) ks free)))

items-end : (column n : ℕ) (ps : Plains) (rest : List ℕ) → EndsValue (suc n) rest → EndsValue (suc n) (items_at Condensed column ps ++ rest)
items-end column n no_items rest ends = ends
items-end column n (item p ps) rest ends = refl

entries-end : (column n : ℕ) (es : Entries) (rest : List ℕ) → EndsValue (suc n) rest → EndsValue (suc n) (entries_at Condensed column es ++ rest)
entries-end column n no_entries rest ends = ends
entries-end column n (entry key p es) rest ends = refl

-- a key and its value
member-text : (s : List ℕ) (p : Plain) → IsRead p → (column n : ℕ) → IsMemberFit (text s) (suc n) p → (a : ℕ) (rest : List ℕ) (i j : ℕ) (h : List Token) (ks : Keys)
    → AreFree (suc n) ks → EndsValue (suc n) rest
    → Reads (flow_state true a (here (json_string s ++ (58 ∷ (text_at Condensed column p ++ rest))) i 1 j) h ks) (map type_of h) (key_tokens (text s) ++ json_tokens p) (suc n) rest
member-text s p read column n fit a rest i j h ks free ends =
    let m : ℕ = length (json_string s) in
    let cs : List ℕ = text_at Condensed column p ++ rest in
    let x : List ℕ = json_string s ++ (58 ∷ cs) in
    let q : Place = here x i 1 j in
    let c : Place = here (58 ∷ cs) (i + m) 1 (j + m) in
    let scalar : Token = at (mark_of q) (quoted_token s) in
    let outer : List (Option SimpleKey) = map (fresh (mark_of q)) ks.outer in
    let late : List (Option SimpleKey) = map (fresh (mark_of c)) outer in
    let held : List Token = h ++ (at (mark_of q) k.Key ∷ scalar ∷ []) ++ at (mark_of c) k.Value ∷ [] in
    let keyed = free-behind (suc n) true q h ks free in
    let is_short : nat_lt 1024 m ≡ false = fit.short in
    let short : m ≤ 1024 = grind (arith, nat_tests) in
    let s0 : State = flow_state true a q h ks in
    let s1 : State = behind_string true s (58 ∷ cs) i j h ks in
    let s2 : State = behind_colon m q cs h scalar late in
    let late_free = free-without (suc n) (still_fresh (mark_of c) (keys_from true q h ks)) (still-free (mark_of c) (suc n) (keys_from true q h ks) keyed) in
    let steps : Steps s0 s2 =
    one_more s0 s1 s2 refl (step-string (suc n) true a s (58 ∷ cs) i j h ks free) (one-step s1 s2 refl (step-colon n m x cs i j h scalar outer keyed short)) in
    let given : map type_of held ≡ map type_of h ++ (k.Key ∷ quoted_token s ∷ k.Value ∷ []) = simp (map-append, append_assoc) in
    then s0 s2 (map type_of h) (map type_of held) (k.Key ∷ quoted_token s ∷ k.Value ∷ []) (json_tokens p) (suc n) rest steps given
    (read column (suc n) fit.value false (i + m) rest (i + m + 1) (j + m + 1) held (record { key = None; outer = late }) late_free ends)

member : (key p : Plain) → IsRead p → (column n : ℕ) → IsMemberFit key (suc n) p → (a : ℕ) (rest : List ℕ) (i j : ℕ) (h : List Token) (ks : Keys)
    → AreFree (suc n) ks → EndsValue (suc n) rest
    → Reads (flow_state true a (here (member_text Condensed key ++ (text_at Condensed column p ++ rest)) i 1 j) h ks) (map type_of h) (key_tokens key ++ json_tokens p) (suc n) rest
member null p read column n fit a rest i j h ks free ends = absurd (let no_key : true ≡ false = fit.accepted in cc)
member (bool b) p read column n fit a rest i j h ks free ends = absurd (let no_key : true ≡ false = fit.accepted in cc)
member (int z) p read column n fit a rest i j h ks free ends = absurd (let no_key : true ≡ false = fit.accepted in cc)
member (list ps) p read column n fit a rest i j h ks free ends = absurd (let no_key : true ≡ false = fit.accepted in cc)
member (dict es) p read column n fit a rest i j h ks free ends = absurd (let no_key : true ≡ false = fit.accepted in cc)
member (text s) p read column n fit a rest i j h ks free ends =
    let cs : List ℕ = text_at Condensed column p ++ rest in
    let e : json_string s ++ 58 ∷ [] ++ cs ≡ json_string s ++ (58 ∷ cs) = append_assoc (json_string s) (58 ∷ []) cs in
    let P : List ℕ → Type 0 = λ x. Reads (flow_state true a (here x i 1 j) h ks) (map type_of h) (key_tokens (text s) ++ json_tokens p) (suc n) rest in
    subst P (sym e) (member-text s p read column n fit a rest i j h ks free ends)

-- a list of one item at least
some-items : (p : Plain) (ps : Plains) → IsRead p → AreRead ps → IsRead (list (item p ps))
some-items p ps read others column n fit b a rest i j h ks free ends =
    let both = fit-item (suc n) p ps (fit-list n (item p ps) fit) in
    let one : List ℕ = text_at Condensed (column + 2) p in
    let further : List ℕ = items_at Condensed (column + 2) ps in
    let behind : List ℕ = 93 ∷ rest in
    let e : one ++ (further ++ 93 ∷ []) ++ rest ≡ one ++ (further ++ behind) = simp append_assoc in
    let toks : List TokenType = json_tokens p ++ (item_tokens ps ++ k.FlowSequenceEnd ∷ []) in
    enclosed square n b a (one ++ (further ++ 93 ∷ []) ++ rest) rest i j h ks toks free (room-list n (item p ps) fit) (λ held keys inner_free.
    let P : List ℕ → Type 0 = λ x. Reads (flow_state true a (here x (i + 1) 1 (j + 1)) held keys) (map type_of held) toks n rest in
    let first = read (column + 2) (suc n) both.0 true a (further ++ behind) (i + 1) (j + 1) held keys inner_free (items-end (column + 2) n ps behind refl) in
    let then_ = others (column + 2) n both.1 first.adjacent behind first.index first.column first.held first.keys first.free refl in
    let last = shut square (reached first) (map type_of first.held) (item_tokens ps) n rest then_ in
    subst P (sym e) (join (flow_state true a (here (one ++ (further ++ behind)) (i + 1) 1 (j + 1)) held keys) (map type_of held) (json_tokens p) (item_tokens ps ++ k.FlowSequenceEnd ∷ []) (suc n) n (further ++ behind) rest first last))

-- a dict of one entry at least
some-entries : (key p : Plain) (es : Entries) → IsRead p → AreEntriesRead es → IsRead (dict (entry key p es))
some-entries key p es read others column n fit b a rest i j h ks free ends =
    let both = fit-entry (suc n) key p es (fit-dict n (entry key p es) fit) in
    let name : List ℕ = member_text Condensed key in
    let one : List ℕ = text_at Condensed (column + 2) p in
    let further : List ℕ = entries_at Condensed (column + 2) es in
    let behind : List ℕ = 125 ∷ rest in
    let whole : List ℕ = name ++ (one ++ (further ++ behind)) in
    let text_ : List ℕ = name ++ one ++ (further ++ 125 ∷ []) ++ rest in
    let e : text_ ≡ whole = simp append_assoc in
    let toks : List TokenType = key_tokens key ++ json_tokens p ++ (entry_tokens es ++ k.FlowMappingEnd ∷ []) in
    enclosed curly n b a text_ rest i j h ks toks free (room-dict n (entry key p es) fit) (λ held keys inner_free.
    let P : List ℕ → Type 0 = λ x. Reads (flow_state true a (here x (i + 1) 1 (j + 1)) held keys) (map type_of held) toks n rest in
    let first = member key p read (column + 2) n both.0 a (further ++ behind) (i + 1) (j + 1) held keys inner_free (entries-end (column + 2) n es behind refl) in
    let then_ = others (column + 2) n both.1 first.adjacent behind first.index first.column first.held first.keys first.free refl in
    let last = shut curly (reached first) (map type_of first.held) (entry_tokens es) n rest then_ in
    subst P (sym e) (join (flow_state true a (here whole (i + 1) 1 (j + 1)) held keys) (map type_of held) (key_tokens key ++ json_tokens p) (entry_tokens es ++ k.FlowMappingEnd ∷ []) (suc n) n (further ++ behind) rest first last))

further-item : (p : Plain) (ps : Plains) → IsRead p → AreRead ps → AreRead (item p ps)
further-item p ps read others column n fit a rest i j h ks free ends =
    let both = fit-item (suc n) p ps fit in
    let one : List ℕ = text_at Condensed column p in
    let further : List ℕ = items_at Condensed column ps in
    let toks : List TokenType = json_tokens p ++ item_tokens ps in
    parting n a (one ++ further ++ rest) rest i j h ks toks free (λ held keys inner_free.
    let P : List ℕ → Type 0 = λ x. Reads (flow_state true a (here x (i + 1) 1 (j + 1)) held keys) (map type_of held) toks (suc n) rest in
    let first = read column (suc n) both.0 true a (further ++ rest) (i + 1) (j + 1) held keys inner_free (items-end column n ps rest ends) in
    let then_ = others column n both.1 first.adjacent rest first.index first.column first.held first.keys first.free ends in
    subst P (sym (append_assoc one further rest))
    (join (flow_state true a (here (one ++ (further ++ rest)) (i + 1) 1 (j + 1)) held keys) (map type_of held) (json_tokens p) (item_tokens ps) (suc n) (suc n) (further ++ rest) rest first then_))

further-entry : (key p : Plain) (es : Entries) → IsRead p → AreEntriesRead es → AreEntriesRead (entry key p es)
further-entry key p es read others column n fit a rest i j h ks free ends =
    let both = fit-entry (suc n) key p es fit in
    let name : List ℕ = member_text Condensed key in
    let one : List ℕ = text_at Condensed column p in
    let further : List ℕ = entries_at Condensed column es in
    let whole : List ℕ = name ++ (one ++ (further ++ rest)) in
    let text_ : List ℕ = name ++ one ++ further ++ rest in
    let e : text_ ≡ whole = simp append_assoc in
    let toks : List TokenType = key_tokens key ++ json_tokens p ++ entry_tokens es in
    parting n a text_ rest i j h ks toks free (λ held keys inner_free.
    let P : List ℕ → Type 0 = λ x. Reads (flow_state true a (here x (i + 1) 1 (j + 1)) held keys) (map type_of held) toks (suc n) rest in
    let first = member key p read column n both.0 a (further ++ rest) (i + 1) (j + 1) held keys inner_free (entries-end column n es rest ends) in
    let then_ = others column n both.1 first.adjacent rest first.index first.column first.held first.keys first.free ends in
    subst P (sym e) (join (flow_state true a (here whole (i + 1) 1 (j + 1)) held keys) (map type_of held) (key_tokens key ++ json_tokens p) (entry_tokens es) (suc n) (suc n) (further ++ rest) rest first then_))

mutual
  pub node : (p : Plain) → IsRead p
  node null = λ column n fit. word (codes "null") null-word n
  node (bool b) = λ column n fit. word (spell_bool b) (bool-word b) n
  node (int z) = λ column n fit. word (signed_decimal z) (int-word z) n
  node (text s) = λ column n fit b a rest i j h ks free ends. string s n b a rest i j h ks free
  node (list no_items) = λ column n fit b a rest i j h ks free ends. hollow square n b a rest i j h ks free (room-list n no_items fit)
  node (list (item p ps)) = some-items p ps (node p) (items ps)
  node (dict no_entries) = λ column n fit b a rest i j h ks free ends. hollow curly n b a rest i j h ks free (room-dict n no_entries fit)
  node (dict (entry key p es)) = some-entries key p es (node p) (entries es)

  items : (ps : Plains) → AreRead ps
  items no_items = λ column n fit a rest i j h ks free ends. nothing (suc n) a rest i j h ks free
  items (item p ps) = further-item p ps (node p) (items ps)

  entries : (es : Entries) → AreEntriesRead es
  entries no_entries = λ column n fit a rest i j h ks free ends. nothing (suc n) a rest i j h ks free
  entries (entry key p es) = further-entry key p es (node p) (entries es)

-- What is written is the whole text exactly where no key is refused.
use Rattle.snap_json.proofs.Prelude.{◌≡◌, ℕ, ◌+◌, List, ◌++◌, Bool, true, false, ◌||◌, refl, ap, ◌∙◌, or_left, or_right, or_nothing, Plain, null, bool, int, text, list, dict, Plains, no_items, item, Entries, no_entries, entry, opening, closing, comma, colon, text_at, items_at, entries_at, member_text, is_refused, has_refused, items_refused, entries_refused, Written, whole, stopped, is_stopped, behind, key_written, member_written, entry_written, written, items_written, entries_written, Format}

stopped-behind : (a b : Written) → is_stopped (behind a b) ≡ is_stopped a || is_stopped b
stopped-behind (whole s) (whole u) = refl
stopped-behind (whole s) (stopped u) = refl
stopped-behind (stopped s) b = refl

key_stopped : (key : Plain) → is_stopped (key_written key) ≡ is_refused key
key_stopped null = refl
key_stopped (bool b) = refl
key_stopped (int z) = refl
key_stopped (text s) = refl
key_stopped (list ps) = refl
key_stopped (dict es) = refl

entry_stopped : (f : Format) (key : Plain) (v : Written) → is_stopped (entry_written f key v) ≡ is_refused key || is_stopped v
entry_stopped f key v =
    stopped-behind (member_written f key) v
    ∙ ap (λ b. b || is_stopped v) (stopped-behind (key_written key) (whole (colon f)) ∙ or_nothing (is_stopped (key_written key)) ∙ key_stopped key)

-- a collection, from its first element and its further ones
collection_stopped : (o c : List ℕ) (first rest : Written) → is_stopped (behind (whole o) (behind first (behind rest (whole c)))) ≡ is_stopped first || is_stopped rest
collection_stopped o c first rest =
    stopped-behind (whole o) (behind first (behind rest (whole c)))
    ∙ stopped-behind first (behind rest (whole c))
    ∙ ap (λ b. is_stopped first || b) (stopped-behind rest (whole c) ∙ or_nothing (is_stopped rest))

or_assoc : (a b c : Bool) → (a || b) || c ≡ a || (b || c)
or_assoc true b c = refl
or_assoc false b c = refl

mutual
  pub stopped-written : (f : Format) (k : ℕ) (p : Plain) → is_stopped (written f k p) ≡ has_refused p
  stopped-written f k null = refl
  stopped-written f k (bool b) = refl
  stopped-written f k (int z) = refl
  stopped-written f k (text s) = refl
  stopped-written f k (list no_items) = refl
  stopped-written f k (list (item p ps)) =
      collection_stopped (opening f (k + 2) 91) (closing f k 93) (written f (k + 2) p) (items_written f (k + 2) ps)
      ∙ ap (λ b. b || is_stopped (items_written f (k + 2) ps)) (stopped-written f (k + 2) p)
      ∙ ap (λ b. has_refused p || b) (stopped-items f (k + 2) ps)
  stopped-written f k (dict no_entries) = refl
  stopped-written f k (dict (entry key p es)) =
      collection_stopped (opening f (k + 2) 123) (closing f k 125) (entry_written f key (written f (k + 2) p)) (entries_written f (k + 2) es)
      ∙ ap (λ b. b || is_stopped (entries_written f (k + 2) es)) (entry_stopped f key (written f (k + 2) p) ∙ ap (λ b. is_refused key || b) (stopped-written f (k + 2) p))
      ∙ ap (λ b. (is_refused key || has_refused p) || b) (stopped-entries f (k + 2) es)
      ∙ or_assoc (is_refused key) (has_refused p) (entries_refused es)

  stopped-items : (f : Format) (k : ℕ) (ps : Plains) → is_stopped (items_written f k ps) ≡ items_refused ps
  stopped-items f k no_items = refl
  stopped-items f k (item p ps) =
      stopped-behind (behind (whole (comma f k)) (written f k p)) (items_written f k ps)
      ∙ ap (λ b. b || is_stopped (items_written f k ps)) (stopped-behind (whole (comma f k)) (written f k p) ∙ stopped-written f k p)
      ∙ ap (λ b. has_refused p || b) (stopped-items f k ps)

  stopped-entries : (f : Format) (k : ℕ) (es : Entries) → is_stopped (entries_written f k es) ≡ entries_refused es
  stopped-entries f k no_entries = refl
  stopped-entries f k (entry key p es) =
      stopped-behind (behind (whole (comma f k)) (entry_written f key (written f k p))) (entries_written f k es)
      ∙ ap (λ b. b || is_stopped (entries_written f k es)) (stopped-behind (whole (comma f k)) (entry_written f key (written f k p)) ∙ entry_stopped f key (written f k p) ∙ ap (λ b. is_refused key || b) (stopped-written f k p))
      ∙ ap (λ b. (is_refused key || has_refused p) || b) (stopped-entries f k es)
      ∙ or_assoc (is_refused key) (has_refused p) (entries_refused es)

member_whole : (f : Format) (key : Plain) → is_refused key ≡ false → member_written f key ≡ whole (member_text f key)
member_whole f null h = cc
member_whole f (bool b) h = cc
member_whole f (int z) h = cc
member_whole f (text s) h = refl
member_whole f (list ps) h = cc
member_whole f (dict es) h = cc

mutual
  pub written-whole : (f : Format) (k : ℕ) (p : Plain) → has_refused p ≡ false → written f k p ≡ whole (text_at f k p)
  written-whole f k null h = refl
  written-whole f k (bool b) h = refl
  written-whole f k (int z) h = refl
  written-whole f k (text s) h = refl
  written-whole f k (list no_items) h = refl
  written-whole f k (list (item p ps)) h =
      ap (λ v. behind (whole (opening f (k + 2) 91)) (behind v (behind (items_written f (k + 2) ps) (whole (closing f k 93)))))
      (written-whole f (k + 2) p (or_left (has_refused p) (items_refused ps) h))
      ∙ ap (λ v. behind (whole (opening f (k + 2) 91)) (behind (whole (text_at f (k + 2) p)) (behind v (whole (closing f k 93)))))
      (items-whole f (k + 2) ps (or_right (has_refused p) (items_refused ps) h))
  written-whole f k (dict no_entries) h = refl
  written-whole f k (dict (entry key p es)) h =
      let value = or_right (is_refused key) (has_refused p || entries_refused es) h in
      ap (λ v. behind (whole (opening f (k + 2) 123)) (behind (behind v (written f (k + 2) p)) (behind (entries_written f (k + 2) es) (whole (closing f k 125)))))
      (member_whole f key (or_left (is_refused key) (has_refused p || entries_refused es) h))
      ∙ ap (λ v. behind (whole (opening f (k + 2) 123)) (behind (behind (whole (member_text f key)) v) (behind (entries_written f (k + 2) es) (whole (closing f k 125)))))
      (written-whole f (k + 2) p (or_left (has_refused p) (entries_refused es) value))
      ∙ ap (λ v. behind (whole (opening f (k + 2) 123)) (behind (whole (member_text f key ++ text_at f (k + 2) p)) (behind v (whole (closing f k 125)))))
      (entries-whole f (k + 2) es (or_right (has_refused p) (entries_refused es) value))

  items-whole : (f : Format) (k : ℕ) (ps : Plains) → items_refused ps ≡ false → items_written f k ps ≡ whole (items_at f k ps)
  items-whole f k no_items h = refl
  items-whole f k (item p ps) h =
      ap (λ v. behind (behind (whole (comma f k)) v) (items_written f k ps)) (written-whole f k p (or_left (has_refused p) (items_refused ps) h))
      ∙ ap (λ v. behind (whole (comma f k ++ text_at f k p)) v) (items-whole f k ps (or_right (has_refused p) (items_refused ps) h))

  entries-whole : (f : Format) (k : ℕ) (es : Entries) → entries_refused es ≡ false → entries_written f k es ≡ whole (entries_at f k es)
  entries-whole f k no_entries h = refl
  entries-whole f k (entry key p es) h =
      let value = or_right (is_refused key) (has_refused p || entries_refused es) h in
      ap (λ v. behind (behind (whole (comma f k)) (behind v (written f k p))) (entries_written f k es))
      (member_whole f key (or_left (is_refused key) (has_refused p || entries_refused es) h))
      ∙ ap (λ v. behind (behind (whole (comma f k)) (behind (whole (member_text f key)) v)) (entries_written f k es))
      (written-whole f k p (or_left (has_refused p) (entries_refused es) value))
      ∙ ap (λ v. behind (whole (comma f k ++ (member_text f key ++ text_at f k p))) v)
      (entries-whole f k es (or_right (has_refused p) (entries_refused es) value))

-- A tree against a file that was saved for another.
use Rattle.snap_assert.proofs.Prelude.{◌≡◌, ◌↔◌, inl, refl, ℕ, Bool, true, List, [], ◌∷◌, ◌++◌, Option, sym, ap, ◌∙◌, Plain, dict, Blocks, off, is_trimmed, text_of, IsWithin, without_breaks, without_fence, legacy, normal, body_of, file_of, BodyAgrees, BodyMatches, HasTextHeader, HasHeader, HeaderGives, MatchesAll, Meta, IsSavedFor}
use Rattle.snap_emit.proofs.OneText.{texts_same}
use Rattle.snap_text.proofs.NormalForms.{normal-printed}
use Rattle.snap_text.proofs.OlderForms.{legacy-printed}
use Rattle.snap_assert.proofs.Below.{splits-file_of, normal-ended}
use Rattle.snap_store.proofs.Readings.{one_text}
use Rattle.snap_store.specs.Fields.{fields}
use Rattle.snap_store.specs.declared.metadata.SnapshotKind.TheVariants as kind
use Rattle.snap_assert.specs.Default.{SameMeta}

-- two printed trees with one older form are one tree
pub forms_same : (w : Blocks) (a b : Plain) → is_trimmed w ≡ true → IsWithin a → IsWithin b → legacy (text_of w a) ≡ legacy (text_of w b) → a ≡ b
forms_same w a b t h k e =
    let normals : normal (text_of w a) ≡ normal (text_of w b) = sym (legacy-printed w a t h) ∙ e ∙ legacy-printed w b t k in
    texts_same w w a b h k (sym (normal-printed w a t h) ∙ ap (λ n. n ++ 10 ∷ []) normals ∙ normal-printed w b t k)

-- the older form is that of the normal form
by_normal : (a b : List ℕ) → normal a ≡ normal b → legacy a ≡ legacy b
by_normal a b e = ap (λ n. without_fence (without_breaks n)) e

-- the body of a saved file has the normal form of the tree's text
body_normal : (file : Option (List ℕ)) (w : Blocks) (q : Plain) (s : IsSavedFor file w q) → normal (body_of (file_of (dict s.entries) w q)) ≡ normal (text_of w q)
body_normal file w q s =
    let d = dict s.entries in
    sym (normal-ended (body_of (file_of d w q))) ∙ ap normal (splits-file_of d w q s.header s.within).body_is

saved_head : (file : Option (List ℕ)) (w : Blocks) (q : Plain) (s : IsSavedFor file w q) → HasHeader (file_of (dict s.entries) w q) (dict s.entries)
saved_head file w q s = record {
  headed = (splits-file_of (dict s.entries) w q s.header s.within).headed;
  within = s.header;
  header = inl (record { blocks = off; text_is = (splits-file_of (dict s.entries) w q s.header s.within).header_is });
}

pub saved_header : (file : Option (List ℕ)) (w : Blocks) (q : Plain) → IsSavedFor file w q → HasTextHeader file
saved_header file w q s = record {
  whole = file_of (dict s.entries) w q;
  there = s.there;
  entries = s.entries;
  header = saved_head file w q s;
  not_binary = s.not_binary;
}

pub saved_body : (file : Option (List ℕ)) (w : Blocks) (q tree : Plain) → IsSavedFor file w q → q ≡ tree → BodyAgrees file (text_of w tree)
saved_body file w q tree s e = record {
  whole = file_of (dict s.entries) w q;
  there = s.there;
  same = by_normal (body_of (file_of (dict s.entries) w q)) (text_of w q) (body_normal file w q s) ∙ ap (λ t. legacy (text_of w t)) e;
}

pub saved_tree : (file : Option (List ℕ)) (w : Blocks) (q tree : Plain) → is_trimmed w ≡ true → IsSavedFor file w q → IsWithin tree → BodyAgrees file (text_of w tree) → q ≡ tree
saved_tree file w q tree t s h b =
    let whole = one_text file b.whole (file_of (dict s.entries) w q) b.there s.there in
    forms_same w q tree t s.within h
    (sym (by_normal (body_of (file_of (dict s.entries) w q)) (text_of w q) (body_normal file w q s)) ∙ ap (λ x. legacy (body_of x)) (sym whole) ∙ b.same)

-- what a pass says and where it must come decide it against a saved file
pub against_saved : (passed : Bool) (file : Option (List ℕ)) (w : Blocks) (tree : Plain) → is_trimmed w ≡ true
    → (passed ≡ true → BodyAgrees file (text_of w tree)) → (HasTextHeader file → BodyAgrees file (text_of w tree) → passed ≡ true)
    → (q : Plain) → IsSavedFor file w q → IsWithin tree → (passed ≡ true) ↔ (q ≡ tree)
against_saved passed file w tree t agrees headed q s h =
    (λ p. saved_tree file w q tree t s h (agrees p), λ e. headed (saved_header file w q s) (saved_body file w q tree s e))

-- what its header gives
saved_gives : (file : Option (List ℕ)) (w : Blocks) (q : Plain) (s : IsSavedFor file w q) → HeaderGives file (fields s.entries kind.Text)
saved_gives file w q s = record {
  whole = file_of (dict s.entries) w q;
  there = s.there;
  entries = s.entries;
  header = saved_head file w q s;
  not_binary = s.not_binary;
  told_is = refl;
}

saved_matches : (file : Option (List ℕ)) (w : Blocks) (q tree : Plain) → IsSavedFor file w q → q ≡ tree → BodyMatches file (text_of w tree)
saved_matches file w q tree s e =
    record { whole = file_of (dict s.entries) w q; there = s.there; same = body_normal file w q s ∙ ap (λ t. normal (text_of w t)) e }

-- where a full pass must come decides it against a saved file
pub fully_saved : (passed : Bool) (file : Option (List ℕ)) (meta : Meta) (w : Blocks) (tree : Plain) → is_trimmed w ≡ true
    → ((told : Meta) → HeaderGives file told → (passed ≡ true) ↔ MatchesAll file told meta (text_of w tree))
    → (q : Plain) (s : IsSavedFor file w q) → IsWithin tree → (passed ≡ true) ↔ ((q ≡ tree) × SameMeta (fields s.entries kind.Text) meta)
fully_saved passed file meta w tree t headed q s h =
    let decides = headed (fields s.entries kind.Text) (saved_gives file w q s) in (
      λ yes.
          let m = decides.0 yes in
          let agrees : BodyAgrees file (text_of w tree) = record { whole = m.body.whole; there = m.body.there; same = by_normal (body_of m.body.whole) (text_of w tree) m.body.same } in
          (saved_tree file w q tree t s h agrees, m.metadata),
      λ both. decides.1 (record { body = saved_matches file w q tree s both.0; metadata = both.1 }),
    )

-- What the contents of a file that was read say of a text that they match.
use Rattle.snap_assert.proofs.Prelude.{◌≡◌, ℕ, true, false, List, sym, ap, ◌∙◌, subst, inl, inr, raw_of, kind_of, compared_as, TextSnapshotKind, File, normal, Meta, Agree, HoldsBody, SnapshotContents, Text, Binary, SnapshotKind, OlderPair}
use Rattle.snap_store.specs.declared.metadata.SnapshotKind.TheVariants as kind
use Rattle.snap_assert.specs.Default.{SameMeta, MetaCounts, MatchFully}
use Rattle.snap_assert.specs.Subjects.{file_text}

-- what is compared of a file's text
held_text : (k : TextSnapshotKind) (raw body : List ℕ) → raw ≡ body → k ≡ File → compared_as k raw ≡ body
held_text k raw body is file = ap (λ x. compared_as x raw) file ∙ is

-- a full match tells of the body and of the metadata
pub full_held : (k : SnapshotKind) (body printed : List ℕ) (old : SnapshotContents) (meta new : Meta) → HoldsBody k body old → MatchFully old (file_text printed) meta new
    → (normal body ≡ normal printed) × SameMeta meta new
full_held kind.Text body printed (Text held) meta new h m =
    (ap normal (sym (held_text (kind_of held) (raw_of held) body h.0 h.1)) ∙ m.0, subst (λ x. MetaCounts x meta new) h.1 m.1)
full_held kind.Text body printed (Binary payload) meta new h m = absurd h
full_held (kind.Binary extension) body printed (Text held) meta new h m = absurd h
full_held (kind.Binary extension) body printed (Binary payload) meta new h m = absurd m.0

pub held_full : (body printed : List ℕ) (old : SnapshotContents) (meta new : Meta) → HoldsBody kind.Text body old → normal body ≡ normal printed → SameMeta meta new
    → MatchFully old (file_text printed) meta new
held_full body printed (Text held) meta new h e s =
    (ap normal (held_text (kind_of held) (raw_of held) body h.0 h.1) ∙ e, subst (λ x. MetaCounts x meta new) (sym h.1) s)
held_full body printed (Binary payload) meta new h e s = absurd h

pub full_binary : (k : SnapshotKind) (body printed : List ℕ) (old : SnapshotContents) (meta new : Meta) (extension : List ℕ) → k ≡ kind.Binary extension → HoldsBody k body old
    → MatchFully old (file_text printed) meta new → ⊥
full_binary kind.Text body printed old meta new extension e h m = cc e
full_binary (kind.Binary x) body printed (Text held) meta new extension e h m = h
full_binary (kind.Binary x) body printed (Binary payload) meta new extension e h m = m.0

-- of texts that match fully the contents agree
pub full_agrees : (old : SnapshotContents) (printed : List ℕ) (meta new : Meta) → MatchFully old (file_text printed) meta new → Agree old (file_text printed)
full_agrees (Text held) printed meta new m = inl m.0
full_agrees (Binary payload) printed meta new m = absurd m.0

-- contents that agree, and not by the older form alone, match
pub pass_matches : (k : SnapshotKind) (body printed : List ℕ) (old : SnapshotContents) → HoldsBody k body old → Agree old (file_text printed) → OlderPair false old (file_text printed)
    → normal body ≡ normal printed
pass_matches kind.Text body printed (Text held) h (inl e) o = ap normal (sym (held_text (kind_of held) (raw_of held) body h.0 h.1)) ∙ e
pass_matches kind.Text body printed (Text held) h (inr e) o = ap normal (sym (held_text (kind_of held) (raw_of held) body h.0 h.1)) ∙ o e
pass_matches kind.Text body printed (Binary payload) h a o = absurd h
pass_matches (kind.Binary extension) body printed (Text held) h a o = absurd h
pass_matches (kind.Binary extension) body printed (Binary payload) h a o = absurd a

pub pass_differs : (k : SnapshotKind) (body printed : List ℕ) (old : SnapshotContents) → HoldsBody k body old → OlderPair true old (file_text printed) → normal body ≡ normal printed → ⊥
pass_differs kind.Text body printed (Text held) h o n = o.0 (ap normal (held_text (kind_of held) (raw_of held) body h.0 h.1) ∙ n)
pass_differs kind.Text body printed (Binary payload) h o n = h
pass_differs (kind.Binary extension) body printed (Text held) h o n = h
pass_differs (kind.Binary extension) body printed (Binary payload) h o n = cc o

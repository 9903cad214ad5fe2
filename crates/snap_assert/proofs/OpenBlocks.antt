-- What open blocks of duplicates do to an assertion.
use Rattle.snap_assert.proofs.Prelude.{◌≡◌, ◌↔◌, IsTrue, ℕ, Bool, true, false, cond, List, [], ◌∷◌, Option, None, Some, Ok, Err, refl, sym, ap, ◌∙◌, false_from_ne_true, bytes_eq-Decides, some_same, normal_of, legacy_of, bytes_eq, Agree, SnapshotContents, Text, Binary, SessionView}
use Rattle.std.specs.Bool.{Decides}
use Rattle.std.specs.BTreeMap.{insert_entry, is_at}
use Rattle.std.specs.Map.{lookup}
use Rattle.std.proofs.lemmas.Bool.Decides.{Decides-or}
use Rattle.snap_assert.specs.Session.{Block, block_cmp, is_filled, is_open, kept_in, put_in}
use Rattle.snap_assert.specs.Blocks.{same_payload, do_agree, parts_of, keep_by, keep_step}
use Rattle.snap_assert.specs.declared.error.DuplicateKey.{DuplicateKey}
use Rattle.snap_assert.specs.declared.error.AssertError.TheVariants.{DuplicateDiffers}

payloads : (a b : Option (List ℕ)) → Decides (same_payload a b) (a ≡ b)
payloads None None = (λ e. refl, λ h. refl)
payloads None (Some b) = (λ e. cc, λ h. cc)
payloads (Some a) None = (λ e. cc, λ h. cc)
payloads (Some a) (Some b) = (λ e. ap Some ((bytes_eq-Decides a b).0 e), λ h. (bytes_eq-Decides a b).1 (some_same a b h))

agreement : (a b : SnapshotContents) → Decides (do_agree a b) (Agree a b)
agreement (Text a) (Text b) =
    Decides-or (bytes_eq (normal_of a) (normal_of b)) (bytes_eq (legacy_of a) (legacy_of b)) (bytes_eq-Decides (normal_of a) (normal_of b)) (bytes_eq-Decides (legacy_of a) (legacy_of b))
agreement (Text a) (Binary b) = (λ e. cc, λ h. absurd h)
agreement (Binary a) (Text b) = (λ e. cc, λ h. absurd h)
agreement (Binary a) (Binary b) = payloads a b

decided : {P : Type 0} → (same does : Bool) → IsTrue same ↔ P → Decides does P → same ≡ does
decided true does tells d = sym (d.1 (tells.0 refl))
decided false true tells d = absurd (let t : IsTrue false = tells.1 (d.0 refl) in cc t)
decided false false tells d = refl

-- what the code finds is what the definition says
pub agrees_as : (a b : SnapshotContents) (same : Bool) → IsTrue same ↔ Agree a b → same ≡ do_agree a b
agrees_as a b same tells = decided same (do_agree a b) tells (agreement a b)

unfilled : (key : DuplicateKey) (new : SnapshotContents) (s : SessionView) (blocks : List Block) → s.blocks ≡ blocks → is_filled blocks ≡ false → keep_step key new s ≡ Ok s
unfilled key new s [] is none =
    ap (λ found. keep_by key new s found) (ap (kept_in (parts_of key)) is) ∙ ap (λ bs. Ok (record s { blocks = bs })) (ap (put_in (parts_of key) new) is ∙ sym is)
unfilled key new s (block ∷ outer) is none = absurd (cc)

-- where no block is open nothing is kept
pub unopened : (key : DuplicateKey) (new : SnapshotContents) (s : SessionView) → is_open s ≡ false → keep_step key new s ≡ Ok s
unopened key new s none = unfilled key new s s.blocks refl none

pub none_open : (key : DuplicateKey) (new : SnapshotContents) (s : SessionView) → s.blocks ≡ [] → keep_step key new s ≡ Ok s
none_open key new s none = unfilled key new s [] none refl

by_kept : (key : DuplicateKey) (new : SnapshotContents) (s : SessionView) (block : Block) (outer : List Block) (found : Option SnapshotContents)
    → s.blocks ≡ block ∷ outer → lookup (is_at (block_cmp (parts_of key))) block ≡ found → keep_step key new s ≡ keep_by key new s found
by_kept key new s block outer found is kept = ap (λ held. keep_by key new s held) (ap (kept_in (parts_of key)) is ∙ kept)

pub first_kept : (key : DuplicateKey) (new : SnapshotContents) (s : SessionView) (block : Block) (outer : List Block)
    → s.blocks ≡ block ∷ outer → lookup (is_at (block_cmp (parts_of key))) block ≡ None
    → keep_step key new s ≡ Ok (record s { blocks = insert_entry block_cmp block (parts_of key) new ∷ outer })
first_kept key new s block outer is none =
    by_kept key new s block outer None is none ∙ ap (λ bs. Ok (record s { blocks = bs })) (ap (put_in (parts_of key) new) is)

pub agreeing : (key : DuplicateKey) (new : SnapshotContents) (s : SessionView) (block : Block) (outer : List Block) (old : SnapshotContents)
    → s.blocks ≡ block ∷ outer → lookup (is_at (block_cmp (parts_of key))) block ≡ Some old → Agree old new → keep_step key new s ≡ Ok s
agreeing key new s block outer old is kept agree =
    by_kept key new s block outer (Some old) is kept ∙ ap (λ b. cond b (Ok s) (Err (DuplicateDiffers key old new))) ((agreement old new).1 agree)

pub differing : (key : DuplicateKey) (new : SnapshotContents) (s : SessionView) (block : Block) (outer : List Block) (old : SnapshotContents)
    → s.blocks ≡ block ∷ outer → lookup (is_at (block_cmp (parts_of key))) block ≡ Some old → (Agree old new → ⊥) → keep_step key new s ≡ Err (DuplicateDiffers key old new)
differing key new s block outer old is kept other =
    by_kept key new s block outer (Some old) is kept
    ∙ ap (λ b. cond b (Ok s) (Err (DuplicateDiffers key old new))) (false_from_ne_true (do_agree old new) (λ e. other ((agreement old new).0 e)))

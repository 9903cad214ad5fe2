-- A value that is read as a text is one, since no number that a reader makes is.
use Rattle.snap_pending.proofs.Prelude.{◌≡◌, ℕ, ◌^◌, ℤ, pos, negsuc, Bool, true, false, cond, nat_lt, List, Option, None, Some, Ok, refl, sym, ◌∙◌, subst, Plain, null, bool, int, text, list, dict, i64, u64, u128, text_value, SnapshotContents, HoldsText}
use Rattle.snap_content.specs.Plain.{number_tree}
use Rattle.snap_content.specs.Tree.{i128}
use Rattle.snap_fields.specs.Fields.{tree_text}
use Rattle.snap_pending.specs.Parts.{ContentsEnd}

natural : (small middle : Bool) (n : ℕ) → tree_text (cond small (i64 (pos n)) (cond middle (u64 n) (u128 n))) ≡ None
natural true middle n = refl
natural false true n = refl
natural false false n = refl

negative : (small : Bool) (n : ℕ) → tree_text (cond small (i64 (negsuc n)) (i128 (negsuc n))) ≡ None
negative true n = refl
negative false n = refl

no_text : (z : ℤ) → tree_text (number_tree z) ≡ None
no_text (pos n) = natural (nat_lt n (2 ^ 63)) (nat_lt n (2 ^ 64)) n
no_text (negsuc n) = negative (nat_lt n (2 ^ 63)) n

clash : {A : Type 0} (s : List ℕ) → None ≡ Some s → A
clash s e = absurd (cc)

text_is : (value : Plain) (s : List ℕ) → text_value (Some value) ≡ Some s → value ≡ text s
text_is (text own) s e = cc
text_is null s e = clash s e
text_is (bool b) s e = clash s e
text_is (int z) s e = clash s (sym (no_text z) ∙ e)
text_is (list items) s e = clash s e
text_is (dict held) s e = clash s e

-- the contents hold the text of the field
pub contents_told : (o : Option Plain) (shown raw : List ℕ) (held : SnapshotContents) → Some shown ≡ text_value o → raw ≡ shown → HoldsText raw held → ContentsEnd o (Ok (Some held))
contents_told None shown raw held e same h = clash shown (sym e)
contents_told (Some value) shown raw held e same h =
    let P : List ℕ → Type 0 = λ s. HoldsText s held in
    record { raw = shown; value_is = text_is value shown (sym e); holds = subst P same h }

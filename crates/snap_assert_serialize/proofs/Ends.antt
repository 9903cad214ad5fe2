-- What is said of the text of a printed tree is said of the whole call.
use Rattle.std.proofs.Common.{◌≡◌, ℕ, Bool, true, false, List, Result, Ok, Err, IfOk, OnOk, IsErrOf, refl}
use Rattle.snap_content.specs.Tree.{Tree}
use Rattle.snap_json.specs.declared.error.JsonError.{JsonError}
use Rattle.snap_json.specs.declared.error.JsonError.TheVariants.{JsonKey, OutOfMemory}
use Rattle.snap_assert_serialize.specs.Serialized.{text_in, refuses, SerializedEnd}
use Rattle.snap_assert_serialize.specs.declared.format.SerializationFormat.{SerializationFormat}

pub ended : (format : SerializationFormat) (literal : Bool) (may : Tree → Type 0) (t : Tree) (result : Result (List ℕ) JsonError) → may t
    → IfOk result (λ text. text ≡ text_in format literal t) → OnOk result (refuses format t ≡ false) → (IsErrOf result JsonKey → refuses format t ≡ true)
    → SerializedEnd format literal may result
ended format literal may t (Ok text) printed is accepted refused = record { out = t; printed = printed; text_is = is; accepted = accepted }
ended format literal may t (Err JsonKey) printed is accepted refused = record { out = t; printed = printed; refused = refused refl }
ended format literal may t (Err OutOfMemory) printed is accepted refused = tt

-- what may be printed by one rule, may be by a weaker one
pub weaker_end : (format : SerializationFormat) (literal : Bool) (may might : Tree → Type 0) (result : Result (List ℕ) JsonError) → ((t : Tree) → may t → might t)
    → SerializedEnd format literal may result → SerializedEnd format literal might result
weaker_end format literal may might (Ok text) f h = record { out = h.out; printed = f h.out h.printed; text_is = h.text_is; accepted = h.accepted }
weaker_end format literal may might (Err JsonKey) f h = record { out = h.out; printed = f h.out h.printed; refused = h.refused }
weaker_end format literal may might (Err OutOfMemory) f h = tt

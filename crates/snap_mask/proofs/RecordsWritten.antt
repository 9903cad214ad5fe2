-- The record of one line, written, or a part of it.
use Rattle.snap_mask.proofs.Prelude.{◌≡◌, ◌==◌, ℕ, Bool, true, false, length, ap, List, [], ◌∷◌, ◌++◌, Option, Some, refl, sym, ◌∙◌, append-nil, encode_utf8_all, HoldsFront, ReplacementView, IsRecordOf, RefusesFor, RefusesRecord, stop_for, Masks, IsWritten, IsBegun}
use Rattle.snap_mask.specs.declared.record.RecordError.{RecordError}
use Rattle.snap_mask.specs.declared.record.RecordError.TheVariants.{BadLine, FloatLine, JsonKey, OutOfMemory}

pub filled_line : (line : List ℕ) (empty : Bool) → empty ≡ (length line == 0) → empty ≡ false → line ≡ [] → ⊥
filled_line line empty is other e = let clash : true ≡ false = sym (ap (λ l. length l == 0) e) ∙ sym is ∙ other in cc

-- a line that isn't empty and its record, with a line's end
masks_one : (rules : List ReplacementView) (line given bytes : List ℕ) → (line ≡ [] → ⊥) → IsRecordOf rules line given → bytes ≡ encode_utf8_all (given ++ 10 ∷ [])
    → Masks rules (line ∷ []) bytes
masks_one rules [] given bytes filled made is = absurd (filled refl)
masks_one rules (c ∷ cs) given bytes filled made is = (given, [], made, is ∙ sym (append-nil (encode_utf8_all (given ++ 10 ∷ []))), refl)

pub record_written : (rules : List ReplacementView) (line given bytes w : List ℕ) (now : Option (List ℕ)) → (line ≡ [] → ⊥) → IsRecordOf rules line given
    → bytes ≡ encode_utf8_all (given ++ 10 ∷ []) → now ≡ Some (w ++ bytes) → IsWritten rules (line ∷ []) w now
record_written rules line given bytes w now filled made is told = record { out = bytes; masks = masks_one rules line given bytes filled made is; told = told }

pub record_begun : (rules : List ReplacementView) (line given bytes w : List ℕ) (now : Option (List ℕ)) → (line ≡ [] → ⊥) → IsRecordOf rules line given
    → bytes ≡ encode_utf8_all (given ++ 10 ∷ []) → HoldsFront bytes w now → IsBegun rules (line ∷ []) w now
record_begun rules line given bytes w now filled made is part = record { out = bytes; masks = masks_one rules line given bytes filled made is; part = part }

pub refuses_record : (rules : List ReplacementView) (why : RecordError) (line : List ℕ) → (line ≡ [] → ⊥) → RefusesFor rules why line → RefusesRecord rules (stop_for why) line
refuses_record rules BadLine line filled h = record { filled = filled; refused = h }
refuses_record rules FloatLine line filled h = record { filled = filled; refused = h }
refuses_record rules JsonKey line filled h = record { filled = filled; refused = h }
refuses_record rules OutOfMemory line filled h = tt

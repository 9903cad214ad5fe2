-- By the words, and by an input of JSON lines within the limits, without faults.
use Rattle.snap_mask.proofs.Prelude.{◌≡◌, ℕ, ◌+◌, ◌≤◌, List, [], ◌∷◌, ◌++◌, Option, Some, length, refl, ap, subst, inl, inr, arith, length-append, lines, input_limit, ReplacementView, RefusesFor, IsNoJsonLine, StopsAt, IsTooLong, Leaves, Gave, is_input_too_long, LengthIs, LengthCause, rules_in}
use Rattle.snap_io.specs.Causes.{CountedIf, Rose}
use Rattle.snap_mask.specs.Masked.{says_read_fault, says_write_fault}
use Rattle.snap_mask.specs.Program.{RulesCause, IsTold, AreJson, IsProper, IsSteady, EndsWell}
use Rattle.snap_mask.specs.declared.record.RecordError.{RecordError}
use Rattle.snap_mask.specs.declared.record.RecordError.TheVariants as error
use Rattle.snap_mask.specs.declared.status.MaskStatus.{MaskStatus}
use Rattle.snap_mask.specs.declared.status.MaskStatus.TheVariants.{Done, BadWords, BadLine, FloatLine, LineTooLong, ReadFault, WriteFault, OutOfMemory, JsonKey, InputTooLong}

pub rules_cause : (words : List (List ℕ)) (rules : List ReplacementView) (status : MaskStatus) → rules_in words ≡ Some rules → (status ≡ BadWords → ⊥) → RulesCause words status
rules_cause words rules Done is other = (rules, is)
rules_cause words rules BadWords is other = absurd (other refl)
rules_cause words rules (BadLine n) is other = (rules, is)
rules_cause words rules (FloatLine n) is other = (rules, is)
rules_cause words rules (LineTooLong n) is other = (rules, is)
rules_cause words rules ReadFault is other = (rules, is)
rules_cause words rules WriteFault is other = (rules, is)
rules_cause words rules OutOfMemory is other = tt
rules_cause words rules (JsonKey n) is other = (rules, is)
rules_cause words rules InputTooLong is other = (rules, is)

-- where a text is told nothing is read
told_length : (text : List ℕ) (status : MaskStatus) (written written' : Option (List ℕ)) → IsTold text status written written' → LengthIs (is_input_too_long status) 0
told_length text Done written written' told = omega arith
told_length text BadWords written written' told = absurd told
told_length text (BadLine n) written written' told = absurd told
told_length text (FloatLine n) written written' told = absurd told
told_length text (LineTooLong n) written written' told = absurd told
told_length text ReadFault written written' told = absurd told
told_length text WriteFault written written' told = omega arith
told_length text OutOfMemory written written' told = absurd told
told_length text (JsonKey n) written written' told = absurd told
told_length text InputTooLong written written' told = absurd told

pub told_reads_nothing : (text : List ℕ) (status : MaskStatus) (written written' left : Option (List ℕ)) → IsTold text status written written' → LengthCause status left left
told_reads_nothing text status written written' left told = λ input is.
    (0, record { front = []; given = record { rest = input; told = is; whole = refl }; size = refl }, told_length text status written written' told)

-- no line of a proper input is refused
json_among : (before later : List (List ℕ)) (line : List ℕ) → (line ≡ [] → ⊥) → AreJson (before ++ line ∷ later) → IsNoJsonLine line → ⊥
json_among [] later [] filled are refused = filled refl
json_among [] later (c ∷ cs) filled are refused = refused are.0.0 are.0.1
json_among ([] ∷ before) later line filled are refused = json_among before later line filled are refused
json_among ((c ∷ cs) ∷ before) later line filled are refused = json_among before later line filled are.1 refused

refused_line : (rules : List ReplacementView) (why : RecordError) (line : List ℕ) → (why ≡ error.OutOfMemory → ⊥) → RefusesFor rules why line → IsNoJsonLine line
refused_line rules error.BadLine line other h = h
refused_line rules error.FloatLine line other h = h.0
refused_line rules error.JsonKey line other h = h.0
refused_line rules error.OutOfMemory line other h = absurd (other refl)

not_refused : (rules : List ReplacementView) (why : RecordError) (number : ℕ) (input w : List ℕ) (now : Option (List ℕ)) → (why ≡ error.OutOfMemory → ⊥) → IsProper input
    → StopsAt rules why number input w now → ⊥
not_refused rules why number input w now other proper s =
    json_among (lines s.past) s.later s.line s.filled (subst AreJson s.are proper.json) (refused_line rules why s.line other s.refused)

not_long : (rules : List ReplacementView) (number : ℕ) (input w : List ℕ) (now : Option (List ℕ)) → IsProper input → IsTooLong rules number input w now → ⊥
not_long rules number input w now proper l = let short = proper.lines_short l.past l.front l.rest l.is l.unbroken in omega (arith, short, l.long)

no_rise : (before now : ℕ) → IsSteady before now → Rose before now → ⊥
no_rise before now steady rose = omega (arith, steady.same, steady.below_last, rose.rose)

within_limit : (count : ℕ) (input : List ℕ) (left : Option (List ℕ)) → length input ≤ input_limit → Gave count input left → count ≡ input_limit + 1 → ⊥
within_limit count input left short gave over = omega (arith, short, over, gave.size, ap length gave.given.whole, length-append gave.front gave.given.rest)

pub ends_well : (status : MaskStatus) (rules : List ReplacementView) (input w : List ℕ) (left left' now : Option (List ℕ)) (before after before' after' : ℕ) → IsProper input → left ≡ Some input
    → Leaves rules status input w now → LengthCause status left left' → CountedIf (says_read_fault status) before after → IsSteady before after
    → CountedIf (says_write_fault status) before' after' → IsSteady before' after' → EndsWell status
ends_well Done rules input w left left' now b a b' a' proper is leaves len read steady write steady' = inl refl
ends_well BadWords rules input w left left' now b a b' a' proper is leaves len read steady write steady' = absurd leaves
ends_well (BadLine n) rules input w left left' now b a b' a' proper is leaves len read steady write steady' =
    absurd (not_refused rules error.BadLine n input w now (λ e. cc) proper leaves)
ends_well (FloatLine n) rules input w left left' now b a b' a' proper is leaves len read steady write steady' =
    absurd (not_refused rules error.FloatLine n input w now (λ e. cc) proper leaves)
ends_well (LineTooLong n) rules input w left left' now b a b' a' proper is leaves len read steady write steady' = absurd (not_long rules n input w now proper leaves)
ends_well ReadFault rules input w left left' now b a b' a' proper is leaves len read steady write steady' = absurd (no_rise b a steady read)
ends_well WriteFault rules input w left left' now b a b' a' proper is leaves len read steady write steady' = absurd (no_rise b' a' steady' write)
ends_well OutOfMemory rules input w left left' now b a b' a' proper is leaves len read steady write steady' = inr refl
ends_well (JsonKey n) rules input w left left' now b a b' a' proper is leaves len read steady write steady' =
    absurd (not_refused rules error.JsonKey n input w now (λ e. cc) proper leaves)
ends_well InputTooLong rules input w left left' now b a b' a' proper is leaves len read steady write steady' =
    let gave = len input is in absurd (within_limit gave.0 input left' proper.short gave.1 gave.2)

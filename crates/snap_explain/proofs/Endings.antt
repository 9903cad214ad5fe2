-- How a run ends, once its lines have.
use Rattle.snap_explain.proofs.Prelude.{◌≡◌, ◌⊎◌, ℕ, suc, ◌+◌, ◌<◌, List, [], ◌∷◌, ◌++◌, Option, None, Some, Ok, Err, length, refl, sym, ap, ◌∙◌, append_assoc, append-nil, arith, subst, inl, inr, Bool, true, false, cond, lines, HoldsFront, input_limit, SpendsOf, BudgetEnd, LineError, Fault, LineTooLong, InputTooLong, OutOfMemory, ReplacementView, LengthIs, Gave, MaskLength, status_of, finding_text, short_start, at_start, SaidWithin, SaidLong, Leaves, LeavesOf, run_at, run_of, SaidBefore, RunLength, SayError}
use Rattle.snap_explain.specs.declared.saying.SayError.TheVariants as say
use Rattle.std.specs.Prelude.{codes}
use Rattle.std.specs.Str.{bytes_eq}
use Rattle.snap_mask.specs.Rules.{AreMasking, rules_in}
use Rattle.snap_mask.proofs.KeptKeys.{masking}
use Rattle.snap_mask.proofs.Runs.{length_done, length_error}
use Rattle.snap_explain.proofs.Turns.{all_held, held_after}
use Rattle.snap_explain.specs.Program.{RulesCause, IsTold, mask_rules}
use Rattle.snap_explain.specs.Findings.{LengthCause, is_input_too_long}
use Rattle.snap_explain.specs.declared.fault.LineFault.TheVariants.{TooLong}
use Rattle.snap_explain.specs.declared.status.ExplainStatus.{ExplainStatus}
use Rattle.snap_explain.specs.declared.status.ExplainStatus.TheVariants as status

-- how much was read
pub run_length : (T : Type 0) (error : LineError) (number b : ℕ) (left left' : Option (List ℕ)) → BudgetEnd {T = T} (Err error) b → SpendsOf (input_limit + 1) b left left'
    → RunLength (run_at error number) left left'
run_length T Fault number b left left' h s = length_error T Fault number b left left' h s
run_length T LineTooLong number b left left' h s = length_error T LineTooLong number b left left' h s
run_length T InputTooLong number b left left' h s = length_error T InputTooLong number b left left' h s
run_length T OutOfMemory number b left left' h s = length_error T OutOfMemory number b left left' h s

pub run_length_stop : (error : SayError) (b : ℕ) (left left' : Option (List ℕ)) → 0 < b → SpendsOf (input_limit + 1) b left left' → RunLength (run_of error) left left'
run_length_stop say.WriteFault b left left' some s = length_done b left left' some s false refl
run_length_stop say.OutOfMemory b left left' some s = length_done b left left' some s false refl

pub length_as : (ended : ExplainStatus) (long : Bool) (left left' : Option (List ℕ)) → is_input_too_long ended ≡ long
    → ((input : List ℕ) → left ≡ Some input → (count : ℕ) × Gave count input left' × LengthIs long count) → LengthCause ended left left'
length_as ended long left left' is h = λ input told. let k = h input told in (k.0, k.1, subst (λ test. LengthIs test k.0) (sym is) k.2)

-- of the line that is too long it is said that it is, or a part of that, or nothing
pub long_said : (rules : List ReplacementView) (number : ℕ) (input w : List ℕ) (now now' : Option (List ℕ)) → (s : SaidBefore rules number input w now)
    → ((v : List ℕ) → now ≡ Some v → now' ≡ Some (v ++ finding_text number TooLong)) → SaidLong (λ text. now' ≡ Some (w ++ text)) rules input
long_said rules number input w now now' s r = record {
  past = s.past;
  out = s.out;
  long = s.long;
  says = s.says;
  written = r (w ++ s.out) s.told ∙ ap Some (append_assoc w s.out (finding_text number TooLong)) ∙ ap (λ n. Some (w ++ (s.out ++ finding_text n TooLong))) s.number_is;
}

pub long_begun : (rules : List ReplacementView) (number : ℕ) (input w : List ℕ) (now now' : Option (List ℕ)) → (s : SaidBefore rules number input w now)
    → ((v : List ℕ) → now ≡ Some v → HoldsFront (finding_text number TooLong) v now') → SaidLong (λ text. HoldsFront text w now') rules input
long_begun rules number input w now now' s r = record {
  past = s.past;
  out = s.out;
  long = s.long;
  says = s.says;
  written = subst (λ n. HoldsFront (s.out ++ finding_text n TooLong) w now') s.number_is (held_after s.out (finding_text number TooLong) w now' (r (w ++ s.out) s.told));
}

pub long_unsaid : (rules : List ReplacementView) (number : ℕ) (input w : List ℕ) (now now' : Option (List ℕ)) → (s : SaidBefore rules number input w now)
    → ((v : List ℕ) → now ≡ Some v → now' ≡ Some v) → SaidWithin rules input w now'
long_unsaid rules number input w now now' s r = record {
  past = s.past;
  rest = s.long.front ++ s.long.rest;
  out = s.out;
  is = s.long.is;
  whole = inl s.long.short;
  says = s.says;
  part = all_held s.out w now' (r (w ++ s.out) s.told);
}

-- before anything was read
pub stops_at_start : (rules : List ReplacementView) (input w : List ℕ) (now : Option (List ℕ)) → now ≡ Some w → SaidWithin rules input w now
stops_at_start rules input w now told = record {
  past = [];
  rest = input;
  out = [];
  is = refl;
  whole = inl (short_start [] refl);
  says = at_start rules [] [] refl refl;
  part = all_held [] w now (told ∙ ap Some (sym (append-nil w)));
}

pub rules_cause : (words : List (List ℕ)) (rules : List ReplacementView) (ended : ExplainStatus) → mask_rules words ≡ Some rules → (ended ≡ status.BadWords → ⊥) → RulesCause words ended
rules_cause words rules status.Nothing is other = (rules, is)
rules_cause words rules status.Found is other = (rules, is)
rules_cause words rules status.BadWords is other = absurd (other refl)
rules_cause words rules status.FileFault is other = (rules, is)
rules_cause words rules status.ReadFault is other = (rules, is)
rules_cause words rules status.WriteFault is other = (rules, is)
rules_cause words rules status.OutOfMemory is other = tt
rules_cause words rules status.InputTooLong is other = (rules, is)
rules_cause words rules status.StreamTooLong is other = (rules, is)

-- where a text is told nothing is read
told_length : (text : List ℕ) (ended : ExplainStatus) (written written' : Option (List ℕ)) → IsTold text ended written written' → LengthIs (is_input_too_long ended) 0
told_length text status.Nothing written written' told = omega arith
told_length text status.Found written written' told = absurd told
told_length text status.BadWords written written' told = absurd told
told_length text status.FileFault written written' told = absurd told
told_length text status.ReadFault written written' told = absurd told
told_length text status.WriteFault written written' told = omega arith
told_length text status.OutOfMemory written written' told = absurd told
told_length text status.InputTooLong written written' told = absurd told
told_length text status.StreamTooLong written written' told = absurd told

pub told_reads_nothing : (text : List ℕ) (ended : ExplainStatus) (written written' left : Option (List ℕ)) → IsTold text ended written written' → LengthCause ended left left
told_reads_nothing text ended written written' left told = λ input is.
    (0, record { front = []; given = record { rest = input; told = is; whole = refl }; size = refl }, told_length text ended written written' told)

-- the rules that words spell after the tool's name are such as words spell
pub mask_masking : (words : List (List ℕ)) (rules : List ReplacementView) → mask_rules words ≡ Some rules → AreMasking rules
mask_masking [] rules is = cc
mask_masking (tool ∷ rest) rules is = by (bytes_eq tool (codes "mask")) is
  where
    by : (b : Bool) → cond b (rules_in rest) None ≡ Some rules → AreMasking rules
    by true e = masking rest rules e
    by false e = cc

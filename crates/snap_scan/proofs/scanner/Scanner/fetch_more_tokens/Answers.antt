use Rattle.snap_scan.proofs.Prelude.{◌≡◌, ◌∙◌, subst, sym, chars, before_nul, ScanError, state_of, has_ended, IsFounded, is_start_ahead, Scan, List, None, OutOfMemory, TokenType, Owes}
use Rattle.snap_scan.proofs.Order.{ahead-is, more-ended, whole-sound, whole-open, whole-failed}
use Rattle.snap_scan.proofs.scanner.Scanner.fetch_more_tokens.Goals as goal

pub invariant_of-self : goal.invariant_of-self
invariant_of-self c =
    let is = whole-sound c.self.inside.error _ _ c.in_default.is c.self.invariant.0 in
    (whole-open c.self.inside.error _ _ c.in_default.is (c.in-Ok.ensures.sound _ _ is), c.fetch_more_tokens.ensures.extent ∙ c.self.invariant.1)

pub invariant_of-self-in-Err : goal.invariant_of-self-in-Err
invariant_of-self-in-Err c =
    let is = whole-sound c.self.inside.error _ _ c.in_default.is c.self.invariant.0 in
    (whole-failed c.keep.new.kept _ _ c.in-Err.error c.keep.ensures.kept (c.in-Err.ensures.sound _ _ is), c.fetch_more_tokens.ensures.extent ∙ c.self.invariant.1)

pub returns-in-Ok-clause-order : goal.returns-in-Ok-clause-order
returns-in-Ok-clause-order c =
    let new = state_of c.fetch_more_tokens.new.self in
    let is = whole-sound c.self.inside.error _ _ c.in_default.is c.self.invariant.0 in
    let Q : Scan → Type 0 = λ v. (is_start_ahead new ≡ is_start_ahead v.state) × (has_ended new ≡ has_ended v.state) in
    subst Q c.self.view_is (ahead-is _ new (c.in-Ok.ensures.sound _ _ is), more-ended (state_of c.self.inside.fetcher) new c.in-Ok.ensures.done c.in-Ok.ensures.fresh)

pub returns-in-Err-clause-cause : goal.returns-in-Err-clause-cause
returns-in-Err-clause-cause c =
    let is = whole-sound c.self.inside.error _ _ c.in_default.is c.self.invariant.0 in
    let P : ScanError → Type 0 = IsFounded (before_nul (chars c.self.inside.source.now)) in
    let Q : Scan → Type 0 = λ v. IsFounded v.source c.keep.result in
    subst Q c.self.view_is (subst P (sym c.keep.ensures.result) (c.in-Err.ensures.sound _ _ is))

pub returns-in-Ok-clause-owed : goal.returns-in-Ok-clause-owed
returns-in-Ok-clause-owed c =
    let new = state_of c.fetch_more_tokens.new.self in
    let is = whole-sound c.self.inside.error _ _ c.in_default.is c.self.invariant.0 in
    let Q : Scan → Type 0 = λ v. (ts : List TokenType) → v.error ≡ None → Owes v.state ts → Owes new ts in
    subst Q c.self.view_is (λ ts none o. c.in-Ok.ensures.owed _ _ ts is o)

pub returns-in-Err-clause-owed : goal.returns-in-Err-clause-owed
returns-in-Err-clause-owed c =
    let is = whole-sound c.self.inside.error _ _ c.in_default.is c.self.invariant.0 in
    let Q : Scan → Type 0 = λ v. (ts : List TokenType) → v.error ≡ None → Owes v.state ts → c.keep.result ≡ OutOfMemory in
    subst Q c.self.view_is (λ ts none o. c.keep.ensures.result ∙ c.in-Err.ensures.owed _ _ ts is o)

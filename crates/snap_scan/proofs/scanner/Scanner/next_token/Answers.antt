use Rattle.snap_scan.proofs.Prelude.{◌≡◌, ◌∙◌, subst, sym, Ok, None, List, chars, before_nul, ScanError, OutOfMemory, TokenType, Owes, GivesFirst, state_of, IsFounded, Scan, GivesNext}
use Rattle.snap_scan.proofs.Order.{gives-next, sound-after, whole-sound, whole-open, whole-failed}
use Rattle.snap_scan.proofs.scanner.Scanner.next_token.Goals as goal

pub invariant_of-self : goal.invariant_of-self
invariant_of-self c =
    let is = whole-sound c.self.inside.error _ _ c.in_default.is c.self.invariant.0 in
    (whole-open c.self.inside.error _ _ c.in_default.is (sound-after _ _ c.in-Ok.token _ (c.in-Ok.ensures.sound _ _ is)), c.next_token.ensures.extent ∙ c.self.invariant.1)

pub invariant_of-self-in-Err : goal.invariant_of-self-in-Err
invariant_of-self-in-Err c =
    let is = whole-sound c.self.inside.error _ _ c.in_default.is c.self.invariant.0 in
    (whole-failed c.keep.new.kept _ _ c.in-Err.error c.keep.ensures.kept (c.in-Err.ensures.sound _ _ is), c.next_token.ensures.extent ∙ c.self.invariant.1)

pub returns-in-Ok-clause-next : goal.returns-in-Ok-clause-next
returns-in-Ok-clause-next c =
    let new = state_of c.next_token.new.self in
    let is = whole-sound c.self.inside.error _ _ c.in_default.is c.self.invariant.0 in
    let Q : Scan → Type 0 = λ v. GivesNext v.source (Ok c.in-Ok.token) v.state new in
    subst Q c.self.view_is (gives-next _ c.in-Ok.token _ _ (c.in-Ok.ensures.sound _ _ is))

pub returns-in-Err-clause-cause : goal.returns-in-Err-clause-cause
returns-in-Err-clause-cause c =
    let is = whole-sound c.self.inside.error _ _ c.in_default.is c.self.invariant.0 in
    let P : ScanError → Type 0 = IsFounded (before_nul (chars c.self.inside.source.now)) in
    let Q : Scan → Type 0 = λ v. IsFounded v.source c.keep.result in
    subst Q c.self.view_is (subst P (sym c.keep.ensures.result) (c.in-Err.ensures.sound _ _ is))

pub returns-in-Ok-clause-owed : goal.returns-in-Ok-clause-owed
returns-in-Ok-clause-owed c =
    let new = state_of c.next_token.new.self in
    let is = whole-sound c.self.inside.error _ _ c.in_default.is c.self.invariant.0 in
    let Q : Scan → Type 0 = λ v. (ts : List TokenType) → v.error ≡ None → Owes v.state ts → GivesFirst (Ok c.in-Ok.token) new ts in
    subst Q c.self.view_is (λ ts none o. c.in-Ok.ensures.owed _ _ ts is o)

pub returns-in-Err-clause-owed : goal.returns-in-Err-clause-owed
returns-in-Err-clause-owed c =
    let is = whole-sound c.self.inside.error _ _ c.in_default.is c.self.invariant.0 in
    let Q : Scan → Type 0 = λ v. (ts : List TokenType) → v.error ≡ None → Owes v.state ts → c.keep.result ≡ OutOfMemory in
    subst Q c.self.view_is (λ ts none o. c.keep.ensures.result ∙ c.in-Err.ensures.owed _ _ ts is o)

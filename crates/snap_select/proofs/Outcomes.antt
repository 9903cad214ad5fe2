-- What an outcome says, and what decides it.
use Rattle.snap_select.proofs.Prelude.{◌≡◌, ℕ, suc, ◌+◌, List, [], ◌∷◌, ◌++◌, length, Option, Some, None, refl, ap, subst, same_Some, IsSelector, Parts, Place, before_part, step, ended, flaw, since, Outcome, selects, refuses, at_end, going, stepped, outcome, SelectFault, BadToken}
use Rattle.snap_select.specs.Selected.{parts_in, selected}
use Rattle.snap_select.proofs.Fitting.{Fitting, fitting_leads, fitting_fits, leads_fitting, fit_end}
use Rattle.snap_select.proofs.Places.{end_kept}
use Rattle.snap_select.proofs.Starts.{leads_means, spelled_on}

abbrev pub Stuck : Place → List ℕ → Type 0
Stuck s [] = ended s ≡ None
Stuck s (c ∷ cs) = (step s c ≡ None) × (flaw s c ≡ None)

pub record Selected (s : Place) (text : List ℕ) (parts : Parts) : Type 0 where
  pub to : Place
  pub fitting : Fitting s text to
  pub end : ended to ≡ Some parts

-- a front of the text without a flaw, and where it leads
pub record Clear (s : Place) (text : List ℕ) : Type 0 where
  pub front : List ℕ
  pub back : List ℕ
  pub near : Place
  pub is : text ≡ front ++ back
  pub fitting : Fitting s front near

-- after it no step leads on, or one has a flaw
pub data Refused (s : Place) (text : List ℕ) (kind : SelectFault) (left : ℕ) : Type 0 where
  by_stuck : (h : Clear s text) → BadToken ≡ kind → left ≡ length h.back → Stuck h.near h.back → Refused s text kind left
  by_flaw : (h : Clear s text) (c : ℕ) (rest : List ℕ) → h.back ≡ c ∷ rest → left ≡ since h.near + suc (length rest) → flaw h.near c ≡ Some kind → Refused s text kind left

abbrev pub Why : Place → List ℕ → Outcome → Type 0
Why s text (selects parts) = Selected s text parts
Why s text (refuses kind left) = Refused s text kind left

abbrev none_clear : (s : Place) (text : List ℕ) → Clear s text
none_clear s text = record { front = []; back = text; near = s; is = refl; fitting = refl }

end_why : (s : Place) (o : Option Parts) → ended s ≡ o → Why s [] (at_end o)
end_why s None e = by_stuck (none_clear s []) refl refl e
end_why s (Some parts) e = record { to = s; fitting = refl; end = e }

abbrev more_clear : (s to : Place) (c : ℕ) (cs : List ℕ) → step s c ≡ Some to → flaw s c ≡ None → Clear to cs → Clear s (c ∷ cs)
more_clear s to c cs e f h = record { front = c ∷ h.front; back = h.back; near = h.near; is = ap (λ x. c ∷ x) h.is; fitting = (to, e, f, h.fitting) }

later : (s to : Place) (c : ℕ) (cs : List ℕ) (o : Outcome) → step s c ≡ Some to → flaw s c ≡ None → Why to cs o → Why s (c ∷ cs) o
later s to c cs (selects parts) e f h = record { to = h.to; fitting = (to, e, f, h.fitting); end = h.end }
later s to c cs (refuses kind left) e f (by_stuck h bad n k) = by_stuck (more_clear s to c cs e f h) bad n k
later s to c cs (refuses kind left) e f (by_flaw h d rest is n k) = by_flaw (more_clear s to c cs e f h) d rest is n k

step_why : (s : Place) (c : ℕ) (cs : List ℕ) (o : Option Place) → step s c ≡ o → flaw s c ≡ None → ((to : Place) → Why to cs (outcome to cs))
    → Why s (c ∷ cs) (stepped o (suc (length cs)) (λ to. outcome to cs))
step_why s c cs None e f h = by_stuck (none_clear s (c ∷ cs)) refl refl (e, f)
step_why s c cs (Some to) e f h = later s to c cs (outcome to cs) e f (h to)

flaw_why : (s : Place) (c : ℕ) (cs : List ℕ) (o : Option SelectFault) → flaw s c ≡ o → ((to : Place) → Why to cs (outcome to cs))
    → Why s (c ∷ cs) (going o (since s) (suc (length cs)) (stepped (step s c) (suc (length cs)) (λ to. outcome to cs)))
flaw_why s c cs None f h = step_why s c cs (step s c) refl f h
flaw_why s c cs (Some kind) f h = by_flaw (none_clear s (c ∷ cs)) c cs refl refl f

why_so : (text : List ℕ) (s : Place) → Why s text (outcome s text)
why_so [] s = end_why s (ended s) refl
why_so (c ∷ cs) s = flaw_why s c cs (flaw s c) refl (why_so cs)

pub why : (s : Place) (text : List ℕ) (o : Outcome) → outcome s text ≡ o → Why s text o
why s text o e = subst (Why s text) e (why_so text s)

fitting_selects : (s : Place) (t : List ℕ) (z : Place) (parts : Parts) → Fitting s t z → ended z ≡ Some parts → outcome s t ≡ selects parts
fitting_selects s [] z parts h e = rw (h, e) refl
fitting_selects s (c ∷ cs) z parts h e = rw (h.1, h.2) (fitting_selects h.0 cs z parts h.3 e)

-- a text selects exactly where it is a selector
pub selector_selects : (t : List ℕ) (parts : Parts) → IsSelector t parts → outcome (before_part []) t ≡ selects parts
selector_selects t parts h =
    let k = spelled_on t parts h.0 in
    fitting_selects (before_part []) t k.to parts (leads_fitting (before_part []) t k.to k.leads ((fit_end k.to parts k.at.end).1 h.1)).0 k.at.end

pub selects_selector : (t : List ℕ) (parts : Parts) → outcome (before_part []) t ≡ selects parts → IsSelector t parts
selects_selector t parts h =
    let k = why (before_part []) t (selects parts) h in
    let leads = fitting_leads (before_part []) t k.to k.fitting in
    (end_kept k.to t parts (leads_means t k.to leads) k.end, (fit_end k.to parts k.end).0 (fitting_fits (before_part []) t k.to k.fitting tt))

-- the same of what is selected
selected_by : (t : List ℕ) (parts : Parts) (o : Outcome) → outcome (before_part []) t ≡ o → parts_in o ≡ Some parts → IsSelector t parts
selected_by t parts (selects others) e h =
    subst (IsSelector t) (same_Some others parts h) (selects_selector t others e)
selected_by t parts (refuses kind left) e h = absurd (cc)

pub selected_selector : (t : List ℕ) (parts : Parts) → selected t ≡ Some parts → IsSelector t parts
selected_selector t parts h = selected_by t parts (outcome (before_part []) t) refl h

pub selector_selected : (t : List ℕ) (parts : Parts) → IsSelector t parts → selected t ≡ Some parts
selector_selected t parts h = ap parts_in (selector_selects t parts h)

-- The redactions in a list that was read.
use Rattle.snap_run_requests.proofs.Prelude.{◌≡◌, ℕ, ◌+◌, ◌<◌, ◌≤◌, List, [], ◌∷◌, ◌++◌, length, take, get_or, take_more, take_all, map, Option, Some, option_map, refl, sym, ap, ◌∙◌, subst, slice_get, tree, item_trees, Content, ReplacementView, replacement_of, replacements_of, IsRedaction, AreRedactions, IsRedactionFault, IsRedactionEnd}
use Rattle.std.proofs.lemmas.Option.{slice_get-get_or, slice_get-map}
use Rattle.snap_select.specs.declared.replacement.Replacement.{Replacement}
use Rattle.snap_select.specs.declared.selector.Selector.{Selector}
use Rattle.snap_run_requests.specs.Faults.{IsNoneAt, IsItemsEnd, end_at, trees_in}
use Rattle.snap_run_requests.specs.declared.redaction_items.Stop.{Stop}
use Rattle.snap_run_requests.specs.declared.redaction_items.Stop.TheVariants as stop
use Rattle.snap_run_requests.specs.declared.fault.RequestError.{RequestError}
use Rattle.snap_run_requests.specs.declared.fault.RedactionFault.{RedactionFault}

one_behind : (xs : List Content) (rs : List ReplacementView) (x : Content) (r : ReplacementView) → AreRedactions (item_trees xs) rs → IsRedaction (tree x) r
    → AreRedactions (item_trees (xs ++ x ∷ [])) (rs ++ r ∷ [])
one_behind [] [] x r are is = (is, tt)
one_behind [] (s ∷ rs) x r are is = absurd are
one_behind (y ∷ xs) [] x r are is = absurd are
one_behind (y ∷ xs) (s ∷ rs) x r are is = (are.0, one_behind xs rs x r are.1 is)

more_held : (ps : List (Selector × Replacement)) (p : Selector × Replacement) → replacements_of (ps ++ p ∷ []) ≡ replacements_of ps ++ replacement_of p ∷ []
more_held [] p = refl
more_held (x ∷ xs) p = ap (λ rs. replacement_of x ∷ rs) (more_held xs p)

-- the items before this place are these redactions
abbrev pub AreSoFar : List Content → ℕ → List (Selector × Replacement) → Type 0
AreSoFar items i held = AreRedactions (item_trees (take i items)) (replacements_of held)

pub one_more_read : (items : List Content) (i : ℕ) (item : Content) (held held' : List (Selector × Replacement)) (p : Selector × Replacement) → i < length items → item ≡ get_or items i item
    → AreSoFar items i held → IsRedaction (tree item) (replacement_of p) → held' ≡ held ++ p ∷ [] → AreSoFar items (i + 1) held'
one_more_read items i item held held' p within is are here next =
    let longer : take (i + 1) items ≡ take i items ++ item ∷ [] = take_more items i item within ∙ ap (λ x. take i items ++ x ∷ []) (sym is) in
    let both : AreRedactions (item_trees (take i items ++ item ∷ [])) (replacements_of held ++ replacement_of p ∷ []) = one_behind (take i items) (replacements_of held) item (replacement_of p) are here in
    subst (λ xs. AreRedactions (item_trees xs) (replacements_of held')) (sym longer)
    (subst (λ rs. AreRedactions (item_trees (take i items ++ item ∷ [])) rs) (sym (ap replacements_of next ∙ more_held held p)) both)

pub all_read : (items : List Content) (i : ℕ) (held : List (Selector × Replacement)) → length items ≤ i → AreSoFar items i held → AreRedactions (item_trees items) (replacements_of held)
all_read items i held end are = subst (λ xs. AreRedactions (item_trees xs) (replacements_of held)) (take_all i items end) are

as_list : (items : List Content) → trees_in (item_trees items) ≡ map tree items
as_list [] = refl
as_list (x ∷ xs) = ap (λ ts. tree x ∷ ts) (as_list xs)

none_at : (items : List Content) (i : ℕ) (item : Content) (fault : RedactionFault) → i < length items → item ≡ get_or items i item → IsRedactionFault (tree item) fault
    → IsNoneAt (item_trees items) i fault
none_at items i item fault within is holds = record {
  item = tree item;
  there = ap (λ ts. slice_get ts i) (as_list items) ∙ slice_get-map tree items i ∙ ap (option_map tree) (slice_get-get_or items i item within) ∙ ap (λ x. Some (tree x)) (sym is);
  holds = holds;
}

-- a list whose item at this place is not read
pub stopped : (items : List Content) (i : ℕ) (item : Content) (why : Stop) (error : RequestError) → i < length items → item ≡ get_or items i item → IsRedactionEnd (tree item) why
    → error ≡ end_at i why → IsItemsEnd (item_trees items) error
stopped items i item (stop.Fault fault) error within is holds at = subst (λ e. IsItemsEnd (item_trees items) e) (sym at) (none_at items i item fault within is holds)
stopped items i item stop.OutOfMemory error within is holds at = subst (λ e. IsItemsEnd (item_trees items) e) (sym at) tt

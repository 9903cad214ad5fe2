-- A literal that was met and is forgotten again.
use Rattle.std.proofs.Common.{◌≡◌, ◌||◌, false, cond, List, [], ◌∷◌, refl, sym, ap, ◌∙◌}
use Rattle.std.specs.List.{list_any}
use Rattle.std.specs.BTreeMap.{is_at}
use Rattle.std.specs.BTreeSet.{insert_key}
use Rattle.std.specs.Set.{remove_key}
use Rattle.std.specs.Ordering.{nat_cmp, ordering_then, is_eq, match_ordering}
use Rattle.std.specs.Cmp.{tied_itself}
use Rattle.std.specs.declared.cmp.Ordering.{Ordering}
use Rattle.std.specs.declared.cmp.Ordering.TheVariants.{Less, Equal, Greater}
use Rattle.std.proofs.lemmas.Cmp.{nat_cmp_total, nat_list_cmp_total}
use Rattle.snap_assert.specs.Session.{SessionView, LiteralKey, literal_cmp, text_cmp, is_met, with_literal, without_literal}

itself : (k : LiteralKey) → literal_cmp k k ≡ Equal
itself k =
    ap (λ r. ordering_then (ordering_then r (text_cmp k.1 k.1)) (nat_cmp k.2 k.2)) (tied_itself nat_list_cmp_total k.0)
    ∙ ap (λ r. ordering_then r (nat_cmp k.2 k.2)) (tied_itself nat_list_cmp_total k.1) ∙ tied_itself nat_cmp_total k.2

found_here : (k : LiteralKey) (rest : List LiteralKey) → remove_key (is_at (literal_cmp k)) (k ∷ rest) ≡ rest
found_here k rest = ap (λ r. cond (is_eq r) rest (k ∷ remove_key (is_at (literal_cmp k)) rest)) (itself k)

further : (k x : LiteralKey) (xs : List LiteralKey) (r : Ordering) → literal_cmp k x ≡ r → list_any (is_at (literal_cmp k)) (x ∷ xs) ≡ false
    → (list_any (is_at (literal_cmp k)) xs ≡ false → remove_key (is_at (literal_cmp k)) (insert_key literal_cmp xs k) ≡ xs)
    → remove_key (is_at (literal_cmp k)) (insert_key literal_cmp (x ∷ xs) k) ≡ x ∷ xs
further k x xs Less e none rest =
    ap (λ r. remove_key (is_at (literal_cmp k)) (match_ordering r (k ∷ x ∷ xs) (x ∷ xs) (x ∷ insert_key literal_cmp xs k))) e ∙ found_here k (x ∷ xs)
further k x xs Equal e none rest = absurd (let t = sym (ap (λ r. is_eq r || list_any (is_at (literal_cmp k)) xs) e) ∙ none in cc t)
further k x xs Greater e none rest =
    ap (λ r. remove_key (is_at (literal_cmp k)) (match_ordering r (k ∷ x ∷ xs) (x ∷ xs) (x ∷ insert_key literal_cmp xs k))) e
    ∙ ap (λ r. cond (is_eq r) (insert_key literal_cmp xs k) (x ∷ remove_key (is_at (literal_cmp k)) (insert_key literal_cmp xs k))) e
    ∙ ap (λ l. x ∷ l) (rest (sym (ap (λ r. is_eq r || list_any (is_at (literal_cmp k)) xs) e) ∙ none))

pub forgotten : (k : LiteralKey) (ks : List LiteralKey) → list_any (is_at (literal_cmp k)) ks ≡ false → remove_key (is_at (literal_cmp k)) (insert_key literal_cmp ks k) ≡ ks
forgotten k [] none = found_here k []
forgotten k (x ∷ xs) none = further k x xs (literal_cmp k x) refl none (forgotten k xs)

-- a literal is met, nothing else is changed, and it is forgotten
pub forgets : (s t u v : SessionView) (key met : LiteralKey) → met ≡ key → is_met s key ≡ false → t ≡ with_literal s met → u ≡ t → v ≡ without_literal u key → v ≡ s
forgets s t u v key met same none meets stays forgets_it =
    forgets_it ∙ ap (λ x. without_literal x key) (stays ∙ meets ∙ ap (with_literal s) same) ∙ ap (λ ks. record s { literals = ks }) (forgotten key s.literals none)

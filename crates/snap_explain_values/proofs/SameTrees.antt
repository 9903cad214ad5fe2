-- That two trees are the same, and which are.
use Rattle.snap_explain_values.proofs.Prelude.{◌≡◌, Bool, true, false, refl, sym, ap, ◌∙◌, is_eq, same_tree, tree_cmp, tree_total, is_same}
use Rattle.std.proofs.lemmas.Cmp.{tied_itself}
use Rattle.std.specs.declared.cmp.Ordering.{Ordering}
use Rattle.std.specs.declared.cmp.Ordering.TheVariants.{Less, Equal, Greater}
use Rattle.snap_content.specs.Tree as t

told_equal : (o : Ordering) → is_eq o ≡ true → o ≡ Equal
told_equal Less e = absurd (cc e)
told_equal Equal e = refl
told_equal Greater e = absurd (cc e)

pub equal_of_same : (a b : t.Tree) → is_same a b ≡ true → a ≡ b
equal_of_same a b e = same_tree a b (told_equal (tree_cmp a b) e)

pub same_itself : (a : t.Tree) → is_same a a ≡ true
same_itself a = ap is_eq (tied_itself tree_total a)

pub same_of_equal : (a b : t.Tree) → a ≡ b → is_same a b ≡ true
same_of_equal a b e = ap (is_same a) (sym e) ∙ same_itself a

-- it doesn't matter which of both is asked for
pub same_turned : (a b : t.Tree) → is_same a b ≡ is_same b a
same_turned a b = by (is_same a b) (is_same b a) refl refl
  where
    by : (m n : Bool) → is_same a b ≡ m → is_same b a ≡ n → is_same a b ≡ is_same b a
    by true n e f = e ∙ sym (same_of_equal b a (sym (equal_of_same a b e)))
    by false true e f = same_of_equal a b (sym (equal_of_same b a f)) ∙ sym f
    by false false e f = e ∙ sym f

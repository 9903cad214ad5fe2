-- Infos by their texts, and what the tree of metadata tells.
use Rattle.snap_assert.proofs.Prelude.{◌≡◌, ◌↔◌, ◌∙◌, ℕ, Bool, IsTrue, List, Option, None, Some, refl, sym, ap, subst, codes, Plain, IsWithin, off, text_of, Meta, without_line, some_same}
use Rattle.snap_content.specs.Plain.{null, bool, int, text, list, dict}
use Rattle.snap_content.specs.Tree.{Tree, map, TreePairs}
use Rattle.snap_emit.proofs.OneText.{texts_same}
use Rattle.snap_fields.specs.Fields.{text_at}
use Rattle.snap_store.specs.MetaTree.{meta_tree, TellsFields, without_nil_info}
use Rattle.snap_store.proofs.MetaTrees.{meta_tree-tells}
use Rattle.snap_assert.specs.Default.{filled, PrintsInfo}

filled_is : (p : Plain) → (p ≡ null → ⊥) → filled p ≡ Some p
filled_is null other = absurd (other refl)
filled_is (bool b) other = refl
filled_is (int z) other = refl
filled_is (text s) other = refl
filled_is (list ps) other = refl
filled_is (dict es) other = refl

-- a tree whose text is that of null is null
pub prints_null : (p : Plain) (t : List ℕ) → IsWithin p → t ≡ text_of off p → t ≡ text_of off null → PrintsInfo (filled p) None
prints_null p t within is other =
    let p_is : p ≡ null = texts_same off off p null within tt (sym is ∙ other) in
    subst (λ q. PrintsInfo (filled q) None) (sym p_is) refl

pub prints_other : (p : Plain) (t : List ℕ) → IsWithin p → t ≡ text_of off p → (t ≡ text_of off null → ⊥) → PrintsInfo (filled p) (Some t)
prints_other p t within is other =
    subst (λ o. PrintsInfo o (Some t)) (sym (filled_is p (λ e. other (is ∙ ap (λ q. text_of off q) e)))) (ap Some is, within)

-- one text is one tree
pub infos_same : (x y : Option Plain) (a b : Option (List ℕ)) → PrintsInfo x a → PrintsInfo y b → (a ≡ b) ↔ (x ≡ y)
infos_same None None a b p q = (λ e. refl, λ e. p ∙ sym q)
infos_same None (Some y) a b p q = (λ e. absurd (let k : None ≡ Some (text_of off y) = sym p ∙ e ∙ q.0 in cc k), λ e. absurd (cc e))
infos_same (Some x) None a b p q = (λ e. absurd (let k : Some (text_of off x) ≡ None = sym p.0 ∙ e ∙ q in cc k), λ e. absurd (cc e))
infos_same (Some x) (Some y) a b p q = (
  λ e. ap Some (texts_same off off x y p.1 q.1 (some_same (text_of off x) (text_of off y) (sym p.0 ∙ e ∙ q.0))),
  λ e. p.0 ∙ (let k : x ≡ y = cc e in ap (λ z. Some (text_of off z)) k) ∙ sym q.0,
)

pub by_texts : (same : Bool) (x y : Option Plain) (a b : Option (List ℕ)) → PrintsInfo x a → PrintsInfo y b → IsTrue same ↔ (a ≡ b) → IsTrue same ↔ (x ≡ y)
by_texts same x y a b p q h =
    let i = infos_same x y a b p q in
    (λ yes. i.0 (h.0 yes), λ e. h.1 (i.1 e))

-- without their line metadata are told by the tree that they are made as
pub tells_without_line : (m : Meta) → TellsFields (meta_tree (without_line m)) (without_nil_info (without_line m))
tells_without_line m = meta_tree-tells (without_line m) tt

-- the pairs of a map tell the description
pub description_is : (t : Tree) (pairs : TreePairs) (meta : Meta) (value : Option (List ℕ)) → t ≡ map pairs → value ≡ text_at (codes "description") pairs → TellsFields t meta
    → value ≡ meta.description
description_is t pairs meta value is found told =
    let pairs_are : pairs ≡ told.pairs = (let k : map pairs ≡ map told.pairs = sym is ∙ told.is_map in cc k) in
    found ∙ ap (text_at (codes "description")) pairs_are ∙ ap (λ m. m.description) (sym told.fields_are)

-- Trees that have a text in common are one tree.
use Rattle.snap_emit.proofs.Prelude.{◌≡◌, ◌++◌, ℕ, List, Some, refl, ap, sym, ◌∙◌, codes, text_of, document_of, Plain, IsWithin, Blocks, read_value, plain_read}
use Rattle.std.proofs.Common.{inl, inr}
use Rattle.snap_parse_laws.proofs.FreeLayouts.{free-is-laid}
use Rattle.snap_yaml.specs.Value.{Value}
use Rattle.snap_parse.specs.LaidValues.{layout_value}
use Rattle.snap_parse.proofs.OneText.{HasValue, printed-value, laid-one-value, values-same}
use Rattle.snap_emit.specs.Spelled.{IsTextOf, IsHeaderOf}
use Rattle.snap_emit.proofs.LaidTrees.{layout-reads}
use Rattle.snap_emit.proofs.ReadBack.{read-back}

some-same : (a b : Plain) → Some a ≡ Some b → a ≡ b
some-same a b same = cc

-- the one document of the text is read as this tree
record Given (text : List ℕ) (t : Plain) : Type 0 where
  value : Value
  has : HasValue text value
  plainly : plain_read value ≡ Some t

given : (text : List ℕ) (t : Plain) → IsWithin t → IsHeaderOf text t → Given text t
given text t within (inl is) = record { value = read_value t; has = printed-value is.blocks t text within is.text_is; plainly = read-back t within }
given text t within (inr s) = record {
  value = layout_value s.layout.tree;
  has = laid-one-value s.layout text (free-is-laid s.layout s.free) s.text_is;
  plainly = (layout-reads s.layout.tree).plainly ∙ ap Some s.tree_is;
}

pub headers_same : (text : List ℕ) (a b : Plain) → IsWithin a → IsWithin b → IsHeaderOf text a → IsHeaderOf text b → a ≡ b
headers_same text a b h k one other =
    let x = given text a h one in
    let y = given text b k other in
    some-same a b (sym x.plainly ∙ ap plain_read (values-same text x.value y.value x.has y.has) ∙ y.plainly)

-- the text of a tree is a header of it
pub as-header : (text : List ℕ) (t : Plain) → IsTextOf text t → IsHeaderOf text t
as-header text t (inl is) = inl is
as-header text t (inr s) = inr s.header

pub one_tree : (text : List ℕ) (a b : Plain) → IsWithin a → IsWithin b → IsTextOf text a → IsTextOf text b → a ≡ b
one_tree text a b h k one other = headers_same text a b h k (as-header text a one) (as-header text b other)

pub texts_same : (v w : Blocks) (a b : Plain) → IsWithin a → IsWithin b → text_of v a ≡ text_of w b → a ≡ b
texts_same v w a b h k same =
    headers_same (document_of v a) a b h k (inl (record { blocks = v; text_is = refl })) (inl (record { blocks = w; text_is = ap (λ text. codes "---\n" ++ text) same }))

-- What a text is read as.
use Rattle.snap_emit.proofs.Prelude.{◌≡◌, ℕ, List, sym, ap, ◌∙◌, Plain, plain, content_of, IsWithin, tree, Content, IsPlain}
use Rattle.snap_content.proofs.PlainMade.{plain_made}
use Rattle.snap_emit.specs.Parsed.{IsReadFrom, IsHeaderReadFrom}
use Rattle.snap_emit.specs.Spelled.{IsTextOf, IsHeaderOf}

-- a tree that was read, where it is that of each tree of which the text is one
pub read-from : (made : Content) (text : List ℕ) → IsPlain made → ((t : Plain) → IsWithin t → IsTextOf text t → tree made ≡ content_of t) → IsReadFrom made text
read-from made text h read = record {
  plain = h.plain;
  tree_is = h.tree_is;
  read = λ t within is. sym (plain_made h.plain) ∙ ap plain (sym h.tree_is ∙ read t within is) ∙ plain_made t;
}

pub header-read-from : (made : Content) (text : List ℕ) → IsPlain made → ((t : Plain) → IsWithin t → IsHeaderOf text t → tree made ≡ content_of t) → IsHeaderReadFrom made text
header-read-from made text h read = record {
  plain = h.plain;
  tree_is = h.tree_is;
  read = λ t within is. sym (plain_made h.plain) ∙ ap plain (sym h.tree_is ∙ read t within is) ∙ plain_made t;
}

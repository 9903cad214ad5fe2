use Rattle.snap_store.proofs.Prelude.{ap, ◌∙◌, plain}
use Rattle.snap_content.specs.Tree.{map}
use Rattle.snap_store.proofs.Headers.{tree-pairs, in_front-none, plain-meta_tree}
use Rattle.snap_store.proofs.header.header_content.Goals as goal

pub returns-clause-tree : goal.returns-clause-tree
returns-clause-tree c =
    tree-pairs c.push_kind.new.pairs
    ∙ ap map (c.in_ok-push_kind.ensures ∙ c.in_ok-push_text-4.ensures _ ∙ c.in_ok-push_info.ensures _ ∙ c.in_ok-push_text-3.ensures _
    ∙ c.in_ok-push_text-2.ensures _ ∙ c.in_ok-push_line.ensures _ ∙ c.in_ok-push_text.ensures _ ∙ in_front-none _ _ c.new-pairs.ensures)

pub returns-clause-plain : goal.returns-clause-plain
returns-clause-plain c = ap plain (returns-clause-tree c) ∙ plain-meta_tree _

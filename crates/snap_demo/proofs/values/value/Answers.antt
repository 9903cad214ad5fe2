use Rattle.snap_demo.proofs.Prelude.{ap, ◌∙◌, plain, tree}
use Rattle.snap_content.proofs.Views.{tree-Seq}
use Rattle.snap_content.specs.Plain.{text, list}
use Rattle.snap_content.specs.Tree.{map}
use Rattle.snap_content.specs.declared.content.Content.{U32, U64, Seq, String}
use Rattle.snap_store.proofs.Headers.{tree-pairs, tree-String, tree-U32, in_front-none}
use Rattle.snap_demo.proofs.Trees.{tree-U64, value_is}
use Rattle.snap_demo.proofs.values.value.Goals as goal

pub returns : goal.returns
returns c =
    ap plain (tree-pairs c.push_field-4.new.pairs
    ∙ ap map (c.in_ok-push_field-4.ensures _ ∙ c.in_ok-push_field-3.ensures _ ∙ c.in_ok-push_field-2.ensures _ ∙ c.in_ok-push_field.ensures _ ∙ in_front-none _ _ c.new-pairs.ensures))
    ∙ value_is c.args.index c.args.number (tree (U32 c.args.index)) (tree (U64 c.args.number)) (tree (Seq c.in_ok-tags.field-0)) (tree (String c.in_ok-note.field-0)) (ap plain (tree-U32 _)) (ap plain (tree-U64 _)) (ap plain (tree-Seq c.in_ok-tags.field-0) ∙ ap list c.in_ok-tags.ensures) (ap plain (tree-String _) ∙ ap text c.in_ok-note.ensures)

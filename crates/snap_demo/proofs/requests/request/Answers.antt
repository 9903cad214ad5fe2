use Rattle.snap_demo.proofs.Prelude.{ap, ◌∙◌, ◌+◌, plain, tree}
use Rattle.snap_content.specs.Plain.{text}
use Rattle.snap_content.specs.Tree.{map}
use Rattle.snap_content.specs.declared.content.Content.{U32, String}
use Rattle.snap_store.proofs.Headers.{tree-pairs, tree-String, tree-U32, in_front-none}
use Rattle.snap_demo.proofs.Trees.{request_is}
use Rattle.snap_demo.proofs.requests.request.Goals as goal

pub returns : goal.returns
returns c =
    ap plain (tree-pairs c.push_field-6.new.pairs
    ∙ ap map (c.in_ok-push_field-6.ensures _ ∙ c.in_ok-push_field-5.ensures _ ∙ c.in_ok-push_field-4.ensures _ ∙ c.in_ok-push_field-3.ensures _ ∙ c.in_ok-push_field-2.ensures _
    ∙ c.in_ok-push_field.ensures _ ∙ in_front-none _ _ c.new-pairs.ensures))
    ∙ request_is c.args.index c.args.number (tree c.in_ok-word.field-0) (tree (String c.in_ok-source_file.field-0)) (tree (U32 (c.args.index + 1))) (tree (String c.in_ok-request_name.field-0))
    (tree c.in_ok-word-2.field-0) (tree c.in_ok-value.field-0) (ap plain c.in_ok-word.ensures) (ap plain (tree-String _) ∙ ap text c.in_ok-source_file.ensures) (ap plain (tree-U32 _))
    (ap plain (tree-String _) ∙ ap text c.in_ok-request_name.ensures) (ap plain c.in_ok-word-2.ensures) c.in_ok-value.ensures

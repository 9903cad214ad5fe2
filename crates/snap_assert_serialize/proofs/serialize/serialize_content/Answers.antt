use Rattle.snap_content.specs.View.{tree}
use Rattle.snap_assert_serialize.proofs.Ends.{ended}
use Rattle.snap_assert_serialize.proofs.serialize.serialize_content.Goals as goal

pub returns : goal.returns
returns g c =
    ended c.args.format c.args.literal _ (tree c.in_ok-printed.printed) c.text_in-text.result c.in_ok-printed.ensures.printed c.text_in-text.ensures.text c.text_in-text.ensures.accepted
    c.text_in-text.ensures.refused

use Rattle.std.proofs.Common.{subst}
use Rattle.snap_assert_settings.specs.Settings.{PrintsAs}
use Rattle.snap_assert_serialize.specs.Serialized.{SerializedEnd}
use Rattle.snap_assert_serialize.proofs.serialize.serialize_value.Goals as goal

pub returns : goal.returns
returns g c =
    subst (λ t. SerializedEnd c.args.format c.args.literal (λ out. PrintsAs (λ v p. (goal.Redactor-dyn g (v, p)).allows p) c.args.settings.now t out) c.serialize_content.result)
    c.in_ok-content.ensures c.serialize_content.ensures

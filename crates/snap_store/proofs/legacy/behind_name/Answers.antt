use Rattle.snap_store.proofs.Prelude.{◌∙◌, chars}
use Rattle.snap_store.proofs.LegacyFields.{colon_behind}
use Rattle.snap_store.proofs.legacy.behind_name.Goals as goal

pub returns : goal.returns
returns c =
    colon_behind c.after_character.result (chars c.loop-letter.letters.now) (chars c.loop-letter.rest.now) c.in_default.ensures c.after_character.ensures
    ∙ c.loop-letter.invariant.same

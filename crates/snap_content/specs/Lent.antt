-- What a lent text is seen as.
use Rattle.std.specs.Prelude.{ℕ, List}
use Rattle.std.specs.Str.{chars}
use Rattle.snap_content.specs.declared.lent.Held.{Held}
use Rattle.snap_content.specs.declared.lent.Held.TheVariants.{Borrowed, Owned}

-- the characters, whoever holds them
abbrev pub held_characters : Held → List ℕ
held_characters (Borrowed text) = chars text.now
held_characters (Owned text) = text

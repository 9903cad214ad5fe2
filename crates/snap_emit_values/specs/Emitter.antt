-- What an emitter has written, which text it was lent, and whether it writes literal blocks.
use Rattle.std.specs.Prelude.{ℕ, List, Bool}
use Rattle.snap_emit_values.specs.declared.emitter.YamlEmitter.{YamlEmitter}

-- the text that it was lent, as it stands
abbrev pub written : YamlEmitter → List ℕ
written emitter = emitter.writer.now

-- what tells that text from others
abbrev pub lent_name : YamlEmitter → ℕ
lent_name emitter = emitter.writer.ghost_name

-- literal blocks are asked for
abbrev pub is_literal : YamlEmitter → Bool
is_literal emitter = emitter.literal

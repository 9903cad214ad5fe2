-- Where a tree stands, as the emitter is told it.
use Rattle.std.specs.Prelude.{Bool, true, false}
use Rattle.snap_print.specs.Blocks as b
use Rattle.snap_emit_values.specs.declared.blocks.Blocks.{Blocks}
use Rattle.snap_emit_values.specs.declared.blocks.Blocks.TheVariants.{Off, Inside, End, Last}

-- the place that a word of the emitter stands for
abbrev pub place : Blocks → b.Blocks
place Off = b.off
place Inside = b.inside
place End = b.end
place Last = b.last

-- where the whole of a dump stands, by whether literal blocks are asked for: white space at its end is kept
abbrev pub dump_place : Bool → b.Blocks
dump_place true = b.end
dump_place false = b.off

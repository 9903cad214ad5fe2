use Rattle.std.proofs.lemmas.Str.{chars-IsAscii}
use Rattle.snap_json.proofs.numbers.write_quoted_number.Goals as goal

pub returns : goal.returns
returns g c = rw (chars-IsAscii c.format.result.now c.format.ensures.ascii, c.format.ensures.text) at c.write_string.ensures

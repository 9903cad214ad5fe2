use Rattle.snap_content.proofs.Ascii.{list_all-IsAscii}
use Rattle.snap_json.proofs.numbers.write_number.Goals as goal

pub write_word-requires : goal.write_word-requires
write_word-requires g c = list_all-IsAscii _ c.format.ensures.ascii

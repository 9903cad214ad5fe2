use Rattle.snap_parse_laws.proofs.FreeLayouts.{free-is-laid}
use Rattle.snap_parse_laws.proofs.Documents.{laid-source}
use Rattle.snap_parse_laws.proofs.laws.free_layouts_owe_their_tokens.Goals as goal

pub returns : goal.returns
returns c = λ d is. laid-source d (free-is-laid d is)

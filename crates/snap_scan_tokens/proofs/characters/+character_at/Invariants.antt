use Rattle.snap_scan_tokens.proofs.characters.+character_at.Given as goal

abbrev pub decreases-character_at : goal.decreases-character_at
decreases-character_at l = l.place

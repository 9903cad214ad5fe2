use Rattle.snap_review.proofs.Prelude.{◌≡◌, [], map, drop, pending_of, latest_after, seen}
use Rattle.snap_review.proofs.chosen.latest.Given as goal

-- what the rest puts over the map is what the whole puts over none
abbrev pub invariant-loop-record : goal.invariant-loop-record
invariant-loop-record l = latest_after (seen l.made.entries) (map pending_of (drop l.record-index l.records)) ≡ latest_after [] (map pending_of l.records)

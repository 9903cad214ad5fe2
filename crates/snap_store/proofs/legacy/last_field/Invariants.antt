use Rattle.snap_store.proofs.Prelude.{◌≡◌, length, map, Utf8, shadow, option_map, option_or, chars, ended_lines, line_of, before_blank, legacy_field}
use Rattle.snap_store.proofs.legacy.last_field.Given as goal

-- what the lines that are left tell, else what was found
abbrev pub invariant-loop-piece : goal.invariant-loop-piece
invariant-loop-piece l = record {
  utf8 : shadow (Utf8 l.rest);
  so_far : option_or (legacy_field (chars l.fn.name) (before_blank (map line_of (ended_lines (chars l.rest))))) (option_map (λ value. chars value.now) l.found)
      ≡ legacy_field (chars l.fn.name) (before_blank (map line_of (ended_lines (chars l.fn.text))));
}

abbrev pub decreases-loop-piece : goal.decreases-loop-piece
decreases-loop-piece l = length (chars l.rest)

use Rattle.snap_explain_unused.proofs.NamedFiles.{filled_is}
use Rattle.snap_explain_unused.proofs.naming.findings_beside.Goals as goal

pub returns-clause-found : goal.returns-clause-found
returns-clause-found g c = record {
  paths = c.find_unused.new.unused.keys;
  named = record { left = c.in_ok-find_unused.ensures.found.left; unused = c.in_ok-find_unused.ensures.found.unused_are; ascending = c.in_ok-text.ensures.ascending };
  tells = record { text = c.in_ok-text.ensures.lines; filled = filled_is _ c.is_empty.result c.is_empty.ensures.0 c.is_empty.ensures.1 };
}

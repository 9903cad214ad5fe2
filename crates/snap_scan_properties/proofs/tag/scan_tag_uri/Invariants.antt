use Rattle.snap_scan_properties.proofs.Prelude.{◌≡◌, length, chars, Travels, headed, uri_from}
use Rattle.snap_scan_properties.proofs.tag.scan_tag_uri.Given as goal

abbrev pub invariant-characters : goal.invariant-characters
invariant-characters l = record {
  same : headed l.text (uri_from l.cursor) ≡ headed (chars l.head) (uri_from l.fn.cursor);
  travels : Travels l.fn.cursor l.cursor;
}

abbrev pub decreases-characters : goal.decreases-characters
decreases-characters l = length l.cursor.left

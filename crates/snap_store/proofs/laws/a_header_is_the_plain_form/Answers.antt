use Rattle.snap_store.proofs.Headers.{plain-meta_tree}
use Rattle.snap_store.proofs.laws.a_header_is_the_plain_form.Goals as goal

pub returns : goal.returns
returns c = plain-meta_tree

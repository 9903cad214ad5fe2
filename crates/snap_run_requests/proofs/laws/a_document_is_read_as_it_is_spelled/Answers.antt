use Rattle.snap_run_requests.proofs.Requesting.{reads_as, only_spelled, text_read}
use Rattle.snap_run_requests.proofs.laws.a_document_is_read_as_it_is_spelled.Goals as goal

pub returns-clause-read : goal.returns-clause-read
returns-clause-read c = reads_as

pub returns-clause-only : goal.returns-clause-only
returns-clause-only c = only_spelled

pub returns-clause-text : goal.returns-clause-text
returns-clause-text c = text_read

use Rattle.snap_run_requests.proofs.Requesting.{refused_spells_none}
use Rattle.snap_run_requests.proofs.request.read_request.Goals as goal

pub returns-in-Ok-clause-refused : goal.returns-in-Ok-clause-refused
returns-in-Ok-clause-refused c = refused_spells_none c.args.document.now c.in-Ok.text.now c.request_of_text.result c.in-Ok.ensures.cases.0 c.request_of_text.ensures

use Rattle.snap_explain.proofs.Prelude.{◌∙◌, ap, Err}
use Rattle.snap_explain.proofs.telling.read.Goals as goal

pub returns-in-Err-NoRequest : goal.returns-in-Err-NoRequest
returns-in-Err-NoRequest c = record {
  holds = rw c.in-Err-NoRequest.field-0-is at c.in-Err-NoRequest.ensures.cause;
  unspelled = c.read_request.ensures.refused c.in-Err-NoRequest.why (c.in-Err-NoRequest.is ∙ ap Err c.in-Err-NoRequest.field-0-is);
}

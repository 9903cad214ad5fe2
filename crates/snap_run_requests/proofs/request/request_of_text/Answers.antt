use Rattle.snap_run_requests.proofs.Requesting.{read_so}
use Rattle.snap_run_requests.proofs.request.request_of_text.Goals as goal

pub returns-in-Ok : goal.returns-in-Ok
returns-in-Ok c =
    let s = rw c.in-Ok.is at c.in_ok-content.ensures.stream in
    read_so c.args.text.now c.in-Ok.content s.holds.plain c.request_of_content.result c.utf8.text s.holds.tree_is
    (λ t within is. rw c.in-Ok.is at (c.in_ok-content.ensures.read t within is)) c.request_of_content.ensures

pub returns-in-Err : goal.returns-in-Err
returns-in-Err c = record {
  utf8 = c.utf8.text;
  shown = rw c.in-Err.is at c.in_ok-content.ensures.cause;
  holds = λ nodes is. rw c.in-Err.is at (c.in_ok-content.ensures.nodes nodes is);
  unspelled = λ t within is. rw c.in-Err.is at (c.in_ok-content.ensures.read t within is);
}

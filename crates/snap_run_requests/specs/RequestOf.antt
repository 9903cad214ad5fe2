-- What a request is seen as.
use Rattle.snap_content.specs.View.{tree}
use Rattle.snap_assert_settings.specs.Replaced.{replacements_of}
use Rattle.snap_run_requests.specs.Requests.{AssertionView, RequestView, asserts, begins, ends}
use Rattle.snap_run_requests.specs.declared.request.Assertion.{Assertion}
use Rattle.snap_run_requests.specs.declared.request.Request.{Request}
use Rattle.snap_run_requests.specs.declared.request.Request.TheVariants as request

-- what an assertion is seen as
abbrev pub assertion_of : Assertion → AssertionView
assertion_of assertion = record {
  module_name = assertion.module_name;
  file = assertion.file;
  line = assertion.line;
  name = assertion.name;
  function = assertion.function;
  suffix = assertion.suffix;
  expr = assertion.expr;
  value = tree assertion.value;
  redactions = replacements_of assertion.redactions.items;
  sort = assertion.sort;
}

-- what a request is seen as
abbrev pub request_of : Request → RequestView
request_of (request.Assertion assertion) = asserts (assertion_of assertion)
request_of request.Begin = begins
request_of request.End = ends

use Rattle.snap_run_requests.proofs.Prelude.{◌≡◌, ◌∙◌, rules, count_by, tree}
use Rattle.snap_fields.specs.Fields.{is_key}
use Rattle.snap_run_requests.proofs.Keys.{counted}
use Rattle.snap_run_requests.specs.Keys.{name_of}
use Rattle.snap_run_requests.proofs.pairs.times.Goals as goal

pub returns : goal.returns
returns c =
    let count : c.count.result ≡ count_by (λ q. is_key (name_of c.args.key) (tree q.0)) c.args.pairs.now = search rules in
    count ∙ counted (is_key (name_of c.args.key)) c.args.pairs.now

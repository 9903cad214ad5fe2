use Rattle.snap_emit.proofs.Prelude.{chars}
use Rattle.snap_emit.proofs.Parsing.{read-from}
use Rattle.snap_emit.proofs.ReadTexts.{refusal-end, refusal-in, tree-within}
use Rattle.snap_emit.proofs.yaml.parse_str.Goals as goal

pub returns-in-Ok-clause-end : goal.returns-in-Ok-clause-end
returns-in-Ok-clause-end c =
    let s = rw c.in-Ok.is at c.in_ok-content.ensures.stream in
    read-from c.in-Ok.content (chars c.args.text.now) (record { plain = s.holds.plain; tree_is = s.holds.tree_is })
    (λ t within is. rw c.in-Ok.is at (c.in_ok-content.ensures.read t within is))

pub returns-in-Ok-clause-read : goal.returns-in-Ok-clause-read
returns-in-Ok-clause-read c = λ t within is. rw c.in-Ok.is at (c.in_ok-content.ensures.read t within is)

pub returns-in-Ok-clause-json : goal.returns-in-Ok-clause-json
returns-in-Ok-clause-json c = λ t within is. rw c.in-Ok.is at (c.in_ok-content.ensures.json t within is)

pub returns-in-Ok-clause-nodes : goal.returns-in-Ok-clause-nodes
returns-in-Ok-clause-nodes c = λ nodes is. rw c.in-Ok.is at (c.in_ok-content.ensures.nodes nodes is)

pub returns-in-Ok-clause-stream : goal.returns-in-Ok-clause-stream
returns-in-Ok-clause-stream c = rw c.in-Ok.is at c.in_ok-content.ensures.stream

pub returns-in-Ok-clause-within : goal.returns-in-Ok-clause-within
returns-in-Ok-clause-within c = tree-within c.in-Ok.content (rw c.in-Ok.is at c.in_ok-content.ensures.stream)

pub returns-in_ok-refused-in-Err-clause-end : goal.returns-in_ok-refused-in-Err-clause-end
returns-in_ok-refused-in-Err-clause-end c =
    refusal-end (chars c.args.text.now) c.args.path.now c.in-Err.refusal c.in_ok-refused-in-Err.field-0 c.in_ok-refused-in-Err.ensures
    (λ t within is. rw c.in-Err.is at (c.in_ok-content.ensures.read t within is))

pub returns-in_ok-refused-in-Err-clause-json_memory : goal.returns-in_ok-refused-in-Err-clause-json_memory
returns-in_ok-refused-in-Err-clause-json_memory c = λ t within is. absurd (rw c.in-Err.is at (c.in_ok-content.ensures.json t within is))

pub returns-in_ok-refused-in-Err-clause-nodes : goal.returns-in_ok-refused-in-Err-clause-nodes
returns-in_ok-refused-in-Err-clause-nodes c =
    λ nodes is.
    refusal-in nodes (chars c.args.text.now) c.args.path.now c.in-Err.refusal c.in_ok-refused-in-Err.field-0 (rw c.in-Err.is at (c.in_ok-content.ensures.nodes nodes is)) c.in_ok-refused-in-Err.ensures

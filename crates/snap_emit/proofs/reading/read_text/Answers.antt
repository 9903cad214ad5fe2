use Rattle.snap_emit.proofs.Prelude.{◌∷◌, [], Err, chars}
use Rattle.snap_emit.proofs.ReadTexts.{no-tree-in, strict-in, strict-of-stream, strict-cause, text-found, json-found, tree-in}
use Rattle.snap_emit.proofs.reading.read_text.Goals as goal

pub returns-in-Err-clause-nodes : goal.returns-in-Err-clause-nodes
returns-in-Err-clause-nodes c = λ nodes is. no-tree-in nodes c.in-Err.refusal (rw c.in-Err.is at (c.in_ok-refusal.ensures.nodes nodes is))

pub returns-in-Err-clause-cause : goal.returns-in-Err-clause-cause
returns-in-Err-clause-cause c = rw c.in-Err.is at c.in_ok-refusal.ensures.cause

pub returns-in-Err-clause-read : goal.returns-in-Err-clause-read
returns-in-Err-clause-read c =
    λ t within is.
    let f = text-found (chars c.args.text.now) t within is in
    tree-in (chars c.args.text.now) t (Err c.in-Err.refusal) f (no-tree-in (f.node ∷ []) c.in-Err.refusal (rw c.in-Err.is at (c.in_ok-refusal.ensures.nodes (f.node ∷ []) f.nodes)))

pub returns-in-Err-clause-json : goal.returns-in-Err-clause-json
returns-in-Err-clause-json c =
    λ t within is.
    let f = json-found (chars c.args.text.now) t within is in
    tree-in (chars c.args.text.now) t (Err c.in-Err.refusal) f (no-tree-in (f.node ∷ []) c.in-Err.refusal (rw c.in-Err.is at (c.in_ok-refusal.ensures.nodes (f.node ∷ []) f.nodes)))

pub returns-in-Ok-clause-nodes : goal.returns-in-Ok-clause-nodes
returns-in-Ok-clause-nodes c = λ nodes is. strict-in nodes c.in-Ok.loaded c.strict.result (rw c.in-Ok.is at (c.in_ok-refusal.ensures.nodes nodes is)) c.strict.ensures

pub returns-in-Ok-clause-stream : goal.returns-in-Ok-clause-stream
returns-in-Ok-clause-stream c = strict-of-stream c.in-Ok.loaded c.strict.result (rw c.in-Ok.is at c.in_ok-refusal.ensures.stream) c.strict.ensures

pub returns-in-Ok-clause-cause : goal.returns-in-Ok-clause-cause
returns-in-Ok-clause-cause c = strict-cause (chars c.args.text.now) c.in-Ok.loaded c.strict.result c.strict.ensures

pub returns-in-Ok-clause-read : goal.returns-in-Ok-clause-read
returns-in-Ok-clause-read c =
    λ t within is.
    let f = text-found (chars c.args.text.now) t within is in
    tree-in (chars c.args.text.now) t c.strict.result f
    (strict-in (f.node ∷ []) c.in-Ok.loaded c.strict.result (rw c.in-Ok.is at (c.in_ok-refusal.ensures.nodes (f.node ∷ []) f.nodes)) c.strict.ensures)

pub returns-in-Ok-clause-json : goal.returns-in-Ok-clause-json
returns-in-Ok-clause-json c =
    λ t within is.
    let f = json-found (chars c.args.text.now) t within is in
    tree-in (chars c.args.text.now) t c.strict.result f
    (strict-in (f.node ∷ []) c.in-Ok.loaded c.strict.result (rw c.in-Ok.is at (c.in_ok-refusal.ensures.nodes (f.node ∷ []) f.nodes)) c.strict.ensures)

use Rattle.snap_emit.proofs.Prelude.{◌∷◌, [], false, Ok, Err, chars}
use Rattle.snap_emit.specs.LayoutTrees.{layout_plain, layout_keeps}
use Rattle.snap_emit.proofs.Parsing.{header-read-from}
use Rattle.snap_emit.proofs.ReadTexts.{header-found, printed-found, laid-found, json-found, header-in, header-within}
use Rattle.snap_emit.proofs.yaml.parse_header.Goals as goal

pub returns-in-Ok-clause-end : goal.returns-in-Ok-clause-end
returns-in-Ok-clause-end c =
    let s = rw c.in-Ok.is at c.in_ok-header.ensures.stream in
    header-read-from c.in-Ok.header.content (chars c.args.text.now) (record { plain = s.holds.plain; tree_is = s.holds.tree_is })
    (λ t within is.
    let f = header-found (chars c.args.text.now) t within is in
    (header-in (chars c.args.text.now) t f.0 (Ok c.in-Ok.header) f.1 (rw c.in-Ok.is at (c.in_ok-header.ensures.nodes (f.1.node ∷ []) f.1.nodes))).0)

pub returns-in-Ok-clause-read : goal.returns-in-Ok-clause-read
returns-in-Ok-clause-read c =
    λ t within is.
    let f = header-found (chars c.args.text.now) t within is in
    (header-in (chars c.args.text.now) t f.0 (Ok c.in-Ok.header) f.1 (rw c.in-Ok.is at (c.in_ok-header.ensures.nodes (f.1.node ∷ []) f.1.nodes))).0

pub returns-in-Ok-clause-numbers : goal.returns-in-Ok-clause-numbers
returns-in-Ok-clause-numbers c = record {
  printed = λ t within is.
      let f = printed-found (chars c.args.text.now) t within is in
      (header-in (chars c.args.text.now) t false (Ok c.in-Ok.header) f (rw c.in-Ok.is at (c.in_ok-header.ensures.nodes (f.node ∷ []) f.nodes))).1;
  laid = λ d free is.
      let f = laid-found (chars c.args.text.now) d free is in
      (header-in (chars c.args.text.now) (layout_plain d.tree) (layout_keeps d.tree) (Ok c.in-Ok.header) f (rw c.in-Ok.is at (c.in_ok-header.ensures.nodes (f.node ∷ []) f.nodes))).1;
}

pub returns-in-Ok-clause-json : goal.returns-in-Ok-clause-json
returns-in-Ok-clause-json c =
    λ t within is.
    let f = json-found (chars c.args.text.now) t within is in
    (header-in (chars c.args.text.now) t false (Ok c.in-Ok.header) f (rw c.in-Ok.is at (c.in_ok-header.ensures.nodes (f.node ∷ []) f.nodes))).0

pub returns-in-Ok-clause-json_numbers : goal.returns-in-Ok-clause-json_numbers
returns-in-Ok-clause-json_numbers c =
    λ t within is.
    let f = json-found (chars c.args.text.now) t within is in
    (header-in (chars c.args.text.now) t false (Ok c.in-Ok.header) f (rw c.in-Ok.is at (c.in_ok-header.ensures.nodes (f.node ∷ []) f.nodes))).1

pub returns-in-Ok-clause-nodes : goal.returns-in-Ok-clause-nodes
returns-in-Ok-clause-nodes c = λ nodes is. rw c.in-Ok.is at (c.in_ok-header.ensures.nodes nodes is)

pub returns-in-Ok-clause-stream : goal.returns-in-Ok-clause-stream
returns-in-Ok-clause-stream c = rw c.in-Ok.is at c.in_ok-header.ensures.stream

pub returns-in-Ok-clause-within : goal.returns-in-Ok-clause-within
returns-in-Ok-clause-within c = header-within c.in-Ok.header (rw c.in-Ok.is at c.in_ok-header.ensures.stream)

pub returns-in_ok-try_clone-in-Err-clause-end : goal.returns-in_ok-try_clone-in-Err-clause-end
returns-in_ok-try_clone-in-Err-clause-end c = (
  c.in_ok-try_clone-in-Err.ensures,
  λ t within is.
      let f = header-found (chars c.args.text.now) t within is in
      header-in (chars c.args.text.now) t f.0 (Err c.in-Err.field-0) f.1 (rw c.in-Err.is at (c.in_ok-header.ensures.nodes (f.1.node ∷ []) f.1.nodes)),
)

pub returns-in_ok-try_clone-in-Err-clause-json_memory : goal.returns-in_ok-try_clone-in-Err-clause-json_memory
returns-in_ok-try_clone-in-Err-clause-json_memory c =
    λ t within is.
    let f = json-found (chars c.args.text.now) t within is in
    absurd (header-in (chars c.args.text.now) t false (Err c.in-Err.field-0) f (rw c.in-Err.is at (c.in_ok-header.ensures.nodes (f.node ∷ []) f.nodes)))

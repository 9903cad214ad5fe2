use Rattle.snap_text.proofs.Prelude.{◌≡◌, [], ◌∷◌, rules, ap, ◌∙◌, HasWritten, chars, written, trimmed, raw_of, kind_of, normal_of}
use Rattle.snap_text.proofs.Shown.{shown_line, shown_last, written-as}
use Rattle.snap_text.proofs.contents.TextSnapshotContentsDisplay.fmt.Goals as goal

pub loop-line-init : goal.loop-line-init
loop-line-init g c =
    let contents = c.args.self.now in
    let same : written c.width-byte.result (chars c.trimmed_text-rest.result.now) ≡ normal_of contents =
    ap (λ byte. written byte (chars c.trimmed_text-rest.result.now)) c.width-byte.ensures
    ∙ ap (written _) (c.trimmed_text-rest.ensures ∙ ap trimmed c.as_raw.ensures) ∙ written-as (kind_of contents) (raw_of contents) in
    record { utf8 = search rules; shown = λ plain. record { done = []; output = search rules; same = same } }

pub loop-line-preserved : goal.loop-line-preserved
loop-line-preserved g c = record {
  utf8 = search rules;
  shown = λ plain.
      let shown = c.loop-line.invariant.shown plain in
      let took = g.W.Write.write_str_gives in
      let one : HasWritten took c.loop-line.f c.trim_returns.result.now c.write_str.new.self = c.in_ok-write_str.ensures.writes shown.output.plain (search rules) in
      let two : HasWritten took c.write_str.new.self (10 ∷ []) c.write_str-in-Some.new.self = c.in_ok-write_str-2.ensures.writes one.plain (search rules) in
      shown_line took c.args.f.now c.loop-line.f c.write_str.new.self c.write_str-in-Some.new.self c.width-byte.result (normal_of c.args.self.now)
      (chars c.loop-line.rest.now) (chars c.in-Some.line.now) (chars c.in-Some.more.now) (chars c.from_byte.result.now) c.trim_returns.result.now c.in-Some.ensures.line
      c.trim_returns.utf8 c.trim_returns.ensures c.from_byte.ensures shown one two;
}

pub returns-clause-writes : goal.returns-clause-writes
returns-clause-writes g c = λ plain ok.
    let shown = c.loop-line.invariant.shown plain in
    shown_last g.W.Write.write_str_gives c.args.f.now c.loop-line.f c.write_str-2.new.self c.width-byte.result (normal_of c.args.self.now) (chars c.loop-line.rest.now)
    c.from_byte-2.result.now c.in_default.ensures.line c.from_byte-2.utf8 c.from_byte-2.ensures shown (c.write_str-2.ensures.writes shown.output.plain ok)

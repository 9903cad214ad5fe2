use Rattle.snap_store.proofs.Prelude.{◌≡◌, [], ◌++◌, rules, chars, line_of}
use Rattle.snap_store.proofs.Pieces.{body_first}
use Rattle.snap_store.proofs.split.body_text.Goals as goal

pub loop-piece-init : goal.loop-piece-init
loop-piece-init c =
    let piece = chars c.in-Some.first.now in
    let made : c.push_str.new.self ≡ [] ++ line_of piece = cc (c.in_ok-push_str.ensures.ok, c.line_text.ensures, c.empty-body.ensures) in
    record {
      utf8 = search rules;
      so_far = body_first c.push_str.new.self (chars c.args.text.now) piece (chars c.in-Some.others.now) made c.in-Some.ensures.line;
    }

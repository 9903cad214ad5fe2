use Rattle.snap_select.proofs.Prelude.{◌∷◌, sym, ◌∙◌, chars, is_xid_continue, front}
use Rattle.snap_select.proofs.PieceFacts.{name_cut, name_then}
use Rattle.snap_select.proofs.pieces.split_name.Goals as goal

pub before_rest-requires : goal.before_rest-requires
before_rest-requires c =
    let more = chars c.in-Some.more.now in (
      c.in-Some.c ∷ front is_xid_continue more,
      name_cut (chars c.args.text.now) more (chars c.past_name-rest.result.now) c.in-Some.c c.in-Some.ensures c.past_name-rest.ensures,
    )

pub returns-in-Some : goal.returns-in-Some
returns-in-Some c =
    let text = chars c.args.text.now in
    let more = chars c.in-Some.more.now in
    let rest = chars c.past_name-rest.result.now in
    name_then text more rest (chars c.before_rest.result.now) c.in-Some.c c.in-Some.ensures c.past_name-rest.ensures (sym c.begins_name.ensures ∙ c.if-begins_name.true)
    (c.before_rest.ensures (c.in-Some.c ∷ front is_xid_continue more) (name_cut text more rest c.in-Some.c c.in-Some.ensures c.past_name-rest.ensures))

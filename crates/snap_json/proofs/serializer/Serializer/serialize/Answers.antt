use Rattle.snap_json.proofs.Prelude.{tree, json_plain, written, Condensed}
use Rattle.snap_json.proofs.Calls.{on_ok, on_accepted, on_begun, on_refused, on_key, wrote_from}
use Rattle.snap_json.proofs.serializer.Serializer.serialize.Goals as goal

pub returns-clause-ok : goal.returns-clause-ok
returns-clause-ok c =
    let t = tree c.args.value.now in
    let r = c.write_value.result in
    let new = c.write_value.new.out in
    on_ok Condensed t r c.args.self.now new
    (wrote_from r c.self.inside.out c.args.self.now new (written Condensed 0 (json_plain t)) c.self.view_is c.write_value.ensures.wrote)

pub returns-clause-accepted : goal.returns-clause-accepted
returns-clause-accepted c =
    on_accepted Condensed (tree c.args.value.now) c.write_value.result c.self.inside.out c.write_value.new.out c.write_value.ensures.wrote

pub returns-clause-begun : goal.returns-clause-begun
returns-clause-begun c =
    let t = tree c.args.value.now in
    let r = c.write_value.result in
    let new = c.write_value.new.out in
    on_begun Condensed t r c.args.self.now new
    (wrote_from r c.self.inside.out c.args.self.now new (written Condensed 0 (json_plain t)) c.self.view_is c.write_value.ensures.wrote)

pub returns-clause-refused : goal.returns-clause-refused
returns-clause-refused c =
    on_refused Condensed (tree c.args.value.now) c.write_value.result c.self.inside.out c.write_value.new.out c.write_value.ensures.wrote

pub returns-clause-up_to_key : goal.returns-clause-up_to_key
returns-clause-up_to_key c =
    let t = tree c.args.value.now in
    let r = c.write_value.result in
    let new = c.write_value.new.out in
    on_key Condensed t r c.args.self.now new
    (wrote_from r c.self.inside.out c.args.self.now new (written Condensed 0 (json_plain t)) c.self.view_is c.write_value.ensures.wrote)

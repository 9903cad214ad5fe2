use Rattle.snap_demo.proofs.Prelude.{◌≡◌, ◌-◌, ◌++◌, encode_utf8_all, concat, documents_from, demo_input}
use Rattle.snap_demo.proofs.input.demo_input.Given as goal

abbrev pub invariant-loop-index : goal.invariant-loop-index
invariant-loop-index l = encode_utf8_all l.text ++ concat (documents_from l.index l.number (l.count - l.index)) ≡ demo_input l.fn.seed l.count

use Rattle.snap_yaml.proofs.Numerals.{read-ok, read-err}
use Rattle.snap_yaml.proofs.numbers.integer.Goals as goal

pub returns-in-Ok : goal.returns-in-Ok
returns-in-Ok c = read-ok c.args.base c.args.text.now c.in-Ok.number c.requires.most c.in-Ok.ensures.value

pub returns-in-Err : goal.returns-in-Err
returns-in-Err c = read-err c.args.base c.args.text.now c.requires.most c.utf8.text c.in-Err.ensures.value

use Rattle.snap_scan_tokens.proofs.Prelude.{rules, List, ℕ, subst, EndsIn}
use Rattle.snap_scan_tokens.proofs.Pieces.{ends-next}
use Rattle.snap_scan_tokens.proofs.Places.{later-next}
use Rattle.snap_scan_tokens.proofs.cursor.Cursor.pass.Goals as goal

pub returns-clause-travels : goal.returns-clause-travels
returns-clause-travels c = record {
  onward = λ p h. later-next p c.args.self.now _ (search rules) h;
  within = λ all h. let P : List ℕ → Type 0 = λ l. EndsIn all l in ends-next all c.args.first _ (subst P c.requires.here h);
  sum = search rules;
  lighter = search rules;
}

use Rattle.snap_yaml.proofs.Prelude.{◌∙◌, value_of, array_list}
use Rattle.snap_yaml.proofs.Views.{items-kept}
use Rattle.snap_yaml.proofs.iter.YamlIntoIterator.into_iter.Goals as goal

pub returns-in-Some : goal.returns-in-Some
returns-in-Some c = record {
  into_iter_gives =
      items-kept (value_of c.args.self) (array_list c.in-Some.items) _ (rw c.in-Some.is at c.into_vec.ensures) (c.into_iter.ensures.rest ∙ c.into_vec-in-Some.ensures);
}

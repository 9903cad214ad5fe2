-- How a scalar is taken, in words that stand after it.
use Rattle.std.specs.Prelude.{ℕ, List, codes}
use Rattle.snap_explain_scalars.specs.declared.otherwise.Otherwise.{Otherwise}
use Rattle.snap_explain_scalars.specs.declared.otherwise.Otherwise.TheVariants as o

-- the words
abbrev pub said : Otherwise → List ℕ
said o.TextOrNumber = codes "a number here, and a text or another number to some other readers of YAML"
said o.Text = codes "a number here, and a text to some other readers of YAML"
said o.Truth = codes "a text here, and a truth value to some other readers of YAML"
said o.Null = codes "a text here, and null to some other readers of YAML"
said o.Number = codes "a text here, and a number to some other readers of YAML"
said o.Date = codes "a text here, and a date to some other readers of YAML"
said o.MergeKey = codes "a text here, and a merge key to some other readers of YAML"
said o.DefaultKey = codes "a text here, and a default key to some other readers of YAML"

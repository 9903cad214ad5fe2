-- The lines that tell of a demonstration.
use Rattle.std.specs.Prelude.{ℕ, List, ◌++◌, codes}
use Rattle.std.specs.Fmt.{decimal}

-- how many requests there were, how many of them passed the second time, and how many bytes their files have
abbrev pub demo_lines : ℕ → ℕ → ℕ → List ℕ
demo_lines count passed bytes =
    codes "requests " ++ (decimal count ++ (codes "\npassed " ++ (decimal passed ++ (codes "\nbytes " ++ (decimal bytes ++ codes "\n")))))

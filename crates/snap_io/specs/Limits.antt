-- How much a store over real files takes.
use Rattle.std.specs.Prelude.{ℕ}

-- the bytes of the longest file: 64 MiB
abbrev pub most_bytes : ℕ
most_bytes = 67108864

-- the names of the fullest folder
abbrev pub most_names : ℕ
most_names = 1000000

-- the names of helpers that are tried
abbrev pub most_helpers : ℕ
most_helpers = 1000

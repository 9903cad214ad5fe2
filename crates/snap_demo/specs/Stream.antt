-- The stream of a demonstration.
use Rattle.std.specs.Prelude.{◌+◌, ℕ, zero, suc, List, [], ◌∷◌, encode_utf8_all}
use Rattle.std.specs.List.{concat}
use Rattle.snap_print.specs.Blocks.{off}
use Rattle.snap_print.specs.Lines.{document_of}
use Rattle.snap_run_requests.specs.Requests.{RequestView, Spells}
use Rattle.snap_demo.specs.Numbers.{next_of}
use Rattle.snap_demo.specs.Requests.{demo_tree, demo_request}

-- the document of a request, as it is printed of its tree
abbrev pub demo_text : ℕ → ℕ → List ℕ
demo_text i x = document_of off (demo_tree i x)

abbrev pub demo_document : ℕ → ℕ → List ℕ
demo_document i x = encode_utf8_all (demo_text i x)

-- so many documents, from a place and a number on
abbrev pub documents_from : ℕ → ℕ → ℕ → List (List ℕ)
documents_from i x zero = []
documents_from i x (suc n) = demo_document i x ∷ documents_from (i + 1) (next_of x) n

-- and their requests
abbrev pub requests_from : ℕ → ℕ → ℕ → List RequestView
requests_from i x zero = []
requests_from i x (suc n) = demo_request i x ∷ requests_from (i + 1) (next_of x) n

-- the documents of a demonstration, whose numbers begin with the seed
abbrev pub demo_documents : ℕ → ℕ → List (List ℕ)
demo_documents seed count = documents_from 0 seed count

-- the requests of a demonstration
abbrev pub demo_requests : ℕ → ℕ → List RequestView
demo_requests seed count = requests_from 0 seed count

-- the documents, one behind the other
abbrev pub demo_input : ℕ → ℕ → List ℕ
demo_input seed count = concat (demo_documents seed count)

-- as many documents as requests, and each spells its request
abbrev pub SpellEach : List (List ℕ) → List RequestView → Type 0
SpellEach [] [] = Unit {0}
SpellEach [] (r ∷ rs) = ⊥
SpellEach (d ∷ ds) [] = ⊥
SpellEach (d ∷ ds) (r ∷ rs) = Spells d r × SpellEach ds rs

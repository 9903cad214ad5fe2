-- The requests of a demonstration, each by its place in the stream, counted from 0, and its number.
use Rattle.std.specs.Prelude.{◌==◌, ◌+◌, ◌/◌, ◌%◌, ℕ, zero, suc, pos, false, List, [], ◌∷◌, ◌++◌, Some, codes, if◌then◌else◌}
use Rattle.std.specs.Fmt.{decimal}
use Rattle.snap_content.specs.Plain.{Plain, int, text, list, dict, Plains, no_items, item, no_entries, entry, content_of}
use Rattle.snap_run_requests.specs.Requests.{AssertionView, RequestView, asserts}

-- the source file of a request: a hundred requests share a folder
abbrev pub demo_file : ℕ → List ℕ
demo_file i = codes "src/d" ++ (decimal (i / 100) ++ codes "/demo.rs")

-- the name of a request
abbrev pub demo_name : ℕ → List ℕ
demo_name i = codes "r" ++ decimal i

-- a tag: the letter t and a number
abbrev pub tag_of : ℕ → Plain
tag_of k = text (codes "t" ++ decimal k)

-- so many tags, from one on
abbrev pub tags_from : ℕ → ℕ → Plains
tags_from k zero = no_items
tags_from k (suc n) = item (tag_of k) (tags_from (k + 1) n)

-- one of four notes
abbrev pub note_of : ℕ → List ℕ
note_of k = if k == 0 then codes "plain" else (if k == 1 then codes "0o17" else (if k == 2 then codes "two words" else codes "a: b"))

-- the value: the place, the number, up to three tags and a note, both by the number
abbrev pub demo_value : ℕ → ℕ → Plain
demo_value i x = dict (
    entry (text (codes "id")) (int (pos i)) (
    entry (text (codes "seed")) (int (pos x)) (
    entry (text (codes "tags")) (list (tags_from 0 (x % 4))) (
    entry (text (codes "note")) (text (note_of (x / 4 % 4))) no_entries))))

-- the request as a tree
abbrev pub demo_tree : ℕ → ℕ → Plain
demo_tree i x = dict (
    entry (text (codes "module")) (text (codes "demo")) (
    entry (text (codes "file")) (text (demo_file i)) (
    entry (text (codes "line")) (int (pos (i + 1))) (
    entry (text (codes "name")) (text (demo_name i)) (
    entry (text (codes "expr")) (text (codes "demo")) (
    entry (text (codes "value")) (demo_value i x) no_entries))))))

-- the assertion that the request asks for
abbrev pub demo_assertion : ℕ → ℕ → AssertionView
demo_assertion i x = record {
  module_name = codes "demo";
  file = demo_file i;
  line = i + 1;
  name = Some (demo_name i);
  function = [];
  suffix = [];
  expr = codes "demo";
  value = content_of (demo_value i x);
  redactions = [];
  sort = false;
}

-- the request
abbrev pub demo_request : ℕ → ℕ → RequestView
demo_request i x = asserts (demo_assertion i x)

-- What a command does with one document.
use Rattle.std.specs.Prelude.{◌≡◌, ◌++◌, ◌&&◌, ◌⊎◌, ℕ, Bool, true, false, not, List, [], ◌∷◌, Option, None, Some, Result, Ok, Err, codes, if◌then◌else◌, unwrap_or}
use Rattle.snap_content.specs.Tree as t
use Rattle.snap_content.specs.Plain.{Plain, dict, Entries, plain, content_of}
use Rattle.snap_content.specs.View.{tree}
use Rattle.snap_content.specs.declared.content.Content.{Content}
use Rattle.snap_print.specs.Blocks.{off}
use Rattle.snap_print.specs.Lines.{document_of}
use Rattle.snap_front.specs.Commands.{ReplyView, done, given, bad_header, not_map, absent, no_parent, root, refusal_of}
use Rattle.snap_front.specs.Reading.{MayReadAs, ReadsAsNone}
use Rattle.snap_front.specs.TreePaths.{get_tree, set_tree, remove_tree}
use Rattle.snap_front.specs.declared.refusal.Refusal.{Refusal}
use Rattle.snap_front.specs.declared.step.Step.{Step}

-- the reply with the tree at the end of a path
abbrev pub found : Option t.Tree → ReplyView
found None = absent
found (Some part) = given part

abbrev pub is_map : t.Tree → Bool
is_map (t.map pairs) = true
is_map other = false

abbrev pub is_empty_path : List Step → Bool
is_empty_path [] = true
is_empty_path (s ∷ ss) = false

-- a new head, if there is one, and the reply
abbrev pub Changed : Type 0
Changed = Option t.Tree × ReplyView

abbrev pub set_or_refused : Option t.Tree → Changed
set_or_refused None = (None, no_parent)
set_or_refused (Some new) = (Some new, done)

-- the value at the end of the path: the whole head is a map, whatever is set
abbrev pub set_head : List Step → t.Tree → t.Tree → Changed
set_head steps value head = if is_empty_path steps && not (is_map value) then (None, not_map) else set_or_refused (set_tree steps value head)

abbrev pub removed_or_refused : ReplyView → Option t.Tree → Changed
removed_or_refused reply None = (None, absent)
removed_or_refused reply (Some new) = (Some new, reply)

-- the head without what is at the end of the path, which is given; the whole head can't be removed
abbrev pub remove_head : List Step → t.Tree → Changed
remove_head [] head = (None, root)
remove_head (s ∷ ss) head = removed_or_refused (found (get_tree (s ∷ ss) head)) (remove_tree (s ∷ ss) head)

-- the text of a document: its header printed anew between two fences, and its body
abbrev pub printed_of : t.Tree → List ℕ → List ℕ
printed_of head body = document_of off (plain head) ++ (codes "---\n" ++ body)

-- the head is the new one, or as it was, and the reply was given
pub record IsChanged (changed : Changed) (old new : t.Tree) (reply : ReplyView) : Type 0 where
  pub head : new ≡ unwrap_or changed.0 old
  pub reply_is : reply ≡ changed.1

-- why nothing was set, or that it was
abbrev pub set_reply : Option Refusal → ReplyView
set_reply None = done
set_reply (Some refusal) = refusal_of refusal

-- what was removed, or why nothing was
abbrev pub removed_reply : Result Content Refusal → ReplyView
removed_reply (Ok part) = given (tree part)
removed_reply (Err refusal) = refusal_of refusal

abbrev pub is_dict : Plain → Bool
is_dict (dict _) = true
is_dict _ = false

-- a header that may be taken for a tree that is no map
pub record IsNoMap (header : List ℕ) (refusal : Refusal) : Type 0 where
  pub refusal_is : refusal_of refusal ≡ not_map
  pub made : Plain
  pub may : MayReadAs header made
  pub other : is_dict made ≡ false

-- a header that reads as no tree
pub record IsNoTree (header : List ℕ) (refusal : Refusal) : Type 0 where
  pub refusal_is : refusal_of refusal ≡ bad_header
  pub nothing : ReadsAsNone header

-- the map that a tree is; or that it is none
abbrev pub IsMapOf : t.Tree → Result Content Refusal → Type 0
IsMapOf made (Ok head) = (tree head ≡ made) × (is_map made ≡ true)
IsMapOf made (Err refusal) = (refusal_of refusal ≡ not_map) × (is_map made ≡ false)

-- what was read of a header: the map that it may be taken for; or why there is none
abbrev pub IsHeadOf : List ℕ → Result Content Refusal → Type 0
IsHeadOf header (Ok head) = (entries : Entries) × (tree head ≡ content_of (dict entries)) × MayReadAs header (dict entries)
IsHeadOf header (Err refusal) = IsNoTree header refusal ⊎ IsNoMap header refusal

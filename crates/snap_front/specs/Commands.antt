-- Commands on documents, and what is replied to them, as plain data.
use Rattle.std.specs.Prelude.{ℕ, List}
use Rattle.snap_content.specs.Tree as t
use Rattle.snap_content.specs.View.{tree}
use Rattle.snap_front.specs.Paths.{steps_of}
use Rattle.snap_front.specs.declared.command.Command.{Command}
use Rattle.snap_front.specs.declared.command.Command.TheVariants as c
use Rattle.snap_front.specs.declared.refusal.Refusal.{Refusal}
use Rattle.snap_front.specs.declared.refusal.Refusal.TheVariants as f
use Rattle.snap_front.specs.declared.reply.Reply.{Reply}
use Rattle.snap_front.specs.declared.reply.Reply.TheVariants as r
use Rattle.snap_front.specs.declared.step.Step.{Step}

-- a command: to put a text as a document under a name, to get what stands at the end of a path in the document's header, to set it, to
-- remove it, or to print the document
pub data CommandView : Type 0 where
  puts : (name text : List ℕ) → CommandView
  gets : (name : List ℕ) (path : List Step) → CommandView
  sets : (name : List ℕ) (path : List Step) (value : t.Tree) → CommandView
  removes : (name : List ℕ) (path : List Step) → CommandView
  prints : (name : List ℕ) → CommandView

-- a reply: done, a tree, a printed document, or why nothing was done
pub data ReplyView : Type 0 where
  done : ReplyView
  given : t.Tree → ReplyView
  printed : List ℕ → ReplyView
  not_front : ReplyView
  bad_header : ReplyView
  not_map : ReplyView
  no_name : ReplyView
  absent : ReplyView
  no_parent : ReplyView
  root : ReplyView

-- what a command means
abbrev pub command_of : Command → CommandView
command_of (c.Put name text) = puts name text
command_of (c.Get name path) = gets name (steps_of path)
command_of (c.Set name path value) = sets name (steps_of path) (tree value)
command_of (c.Remove name path) = removes name (steps_of path)
command_of (c.Print name) = prints name

-- what a reply means
abbrev pub reply_of : Reply → ReplyView
reply_of r.Done = done
reply_of r.NotFront = not_front
reply_of r.BadHeader = bad_header
reply_of r.NotMap = not_map
reply_of (r.Tree part) = given (tree part)
reply_of r.Absent = absent
reply_of r.NoParent = no_parent
reply_of r.Root = root
reply_of r.NoName = no_name
reply_of (r.Printed text) = printed text

-- the reply that says why nothing was done
abbrev pub refusal_of : Refusal → ReplyView
refusal_of f.NotFront = not_front
refusal_of f.BadHeader = bad_header
refusal_of f.NotMap = not_map
refusal_of f.Absent = absent
refusal_of f.NoParent = no_parent
refusal_of f.Root = root
refusal_of f.NoName = no_name

-- What a builder of trees has made of the events so far: what a loader has, with each value as it is read.
use Rattle.std.specs.Prelude.{◌≡◌, ◌≢◌, List, [], ◌∷◌, ◌++◌, Bool, true, false, ◌||◌, ◌&&◌, Option, None, Some, is_some, option_map, map, if◌then◌else◌, Result, Ok, Err}
use Rattle.snap_content.specs.Plain.{content_of}
use Rattle.snap_content.specs.Tree as t
use Rattle.snap_content.specs.View.{tree, pair_tree, item_list, pair_list, Items, Pairs}
use Rattle.snap_parse_events.specs.declared.event.Event.{Event}
use Rattle.snap_parse_events.specs.declared.event.Event.TheVariants as e
use Rattle.snap_yaml.specs.Readers.{is_bad}
use Rattle.snap_yaml.specs.Value.{Value, values_of, pairs_of, real, integer, string, boolean, array, hash, null, bad_value}
use Rattle.snap_parse.specs.Aliases.{has_alias}
use Rattle.snap_parse.specs.Documents.{scalar_value}
use Rattle.snap_parse.specs.Steps.{Held, in_list, in_dict, LoadState, start, steps}
use Rattle.snap_emit.specs.PlainRead.{plain_read, is_number_first, is_number_first_of, is_number_first_in}
use Rattle.snap_emit.specs.declared.builder.Builder.{Builder}
use Rattle.snap_emit.specs.declared.builder.Ended.{Ended}
use Rattle.snap_emit.specs.declared.builder.Ended.TheVariants as d
use Rattle.snap_emit.specs.declared.frame.Frame.{Frame}
use Rattle.snap_emit.specs.declared.frame.Frame.TheVariants as f
use Rattle.snap_emit.specs.declared.loaded.Loaded.{Loaded}
use Rattle.snap_emit.specs.declared.made.Made.{Made}
use Rattle.snap_emit.specs.declared.made.Made.TheVariants as m
use Rattle.snap_emit.specs.declared.refusal.Refusal.{Refusal}
use Rattle.snap_emit.specs.declared.refusal.Refusal.TheVariants.{NoYaml, NotOneDocument, Alias, NoTree, Number}

-- what is kept of a value: the tree that it is read as, if it is one; whether a number that is kept as its text comes first in it; and
-- whether it is a bad value itself
pub record Reading : Type 0 where
  pub tree : Option t.Tree
  pub number : Bool
  pub bad : Bool

abbrev pub tree_read : Value → Option t.Tree
tree_read v = option_map content_of (plain_read v)

abbrev pub reading : Value → Reading
reading v = record { tree = tree_read v; number = is_number_first v; bad = is_bad v }

-- a value that is neither a list nor a mapping
abbrev pub is_word_value : Value → Bool
is_word_value (array vs) = false
is_word_value (hash ps) = false
is_word_value _ = true

-- an item before others and after others, where there is each of them
abbrev pub before : {X : Type 0} → Option X → Option (List X) → Option (List X)
before None xs = None
before (Some x) None = None
before (Some x) (Some xs) = Some (x ∷ xs)

abbrev pub behind : {X : Type 0} → Option (List X) → Option X → Option (List X)
behind None x = None
behind (Some xs) None = None
behind (Some xs) (Some x) = Some (xs ++ x ∷ [])

abbrev pub both : {X : Type 0} → Option X → Option X → Option (X × X)
both None y = None
both (Some x) None = None
both (Some x) (Some y) = Some (x, y)

-- the trees of values, where each is one
abbrev pub trees_read : List Value → Option (List t.Tree)
trees_read [] = Some []
trees_read (v ∷ vs) = before (tree_read v) (trees_read vs)

abbrev pub pairs_read : List (Value × Value) → Option (List (t.Tree × t.Tree))
pairs_read [] = Some []
pairs_read (p ∷ ps) = before (both (tree_read p.0) (tree_read p.1)) (pairs_read ps)

-- a list that is open, with its trees so far and whether a number comes first in them; or a mapping, with the key whose value is due
pub data Open : Type 0 where
  list_open : Option (List t.Tree) → Bool → Open
  dict_open : Option (List (t.Tree × t.Tree)) → Bool → Option Reading → Open

abbrev pub open_of : Held → Open
open_of (in_list vs) = list_open (trees_read vs) (is_number_first_of (values_of vs))
open_of (in_dict ps k) = dict_open (pairs_read ps) (is_number_first_in (pairs_of ps)) (option_map reading k)

-- the documents that have ended: none, one, or several
pub data Documents : Type 0 where
  nothing : Documents
  one : Reading → Documents
  several : Documents

abbrev pub documents_of : List Value → Documents
documents_of [] = nothing
documents_of (v ∷ []) = one (reading v)
documents_of (v ∷ w ∷ vs) = several

pub record BuildState : Type 0 where
  pub documents : Documents
  pub node : Option Reading
  pub held : List Open

-- a loader's state, with each value as it is read
abbrev pub state_read : LoadState → BuildState
state_read s = record { documents = documents_of s.documents; node = option_map reading s.node; held = map open_of s.held }

-- what a step of a loader comes to: a node goes into what is open
abbrev pub put_open : Reading → Open → Open
put_open r (list_open ts b) = list_open (behind ts r.tree) (b || (is_some ts && r.number))
put_open r (dict_open ps b None) = dict_open ps b (if r.bad then None else Some r)
put_open r (dict_open ps b (Some k)) = dict_open (behind ps (both k.tree r.tree)) (b || (is_some ps && (k.number || (is_some k.tree && r.number)))) None

abbrev pub put_read_at : Reading → Documents → Option Reading → List Open → BuildState
put_read_at r documents whole [] = record { documents = documents; node = Some r; held = [] }
put_read_at r documents whole (o ∷ os) = record { documents = documents; node = whole; held = put_open r o ∷ os }

abbrev pub put_read : Reading → BuildState → BuildState
put_read r s = put_read_at r s.documents s.node s.held

abbrev pub seq_read : Option (List t.Tree) → Option t.Tree
seq_read ts = option_map (λ xs. t.seq (t.trees_of xs)) ts

abbrev pub map_read : Option (List (t.Tree × t.Tree)) → Option t.Tree
map_read ps = option_map (λ xs. t.map (t.pairs_of xs)) ps

-- what was open ends
abbrev pub closed_read : Open → Reading
closed_read (list_open ts b) = record { tree = seq_read ts; number = b; bad = false }
closed_read (dict_open ps b k) = record { tree = map_read ps; number = b; bad = false }

abbrev pub close_read_at : Documents → Option Reading → List Open → BuildState
close_read_at documents whole [] = record { documents = documents; node = whole; held = [] }
close_read_at documents whole (o ∷ os) = put_read_at (closed_read o) documents whole os

abbrev pub close_read : BuildState → BuildState
close_read s = close_read_at s.documents s.node s.held

-- a document ends; one without a node is a bad value
abbrev pub bad_reading : Reading
bad_reading = record { tree = None; number = false; bad = true }

abbrev pub reading_or_bad : Option Reading → Reading
reading_or_bad None = bad_reading
reading_or_bad (Some r) = r

abbrev pub one_more : Documents → Reading → Documents
one_more nothing r = one r
one_more (one q) r = several
one_more several r = several

abbrev pub end_read : BuildState → BuildState
end_read s = record { documents = one_more s.documents (reading_or_bad s.node); node = None; held = s.held }

abbrev pub open_read : Open → BuildState → BuildState
open_read o s = record { documents = s.documents; node = s.node; held = o ∷ s.held }

abbrev pub step_read : Event → BuildState → BuildState
step_read e.StreamStart s = s
step_read e.StreamEnd s = s
step_read e.DocumentStart s = s
step_read e.DocumentEnd s = end_read s
step_read (e.Alias id) s = s
step_read (e.Scalar text style id tag) s = put_read (reading (scalar_value text style tag)) s
step_read (e.SequenceStart id) s = open_read (list_open (Some []) false) s
step_read e.SequenceEnd s = close_read s
step_read (e.MappingStart id) s = open_read (dict_open (Some []) false None) s
step_read e.MappingEnd s = close_read s

-- what is seen of a builder and of its parts
abbrev pub items_seen : Option Items → Option (List t.Tree)
items_seen items = option_map (λ x. map tree (item_list x)) items

abbrev pub pairs_seen : Option Pairs → Option (List (t.Tree × t.Tree))
pairs_seen pairs = option_map (λ x. map pair_tree (pair_list x)) pairs

abbrev pub seen : Made → Reading
seen m.Bad = reading bad_value
seen m.Null = reading null
seen (m.Truth b) = reading (boolean b)
seen (m.Integer z) = reading (integer z)
seen (m.Text s) = reading (string s)
seen (m.Number w) = reading (real w)
seen (m.List items number) = closed_read (list_open (items_seen items) number)
seen (m.Dict pairs number) = closed_read (dict_open (pairs_seen pairs) number None)

abbrev pub open_seen : Frame → Open
open_seen (f.List items number) = list_open (items_seen items) number
open_seen (f.Dict pairs number due) = dict_open (pairs_seen pairs) number (option_map seen due)

abbrev pub documents_seen : Ended → Documents
documents_seen d.Nothing = nothing
documents_seen (d.One m) = one (seen m)
documents_seen d.Several = several

abbrev pub built : Builder → BuildState
built b = record { documents = documents_seen b.ended; node = option_map seen b.node; held = map open_seen b.open.items }

-- one that has lost no event has made of these events what a loader would, as it is read, and knows whether an alias is among them
abbrev pub HasBuilt : Builder → List Event → Type 0
HasBuilt b events = b.is_broken ≡ false → (built b ≡ state_read (steps events start)) × (b.has_alias ≡ has_alias events)

-- what a document is, from what its node is
pub record IsNodeOf (r : Reading) (aliased : Bool) (loaded : Loaded) : Type 0 where
  pub content : option_map tree loaded.content ≡ r.tree
  pub number : loaded.has_number_text ≡ r.number
  pub alias : loaded.has_alias ≡ aliased

-- the one document of these, or there is not one
abbrev pub IsOneDocument : Documents → Bool → Result Loaded Refusal → Type 0
IsOneDocument (one r) aliased (Ok loaded) = IsNodeOf r aliased loaded
IsOneDocument nothing aliased (Err NotOneDocument) = Unit {0}
IsOneDocument several aliased (Err NotOneDocument) = Unit {0}
IsOneDocument documents aliased read = ⊥

-- the one document of these, as it is read
pub record IsOneOf (documents : List Value) (aliased : Bool) (loaded : Loaded) : Type 0 where
  pub value : Value
  pub alone : documents ≡ value ∷ []
  pub content : option_map tree loaded.content ≡ tree_read value
  pub number : loaded.has_number_text ≡ is_number_first value
  pub alias : loaded.has_alias ≡ aliased

abbrev pub IsLoadedFrom : List Value → Bool → Result Loaded Refusal → Type 0
IsLoadedFrom documents aliased (Ok loaded) = IsOneOf documents aliased loaded
IsLoadedFrom documents aliased (Err (NoYaml error)) = ⊥
IsLoadedFrom documents aliased (Err NotOneDocument) = (v : Value) → documents ≢ v ∷ []
IsLoadedFrom documents aliased (Err Alias) = ⊥
IsLoadedFrom documents aliased (Err NoTree) = ⊥
IsLoadedFrom documents aliased (Err Number) = ⊥

-- what a builder hands out is the one document that a loader of its events would have, or there is not one
abbrev pub HoldsLoaded : Builder → Result Loaded Refusal → Type 0
HoldsLoaded b read = (events : List Event) → HasBuilt b events → IsLoadedFrom (steps events start).documents (has_alias events) read

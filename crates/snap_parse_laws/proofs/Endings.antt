-- The form of a plain tree ends in a block where the tree does.
use Rattle.snap_parse_laws.proofs.Prelude.{◌≡◌, ℕ, Bool, true, false, List, Option, None, Some, refl, ◌∙◌, nat_le, length, if◌then◌else◌, Blocks, before_more, before_items, before_entries, as_block, child_of, form_of, forms_of, entries_of, entry_of, scalar_of}
use Rattle.snap_content.specs.Plain.{Plain, null, bool, int, text, list, dict, Plains, no_items, item, Entries, no_entries, entry}
use Rattle.snap_parse_laws.specs.Endings as e
use Rattle.snap_parse_laws.specs.FormEndings as f
use Rattle.snap_parse_laws.specs.Forms as form

-- an item or a value
abbrev child_form : Blocks → Plain → form.Form
child_form w p = child_of w (as_block w p) (form_of w p)

child-by : (w : Blocks) (o : Option (List ℕ)) (t : form.Form) (b : Bool) → f.ends_in_block t ≡ b → f.ends_in_block (child_of w o t) ≡ e.child_ends o b
child-by w None t b h = h
child-by w (Some s) t b h = refl

child-end : (w : Blocks) (p : Plain) → f.ends_in_block (form_of w p) ≡ e.ends_in_block w p → f.ends_in_block (child_form w p) ≡ e.child_ends (as_block w p) (e.ends_in_block w p)
child-end w p h = child-by w (as_block w p) (form_of w p) (e.ends_in_block w p) h

entry-if : (b : Bool) (s : form.Scalar) (q v : form.Form) → f.entry_ends (if b then form.simple s v else form.complex q v) ≡ f.ends_in_block v
entry-if true s q v = refl
entry-if false s q v = refl

entry-end : (o : Option form.Scalar) (q v : form.Form) → f.entry_ends (entry_of o q v) ≡ f.ends_in_block v
entry-end None q v = refl
entry-end (Some s) q v = entry-if (nat_le (length (form.spelled s)) 1024) s q v

abbrev pair_form : Blocks → Plain → Plain → Entries → form.Entry
pair_form w k v es = entry_of (scalar_of k) (form_of (before_more w) k) (child_form (before_entries w es) v)

mutual
  pub same-end : (w : Blocks) (p : Plain) → f.ends_in_block (form_of w p) ≡ e.ends_in_block w p
  same-end w null = refl
  same-end w (bool b) = refl
  same-end w (int z) = refl
  same-end w (text s) = refl
  same-end w (list no_items) = refl
  same-end w (list (item p ps)) = same-items w p ps (same-end w p)
  same-end w (dict no_entries) = refl
  same-end w (dict (entry k v es)) = same-entries w k v es (same-end w v)

  -- the last of some items, the first of which ends so if it is the last
  same-items : (w : Blocks) (p : Plain) (ps : Plains) → f.ends_in_block (form_of w p) ≡ e.ends_in_block w p
      → f.forms_end (forms_of w (child_form (before_items w ps) p) ps) ≡ e.items_end w (item p ps)
  same-items w p no_items h = child-end w p h
  same-items w p (item q ps) h = same-items w q ps (same-end w q)

  same-entries : (w : Blocks) (k v : Plain) (es : Entries) → f.ends_in_block (form_of w v) ≡ e.ends_in_block w v
      → f.entries_end (entries_of w (pair_form w k v es) es) ≡ e.entries_end w (entry k v es)
  same-entries w k v no_entries h = entry-end (scalar_of k) (form_of (before_more w) k) (child_form w v) ∙ child-end w v h
  same-entries w k v (entry l x es) h = same-entries w l x es (same-end w x)

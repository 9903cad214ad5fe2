-- A plain tree and its shape have the same lines.
use Rattle.snap_emit_values.proofs.Prelude.{◌≡◌, ℕ, List, [], ◌∷◌, ◌++◌, Bool, if◌then◌else◌, refl, ap, ◌∙◌, None, Some, Option, codes, flat_map}
use Rattle.snap_content.specs.Plain as p
use Rattle.snap_content.specs.Lines.{ended}
use Rattle.snap_print.specs.Spell as sp
use Rattle.snap_print.specs.Blocks.{Blocks, before_more, as_block}
use Rattle.snap_print.specs.Lines as b
use Rattle.snap_emit_values.specs.Columns.{text_at}
use Rattle.snap_emit_values.specs.Document.{body, document}
use Rattle.snap_emit_values.specs.Shape as s
use Rattle.snap_emit_values.proofs.Columned.{whole-text}

same-place : (w : Blocks) (ps : p.Plains) → s.before_shapes w (s.plain_shapes ps) ≡ b.before_items w ps
same-place w p.no_items = refl
same-place w (p.item t ts) = refl

same-pair-place : (w : Blocks) (es : p.Entries) → s.before_pairs w (s.plain_pairs es) ≡ b.before_entries w es
same-pair-place w p.no_entries = refl
same-pair-place w (p.entry k v es) = refl

same-block : (w : Blocks) (t : p.Plain) → s.block_in w (s.plain_shape t) ≡ as_block w t
same-block w p.null = refl
same-block w (p.bool x) = refl
same-block w (p.int z) = refl
same-block w (p.text x) = refl
same-block w (p.list xs) = refl
same-block w (p.dict es) = refl

same-flat : (t : p.Plain) → s.is_flat (s.plain_shape t) ≡ sp.is_flat t
same-flat p.null = refl
same-flat (p.bool x) = refl
same-flat (p.int z) = refl
same-flat (p.text x) = refl
same-flat (p.list p.no_items) = refl
same-flat (p.list (p.item t ts)) = refl
same-flat (p.dict p.no_entries) = refl
same-flat (p.dict (p.entry k v es)) = refl

same-spelled : (t : p.Plain) → s.spelled (s.plain_shape t) ≡ sp.spelling t
same-spelled p.null = refl
same-spelled (p.bool x) = refl
same-spelled (p.int z) = refl
same-spelled (p.text x) = refl
same-spelled (p.list xs) = refl
same-spelled (p.dict es) = refl

same-simple : (t : p.Plain) → s.is_simple (s.plain_shape t) ≡ b.is_simple t
same-simple p.null = refl
same-simple (p.bool x) = refl
same-simple (p.int z) = refl
same-simple (p.text x) = refl
same-simple (p.list xs) = refl
same-simple (p.dict es) = refl

same-keyed : (w : Blocks) (key : List ℕ) (v : p.Plain) (o : Option (List ℕ)) (ls : List (List ℕ)) → s.keyed w key (s.plain_shape v) o ls ≡ b.keyed w key v o ls
same-keyed w key v None ls = rw (same-flat v, same-spelled v) refl
same-keyed w key v (Some x) ls = refl

same-pair : (w : Blocks) (k v : p.Plain) (ks vs : List (List ℕ)) → s.pair_block w (s.plain_shape k) (s.plain_shape v) ks vs ≡ b.entry_block w k v ks vs
same-pair w k v ks vs =
    let key : List ℕ → List (List ℕ) = λ x. s.keyed w x (s.plain_shape v) (s.block_in w (s.plain_shape v)) vs in
    let o : Option (List ℕ) → List (List ℕ) = λ x. s.keyed w (sp.spelling k) (s.plain_shape v) x vs in
    let m : Option (List ℕ) → List (List ℕ) = λ x. b.behind 63 ks ++ b.marked w 58 x vs in
    let one = ap key (same-spelled k) ∙ ap o (same-block w v) ∙ same-keyed w (sp.spelling k) v (as_block w v) vs in
    let two = ap m (same-block w v) in
    by (s.is_simple (s.plain_shape k)) (b.is_simple k) _ _ _ _ (same-simple k) one two
  where
    by : (x y : Bool) (a c d e : List (List ℕ)) → x ≡ y → a ≡ c → d ≡ e → (if x then a else d) ≡ (if y then c else e)
    by x y a c d e f g h = rw (f, g, h) refl

same-child : (u w : Blocks) (t : p.Plain) → u ≡ w → s.lines w (s.plain_shape t) ≡ b.lines_of w t
    → b.marked u 45 (s.block_in u (s.plain_shape t)) (s.lines u (s.plain_shape t)) ≡ b.marked w 45 (as_block w t) (b.lines_of w t)
same-child u w t same is =
    let at : Blocks → List (List ℕ) = λ x. b.marked x 45 (s.block_in x (s.plain_shape t)) (s.lines x (s.plain_shape t)) in
    let o : Option (List ℕ) → List (List ℕ) = λ x. b.marked w 45 x (s.lines w (s.plain_shape t)) in
    let ls : List (List ℕ) → List (List ℕ) = λ x. b.marked w 45 (as_block w t) x in
    ap at same ∙ ap o (same-block w t) ∙ ap ls is

same-entry : (u w x : Blocks) (k v : p.Plain) → u ≡ w → s.lines x (s.plain_shape k) ≡ b.lines_of x k → s.lines w (s.plain_shape v) ≡ b.lines_of w v
    → s.pair_block u (s.plain_shape k) (s.plain_shape v) (s.lines x (s.plain_shape k)) (s.lines u (s.plain_shape v)) ≡ b.entry_block w k v (b.lines_of x k) (b.lines_of w v)
same-entry u w x k v same kl vl =
    let at : Blocks → List (List ℕ) = λ y. s.pair_block y (s.plain_shape k) (s.plain_shape v) (s.lines x (s.plain_shape k)) (s.lines y (s.plain_shape v)) in
    let first : List (List ℕ) → List (List ℕ) = λ y. b.entry_block w k v y (s.lines w (s.plain_shape v)) in
    let second : List (List ℕ) → List (List ℕ) = λ y. b.entry_block w k v (b.lines_of x k) y in
    ap at same ∙ same-pair w k v (s.lines x (s.plain_shape k)) (s.lines w (s.plain_shape v)) ∙ ap first kl ∙ ap second vl

mutual
  pub same-lines : (w : Blocks) (t : p.Plain) → s.lines w (s.plain_shape t) ≡ b.lines_of w t
  same-lines w p.null = refl
  same-lines w (p.bool x) = refl
  same-lines w (p.int z) = refl
  same-lines w (p.text x) = refl
  same-lines w (p.list p.no_items) = refl
  same-lines w (p.list (p.item t ts)) =
      let front : List (List ℕ) → List (List ℕ) = λ x. x ++ s.list_lines w (s.plain_shapes ts) in
      let after : List (List ℕ) → List (List ℕ) = λ x. b.marked (b.before_items w ts) 45 (as_block (b.before_items w ts) t) (b.lines_of (b.before_items w ts) t) ++ x in
      ap front (same-child (s.before_shapes w (s.plain_shapes ts)) (b.before_items w ts) t (same-place w ts) (same-lines (b.before_items w ts) t)) ∙ ap after (same-items w ts)
  same-lines w (p.dict p.no_entries) = refl
  same-lines w (p.dict (p.entry k v es)) =
      let front : List (List ℕ) → List (List ℕ) = λ x. x ++ s.dict_lines w (s.plain_pairs es) in
      let after : List (List ℕ) → List (List ℕ) = λ x. b.entry_block (b.before_entries w es) k v (b.lines_of (before_more w) k) (b.lines_of (b.before_entries w es) v) ++ x in
      ap front (same-entry (s.before_pairs w (s.plain_pairs es)) (b.before_entries w es) (before_more w) k v (same-pair-place w es) (same-lines (before_more w) k) (same-lines (b.before_entries w es) v))
      ∙ ap after (same-entries w es)

  same-items : (w : Blocks) (ts : p.Plains) → s.list_lines w (s.plain_shapes ts) ≡ b.item_lines w ts
  same-items w p.no_items = refl
  same-items w (p.item t ts) =
      let front : List (List ℕ) → List (List ℕ) = λ x. x ++ s.list_lines w (s.plain_shapes ts) in
      let after : List (List ℕ) → List (List ℕ) = λ x. b.marked (b.before_items w ts) 45 (as_block (b.before_items w ts) t) (b.lines_of (b.before_items w ts) t) ++ x in
      ap front (same-child (s.before_shapes w (s.plain_shapes ts)) (b.before_items w ts) t (same-place w ts) (same-lines (b.before_items w ts) t)) ∙ ap after (same-items w ts)

  same-entries : (w : Blocks) (es : p.Entries) → s.dict_lines w (s.plain_pairs es) ≡ b.entry_lines w es
  same-entries w p.no_entries = refl
  same-entries w (p.entry k v es) =
      let front : List (List ℕ) → List (List ℕ) = λ x. x ++ s.dict_lines w (s.plain_pairs es) in
      let after : List (List ℕ) → List (List ℕ) = λ x. b.entry_block (b.before_entries w es) k v (b.lines_of (before_more w) k) (b.lines_of (b.before_entries w es) v) ++ x in
      ap front (same-entry (s.before_pairs w (s.plain_pairs es)) (b.before_entries w es) (before_more w) k v (same-pair-place w es) (same-lines (before_more w) k) (same-lines (b.before_entries w es) v))
      ∙ ap after (same-entries w es)

-- the text, the body and the document of a plain tree
pub plain-text : (w : Blocks) (t : p.Plain) → text_at 0 w (s.plain_shape t) ++ 10 ∷ [] ≡ b.text_of w t
plain-text w t = whole-text w (s.plain_shape t) ∙ ap (flat_map ended) (same-lines w t)

pub plain-body : (w : Blocks) (t : p.Plain) → body w (s.plain_shape t) ≡ b.text_of w t
plain-body w t = ap (flat_map ended) (same-lines w t)

pub plain-document : (w : Blocks) (t : p.Plain) → document w (s.plain_shape t) ≡ b.document_of w t
plain-document w t = ap (λ (x : List ℕ). codes "---\n" ++ x) (plain-body w t)

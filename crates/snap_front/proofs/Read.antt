-- What is read of a text.
use Rattle.snap_front.proofs.Prelude.{◌≡◌, ℕ, Bool, true, false, cond, List, Some, refl, sym, ap, ◌∙◌, subst, inr, Content, tree}
use Rattle.std.specs.Prelude.{◌^◌, ℤ, pos, negsuc, nat_lt, Result, Ok, Err}
use Rattle.snap_content.specs.Tree as t
use Rattle.snap_content.specs.Plain.{Plain, null, bool, int, text, list, dict, Entries, plain, content_of, number_tree}
use Rattle.snap_content.proofs.PlainMade.{plain_made}
use Rattle.snap_print.specs.Readable.{IsWithin}
use Rattle.snap_str.specs.Cut.{Lacks}
use Rattle.snap_emit.specs.Parsed.{IsReadFrom}
use Rattle.snap_front.specs.Heads.{IsHeadOf, IsMapOf, is_map, is_dict}
use Rattle.snap_front.specs.declared.refusal.Refusal.{Refusal}
use Rattle.snap_front.specs.Reading.{MayReadAs, ReadsAsNone, IsReadOf}
use Rattle.snap_front.proofs.Nulls.{text-lacks}

-- a text with NUL reads as none
pub nul-none : (source : List ℕ) → (Lacks 0 source → ⊥) → ReadsAsNone source
nul-none source held t reads = held (text-lacks source t reads.is)

-- what the reader makes
pub made-read : (source : List ℕ) (made : Content) → IsReadFrom made source → IsWithin (plain (tree made)) → IsReadOf source (Some made)
made-read source made read within =
    let same : plain (tree made) ≡ read.plain = ap plain read.tree_is ∙ plain_made read.plain in (
      read.plain,
      read.tree_is,
      record {
        within = subst IsWithin same within;
        one = λ t reads. sym (read.read t reads.within reads.is);
      },
    )

-- a map of what was read
pick-no-map : (b : Bool) (x y : t.Tree) → is_map x ≡ false → is_map y ≡ false → is_map (cond b x y) ≡ false
pick-no-map true x y h k = h
pick-no-map false x y h k = k

number-no-map : (z : ℤ) → is_map (number_tree z) ≡ false
number-no-map (pos n) =
    pick-no-map (nat_lt n (2 ^ 63)) (t.i64 (pos n)) (cond (nat_lt n (2 ^ 64)) (t.u64 n) (t.u128 n)) refl (pick-no-map (nat_lt n (2 ^ 64)) (t.u64 n) (t.u128 n) refl refl)
number-no-map (negsuc n) = pick-no-map (nat_lt n (2 ^ 63)) (t.i64 (negsuc n)) (t.i128 (negsuc n)) refl refl

map-is-dict : (p : Plain) → is_map (content_of p) ≡ true → (es : Entries) × (p ≡ dict es)
map-is-dict null e = absurd (cc)
map-is-dict (bool b) e = absurd (cc)
map-is-dict (int z) e = let no : true ≡ false = sym e ∙ number-no-map z in absurd (cc)
map-is-dict (text s) e = absurd (cc)
map-is-dict (list ps) e = absurd (cc)
map-is-dict (dict es) e = (es, refl)

no-map-no-dict : (p : Plain) → is_map (content_of p) ≡ false → is_dict p ≡ false
no-map-no-dict null e = refl
no-map-no-dict (bool b) e = refl
no-map-no-dict (int z) e = refl
no-map-no-dict (text s) e = refl
no-map-no-dict (list ps) e = refl
no-map-no-dict (dict es) e = absurd (cc)

pub head-of : (header : List ℕ) (made : Content) (r : Result Content Refusal) → IsReadOf header (Some made) → IsMapOf (tree made) r → IsHeadOf header r
head-of header made (Ok head) read is =
    let made_so = map-is-dict read.0 (sym (ap is_map read.1) ∙ is.1) in
    (made_so.0, is.0 ∙ read.1 ∙ ap content_of made_so.1, subst (MayReadAs header) made_so.1 read.2)
head-of header made (Err why) read is =
    inr (record { refusal_is = is.0; made = read.0; may = read.2; other = no-map-no-dict read.0 (sym (ap is_map read.1) ∙ is.1) })

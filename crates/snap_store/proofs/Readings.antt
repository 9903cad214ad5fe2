-- One file is read in one way.
use Rattle.snap_store.proofs.Prelude.{◌≡◌, ℕ, Bool, true, false, List, Option, None, sym, ap, ◌∙◌, subst, chars, IsUtf8, Plain, dict, Entries, is_headed}
use Rattle.snap_content.proofs.Booleans.{some_same}
use Rattle.snap_store.specs.FileSplit.{header_of}
use Rattle.snap_store.specs.Reading.{IsTextFile, HasHeader, ReadsHeader, IsNoText}
use Rattle.snap_emit.specs.Spelled.{IsHeaderOf}

pub one_text : (file : Option (List ℕ)) (a b : List ℕ) → IsTextFile file a → IsTextFile file b → a ≡ b
one_text file a b p q =
    let bytes : p.bytes ≡ q.bytes = some_same p.bytes q.bytes (sym p.there ∙ q.there) in
    p.characters ∙ ap chars bytes ∙ sym q.characters

pub no_text_file : (file : Option (List ℕ)) (a : List ℕ) → file ≡ None → IsTextFile file a → ⊥
no_text_file file a none p = let e = sym none ∙ p.there in cc e

pub text_or_none : (file : Option (List ℕ)) (a : List ℕ) → IsNoText file → IsTextFile file a → ⊥
text_or_none file a n p = n.broken (subst IsUtf8 (some_same p.bytes n.bytes (sym p.there ∙ n.there)) p.utf8)

pub entries_same : (a b : Entries) → dict a ≡ dict b → a ≡ b
entries_same a b e = cc

-- the header of a tree, and the tree that it is read as
pub record AreOne (file : Option (List ℕ)) (x y : List ℕ) (a b : Plain) : Type 0 where
  pub text : x ≡ y
  pub tree : a ≡ b

pub one_reading : {kept : Bool} (file : Option (List ℕ)) (x y : List ℕ) (a b : Plain) → IsTextFile file x → ReadsHeader x a kept → IsTextFile file y → HasHeader y b → AreOne file x y a b
one_reading file x y a b p h q k =
    let same = one_text file x y p q in
    record { text = same; tree = h.read b k.within (subst (λ t. IsHeaderOf (header_of t) b) (sym same) k.header) }

-- a file has a header or none
pub headed_or_not : (file : Option (List ℕ)) (x y : List ℕ) → IsTextFile file x → IsTextFile file y → is_headed x ≡ true → is_headed y ≡ false → ⊥
headed_or_not file x y p q headed unheaded = let e = sym headed ∙ ap is_headed (one_text file x y p q) ∙ unheaded in cc e

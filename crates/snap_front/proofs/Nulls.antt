-- No NUL stands in a text that reads as a tree.
use Rattle.snap_front.proofs.Prelude.{◌≡◌, ℕ, Bool, true, false, List, [], ◌∷◌, refl, sym, subst, inl, inr}
use Rattle.std.specs.Prelude.{◌==◌, ◌&&◌, ◌||◌, not}
use Rattle.std.specs.List.{list_any}
use Rattle.snap_content.specs.Plain.{Plain}
use Rattle.snap_print.specs.Blocks.{Blocks}
use Rattle.snap_print.specs.Lines.{document_of}
use Rattle.snap_str.specs.Cut.{Lacks}
use Rattle.snap_parse_laws.specs.PlainForms.{form_of}
use Rattle.snap_parse_laws.specs.PrintedLayouts.{printed_document}
use Rattle.snap_parse_laws.proofs.Documents.{plain-text}
use Rattle.snap_parse_laws.proofs.FreeLayouts.{free-is-laid}
use Rattle.snap_parse_laws.proofs.LaidNuls.{document-nul}
use Rattle.snap_parse_laws.proofs.Nuls.{has_no_nul}
use Rattle.snap_parse_laws.proofs.PrintedLayouts.{printed-is-laid}
use Rattle.snap_parse_laws.proofs.Printables.{printable}
use Rattle.snap_emit.specs.Spelled.{IsTextOf}

lacks-nul : (cs : List ℕ) → has_no_nul cs ≡ true → Lacks 0 cs
lacks-nul [] h = refl
lacks-nul (c ∷ cs) h = by (c == 0) (has_no_nul cs) h (lacks-nul cs)
  where
    by : (a b : Bool) → (not a && b) ≡ true → (b ≡ true → Lacks 0 cs) → (a || list_any (λ x. x == 0) cs) ≡ false
    by true b e later = absurd (cc)
    by false b e later = later e

printed-lacks : (b : Blocks) (p : Plain) → has_no_nul (document_of b p) ≡ true
printed-lacks b p = subst (λ x. has_no_nul x ≡ true) (sym (plain-text b p)) (document-nul (printed_document (form_of b p)) (printed-is-laid (form_of b p) (printable b p)))

pub text-lacks : (text : List ℕ) (t : Plain) → IsTextOf text t → Lacks 0 text
text-lacks text t (inl h) = lacks-nul text (subst (λ x. has_no_nul x ≡ true) (sym h.text_is) (printed-lacks h.blocks t))
text-lacks text t (inr h) = lacks-nul text (subst (λ x. has_no_nul x ≡ true) (sym h.header.text_is) (document-nul h.header.layout (free-is-laid h.header.layout h.header.free)))

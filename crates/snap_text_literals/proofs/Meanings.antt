-- Each spelling reads as the text that was meant.
use Rattle.snap_text_literals.proofs.Prelude.{◌≡◌, ◌==◌, ◌≤◌, ℕ, List, [], ◌∷◌, ◌++◌, Bool, true, false, cond, refl, sym, ap, ◌∙◌, inl, inr, arith, true-eqb, list_any, hashes, required, literal_reads, is_return, is_hidden, is_marked, shown, spelled, meant, escaped_form, raw_form, plain_form, IsIndentation}
use Rattle.snap_text_literals.proofs.Free.{any-weaker, any-both, any-blank, free-shown}
use Rattle.snap_text_literals.proofs.Escapes.{reads-escaped, reads-bare, is_barred}
use Rattle.snap_text_literals.proofs.HashEnds.{no-end, required-shown}

pub return_hidden : (c : ℕ) → is_hidden c ≡ false → (c == 13) ≡ false
return_hidden c h = by (c == 13) refl
  where
    by : (b : Bool) → (c == 13) ≡ b → b ≡ false
    by true e = let no : true ≡ false = sym (ap is_hidden (true-eqb c 13 (sym e))) ∙ h in cc
    by false e = refl

plain : (indentation text : List ℕ) → IsIndentation indentation → list_any is_hidden text ≡ false → list_any is_marked text ≡ false
    → literal_reads (plain_form indentation text) (shown indentation text)
plain indentation text i h m =
    let none : list_any is_barred text ≡ false = any-both is_marked is_return text m (any-weaker is_hidden is_return return_hidden text h) in
    inl (record {
      behind = shown indentation text ++ 34 ∷ [];
      is = refl;
      inside = reads-bare (shown indentation text) (free-shown is_barred indentation text refl (any-blank is_barred refl refl indentation i) none);
    })

raw : (indentation text : List ℕ) → IsIndentation indentation → list_any is_hidden text ≡ false → literal_reads (raw_form indentation text) (shown indentation text)
raw indentation text i h =
    let enough : required (shown indentation text) ≤ required text =
    omega (arith, required-shown indentation text (any-blank (λ c. c == 34) refl refl indentation i)) in
    inr (record {
      count = required text;
      body = shown indentation text ++ 34 ∷ hashes (required text);
      is = refl;
      spelled = record {
        is = refl;
        no_return = free-shown is_return indentation text refl (any-blank is_return refl refl indentation i) (any-weaker is_hidden is_return return_hidden text h);
        no_end = no-end (required text) (shown indentation text) enough;
      };
    })

pub reads : (indentation text : List ℕ) → IsIndentation indentation → literal_reads (spelled indentation text) (meant indentation text)
reads indentation text i = by (list_any is_hidden text) (list_any is_marked text) refl refl
  where
    by : (h m : Bool) → list_any is_hidden text ≡ h → list_any is_marked text ≡ m
        → literal_reads (cond h (escaped_form text) (cond m (raw_form indentation text) (plain_form indentation text))) (cond h text (shown indentation text))
    by true m e f = inl (record { behind = _; is = refl; inside = reads-escaped text })
    by false true e f = raw indentation text i e
    by false false e f = plain indentation text i e f

-- What is wrong with the pairs of a map is why the map is no request.
use Rattle.snap_run_requests.proofs.Prelude.{◌≡◌, ℕ, List, Option, None, Some, is_some, true, false, is_block_word, sym, subst, refl, asks_for_block, IsAssertionFault, IsAssertionEnd, IsBlockFault, IsPairsFault, IsTreeFault, IsTreeEnd}
use Rattle.snap_content.specs.Tree.{TreePairs, map}
use Rattle.snap_run_requests.specs.declared.fault.Reason.{Reason}
use Rattle.snap_run_requests.specs.declared.fault.Reason.TheVariants as reason
use Rattle.snap_run_requests.specs.declared.fault.RequestError.{RequestError}
use Rattle.snap_run_requests.specs.declared.fault.RequestError.TheVariants as end

pub block_fault : (ps : TreePairs) (why : Reason) → asks_for_block ps ≡ true → IsBlockFault ps why → IsTreeFault (map ps) why
block_fault ps (reason.Key fault) asks f = record { pairs = ps; is = refl; holds = subst (λ b. IsPairsFault b ps (reason.Key fault)) (sym asks) f }
block_fault ps (reason.NotUtf8 place) asks f = f
block_fault ps (reason.NoTree refusal) asks f = f
block_fault ps reason.NoMap asks f = absurd f
block_fault ps reason.NoFile asks f = absurd f
block_fault ps (reason.NoRedaction place fault) asks f = absurd f

assertion_fault : (ps : TreePairs) (why : Reason) → asks_for_block ps ≡ false → IsAssertionFault ps why → IsTreeFault (map ps) why
assertion_fault ps (reason.Key fault) none f = record { pairs = ps; is = refl; holds = subst (λ b. IsPairsFault b ps (reason.Key fault)) (sym none) f }
assertion_fault ps reason.NoFile none f = record { pairs = ps; is = refl; holds = subst (λ b. IsPairsFault b ps reason.NoFile) (sym none) f }
assertion_fault ps (reason.NoRedaction place fault) none f =
    record { pairs = ps; is = refl; holds = subst (λ b. IsPairsFault b ps (reason.NoRedaction place fault)) (sym none) f }
assertion_fault ps (reason.NotUtf8 place) none f = f
assertion_fault ps (reason.NoTree refusal) none f = f
assertion_fault ps reason.NoMap none f = absurd f

pub assertion_end : (ps : TreePairs) (error : RequestError) → asks_for_block ps ≡ false → IsAssertionEnd ps error → IsTreeEnd (map ps) error
assertion_end ps (end.NoRequest why) none f = assertion_fault ps why none f
assertion_end ps end.OutOfMemory none f = tt

-- what is no text is no word of a block
pub no_word : (o : Option (List ℕ)) → is_some o ≡ false → is_block_word o ≡ false
no_word None none = refl
no_word (Some text) none = cc

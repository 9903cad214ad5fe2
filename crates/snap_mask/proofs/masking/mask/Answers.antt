use Rattle.snap_mask.proofs.Complete.{told_reads_nothing, ends_well}
use Rattle.snap_mask.proofs.masking.mask.Goals as goal

pub returns-in-Some-clause-length : goal.returns-in-Some-clause-length
returns-in-Some-clause-length g c = told_reads_nothing c.in-Some.text.now c.tell.result _ _ _ c.tell.ensures.told

pub returns-in-None-clause-complete : goal.returns-in-None-clause-complete
returns-in-None-clause-complete g c = λ rules input w none spelled e f proper read write.
    ends_well c.mask_words.result rules input w _ _ _ _ _ _ _ proper e (c.mask_words.ensures.leaves rules spelled input w e f) c.mask_words.ensures.length c.mask_words.ensures.read read c.mask_words.ensures.write write

-- What a reader answers, from what its parts answered.
use Rattle.snap_scan_properties.proofs.Prelude.{◌≡◌, Result, ap, subst, ScanError, ScanInfo, Place, Found, ◌>>=◌, Refuses, Reads}
use Rattle.snap_scan_tokens.specs.declared.info.ScanError.TheVariants.{OutOfMemory, Syntax}

-- a first part that is refused
pub refuses-then : {A B : Type 0} (there : Result (Found A) ScanInfo) (rest : Found A → Result (Found B) ScanInfo) (e : ScanError)
    → Refuses there e → Refuses (there >>= rest) e
refuses-then there rest OutOfMemory h = tt
refuses-then {A} {B} there rest (Syntax mark info) h = let f : Result (Found A) ScanInfo → Result (Found B) ScanInfo = λ r. r >>= rest in ap f h

-- what stands there, said in another way
pub reads-same : {T : Type 0} (a b : Result (Found T) ScanInfo) (r : Result T ScanError) (p : Place) → a ≡ b → Reads a r p → Reads b r p
reads-same a b r p is h = subst (λ x. Reads x r p) is h

pub refuses-same : {T : Type 0} (a b : Result (Found T) ScanInfo) (e : ScanError) → a ≡ b → Refuses a e → Refuses b e
refuses-same a b e is h = subst (λ x. Refuses x e) is h

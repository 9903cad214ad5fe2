-- Agreement is reflexive and symmetric.
use Rattle.snap_store.proofs.Prelude.{refl, sym, inl, inr, SnapshotContents}
use Rattle.snap_store.specs.Agreement.{Agree}
use Rattle.snap_store.specs.declared.contents.SnapshotContents.TheVariants.{Text, Binary}

pub Agree-refl : (a : SnapshotContents) → Agree a a
Agree-refl (Text a) = inl refl
Agree-refl (Binary a) = refl

pub Agree-sym : (a b : SnapshotContents) → Agree a b → Agree b a
Agree-sym (Text a) (Text b) (inl h) = inl (sym h)
Agree-sym (Text a) (Text b) (inr h) = inr (sym h)
Agree-sym (Text a) (Binary b) h = absurd h
Agree-sym (Binary a) (Text b) h = absurd h
Agree-sym (Binary a) (Binary b) h = sym h

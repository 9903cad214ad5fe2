-- What a store holds after a write, and where nothing was written.
use Rattle.snap_store.proofs.Prelude.{◌≡◌, ℕ, List, Option, Some, Result, Ok, Err, refl, ap, sym, ◌∙◌, OnOk, OnErr, encode_utf8_all, IsUtf8, chars, Error, Files, SameBut}
use Rattle.std.proofs.lemmas.Str.{encodes-chars}

-- the bytes of a text are those of its characters
pub text_sent : (bytes sent printed text : List ℕ) → IsUtf8 bytes → chars bytes ≡ printed → printed ≡ text → sent ≡ bytes → sent ≡ encode_utf8_all text
text_sent bytes sent printed text u shown is same = same ∙ sym (encodes-chars bytes u) ∙ ap encode_utf8_all (shown ∙ is)

pub same_but : (path : List ℕ) (m : Files) (files : Option Files) → files ≡ Some m → SameBut path m files
same_but path m files told = record { files = m; told = told; others = λ q other. refl }

pub nothing_written : {T : Type 0} → (result : Result T Error) (path : List ℕ) (files : Option Files)
    → OnErr result ((m : Files) → files ≡ Some m → SameBut path m files)
nothing_written (Ok done) path files = tt
nothing_written (Err error) path files = λ m told. same_but path m files told

-- a fact that follows from another follows from it at `Ok`
pub at_ok : {T E P Q : Type 0} → (result : Result T E) → (P → Q) → OnOk result P → OnOk result Q
at_ok (Ok value) f p = f p
at_ok (Err error) f p = tt

pub at_err : {T E P : Type 0} → (result : Result T E) → P → OnErr result P
at_err (Ok value) p = tt
at_err (Err error) p = p

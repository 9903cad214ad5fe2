-- Files that were read, or not.
use Rattle.snap_review.proofs.Prelude.{◌≡◌, ℕ, List, Option, None, Some, ap, Files, get, Error, IsCallError, LoadRefused, status_of, IsNoSource, IsUnasked}
use Rattle.snap_content.specs.declared.error.Error.TheVariants as e

-- the file among these, where they are told
abbrev pub file_in : Option Files → List ℕ → Option (List ℕ)
file_in None path = None
file_in (Some m) path = get m path

pub file_told : (files : Option Files) (path : List ℕ) → (m : Files) → files ≡ Some m → file_in files path ≡ get m path
file_told files path m told = ap (λ f. file_in f path) told

pub source_unread : (path : List ℕ) (file : Option (List ℕ)) (error : Error) → IsCallError path error → IsNoSource path file (status_of error)
source_unread path file (e.FileIo named) h = h
source_unread path file e.OutOfMemory h = tt
source_unread path file e.UnexpectedDataType h = absurd h
source_unread path file e.MissingField h = absurd h
source_unread path file e.JsonKey h = absurd h
source_unread path file (e.FailedParsingYaml named) h = absurd h
source_unread path file (e.FloatText named) h = absurd h
source_unread path file (e.NotText named) h = absurd h
source_unread path file (e.NoFile named) h = absurd h

pub records_unread : (path : List ℕ) (file : Option (List ℕ)) (error : Error) → LoadRefused path file error → IsUnasked path file (status_of error)
records_unread path file (e.FileIo named) h = h
records_unread path file e.OutOfMemory h = tt
records_unread path file e.UnexpectedDataType h = h
records_unread path file e.MissingField h = h
records_unread path file e.JsonKey h = absurd h
records_unread path file (e.FailedParsingYaml named) h = h
records_unread path file (e.FloatText named) h = absurd h
records_unread path file (e.NotText named) h = h
records_unread path file (e.NoFile named) h = h.1

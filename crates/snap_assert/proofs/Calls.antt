-- What an assertion tells of a call of the store that failed.
use Rattle.snap_assert.proofs.Prelude.{◌≡◌, ℕ, ◌<◌, List, length, get_or, inl, inr, ap, ◌∙◌, subst, Error, FailedParsingYaml, UnexpectedDataType, MissingField, FileIo, FloatText, JsonKey, NotText, NoFile, OutOfMemory, parent_of, is_among, FaultIsAmong, FaultIsOwn, Update}
use Rattle.snap_io.specs.Causes.{CountedIf, Rose}
use Rattle.snap_store.specs.Causes.{IsCallError, is_file_fault}
use Rattle.snap_assert.proofs.Keeping.{among_at}
use Rattle.snap_assert.specs.Outcomes.{WorkErrorCause}
use Rattle.snap_assert.specs.Unsaved.{unsaved}

-- a failed call on a path of a list names one of the list
pub among_call : (ps : List (List ℕ)) (i : ℕ) (p : List ℕ) (error : Error) → i < length ps → p ≡ get_or ps i p → IsCallError p error → FaultIsAmong ps (unsaved error)
among_call ps i p (FileIo named) within is h = ap (λ q. is_among ps q) h ∙ among_at ps i p within is
among_call ps i p OutOfMemory within is h = tt
among_call ps i p UnexpectedDataType within is h = absurd h
among_call ps i p MissingField within is h = absurd h
among_call ps i p JsonKey within is h = absurd h
among_call ps i p (FailedParsingYaml named) within is h = absurd h
among_call ps i p (FloatText named) within is h = absurd h
among_call ps i p (NotText named) within is h = absurd h
among_call ps i p (NoFile named) within is h = absurd h

-- the folder of the path is one of the assertion's own paths
pub own_folder : (mode : Update) (path folder : List ℕ) (error : Error) → folder ≡ parent_of path → IsCallError folder error → FaultIsOwn mode path (unsaved error)
own_folder mode path folder (FileIo named) is h = inr (inl (h ∙ is))
own_folder mode path folder OutOfMemory is h = tt
own_folder mode path folder UnexpectedDataType is h = absurd h
own_folder mode path folder MissingField is h = absurd h
own_folder mode path folder JsonKey is h = absurd h
own_folder mode path folder (FailedParsingYaml named) is h = absurd h
own_folder mode path folder (FloatText named) is h = absurd h
own_folder mode path folder (NotText named) is h = absurd h
own_folder mode path folder (NoFile named) is h = absurd h

-- the count rose where a fault is told
pub call_cause : (before between now : ℕ) (path : List ℕ) (error : Error) → between ≡ before → IsCallError path error → CountedIf (is_file_fault error) between now → WorkErrorCause before now (unsaved error)
call_cause before between now path (FileIo named) same h count = subst (λ n. Rose n now) same count
call_cause before between now path OutOfMemory same h count = count ∙ same
call_cause before between now path UnexpectedDataType same h count = absurd h
call_cause before between now path MissingField same h count = absurd h
call_cause before between now path JsonKey same h count = absurd h
call_cause before between now path (FailedParsingYaml named) same h count = absurd h
call_cause before between now path (FloatText named) same h count = absurd h
call_cause before between now path (NotText named) same h count = absurd h
call_cause before between now path (NoFile named) same h count = absurd h

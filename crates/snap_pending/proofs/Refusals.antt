-- What refuses one record refuses all.
use Rattle.snap_pending.proofs.Prelude.{◌≡◌, Bool, true, Error, FailedParsingYaml, UnexpectedDataType, MissingField, FileIo, FloatText, JsonKey, NotText, NoFile, OutOfMemory, PrintRefused}

pub refused_in : (one all : Bool) (error : Error) → (one ≡ true → all ≡ true) → PrintRefused one error → PrintRefused all error
refused_in one all JsonKey f end = f end
refused_in one all OutOfMemory f end = tt
refused_in one all (FileIo named) f end = absurd end
refused_in one all (FailedParsingYaml named) f end = absurd end
refused_in one all UnexpectedDataType f end = absurd end
refused_in one all MissingField f end = absurd end
refused_in one all (FloatText named) f end = absurd end
refused_in one all (NotText named) f end = absurd end
refused_in one all (NoFile named) f end = absurd end

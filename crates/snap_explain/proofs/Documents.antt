-- What was said of the documents so far, and of one more.
use Rattle.snap_explain.proofs.Prelude.{◌≡◌, ℕ, suc, ◌+◌, ◌≤◌, ◌||◌, List, [], ◌∷◌, ◌++◌, Bool, true, false, Option, Some, None, Result, Ok, Err, length, take, drop, refl, sym, ap, ◌∙◌, arith, append_assoc, append-nil, length-append, subst, is_filled, Writes, SayError}
use Rattle.snap_explain.specs.declared.saying.SayError.TheVariants as say
use Rattle.snap_explain.specs.declared.status.ExplainStatus.TheVariants as status
use Rattle.snap_io.specs.Causes.{Counted, CountedIf}
use Rattle.snap_io.specs.Files.{Files}
use Rattle.snap_io_streams.specs.Streams.{TakesAtMost, input_limit as stream_limit}
use Rattle.snap_explain.specs.Asked.{Known, nothing_known}
use Rattle.snap_run_requests.specs.Cut.{documents}
use Rattle.snap_run_requests.specs.Requests.{RequestView, ReadsAs}
use Rattle.snap_run_requests.specs.declared.fault.Reason.{Reason}
use Rattle.snap_explain.specs.Json.{refusal_in}
use Rattle.snap_explain.specs.Remarks.{AreSeen, lines_on}
use Rattle.snap_explain.specs.declared.remarks.Remarks.{Remarks}
use Rattle.snap_explain.specs.declared.form.Form.{Form}
use Rattle.snap_explain.specs.declared.form.Form.TheVariants.{Plain, Json}
use Rattle.snap_explain.specs.declared.position.Place.{Place}
use Rattle.snap_explain.specs.Streams.{StreamWords, IsNoRequest, IsRefusal, Said, TellsOf, Tells, DocumentEnds, FoundEnds, LinesEnd, ToldAll, ToldWithin, StreamTold, StreamLeaves, StreamLength, stream_status, told_as, whether_said}
use Rattle.snap_explain.specs.Streams.TellsOf.{of_request, of_refusal, of_trouble}
use Rattle.snap_explain.specs.Streams.Tells.{at_start as tells_nothing, at_document}
use Rattle.snap_explain.specs.Troubles.{IsClear, HasTrouble, is_tell_file, is_tell_write}
use Rattle.snap_explain.specs.Findings.{is_write_fault, says_read_fault, says_write_fault, says_file_fault}
use Rattle.snap_explain.specs.declared.telling.TellError.{TellError}
use Rattle.snap_explain.specs.declared.telling.TellError.TheVariants as tell
use Rattle.snap_explain.specs.declared.trouble.Trouble.{Trouble}
use Rattle.std.specs.Prelude.{IfOk, IfErr, MatchOption}
use Rattle.snap_explain.proofs.Turns.{all_held, held_after, filled-append}

tells_more : (words : StreamWords) (files : Option Files) (ds : List (List ℕ)) (d : List ℕ) (s s' : Known) (out said : List ℕ) → Tells words files ds s out → TellsOf words files (suc (length ds)) d s s' said
    → Tells words files (ds ++ d ∷ []) s' (out ++ said)
tells_more words files ds d s s' out said h k = at_document (ds ++ d ∷ []) ds d s s' (out ++ said) out said h k refl refl

counted : (words : StreamWords) (files : Option Files) (ds : List (List ℕ)) (number : ℕ) (d : List ℕ) (s s' : Known) (said : List ℕ) → number ≡ length ds → TellsOf words files (number + 1) d s s' said
    → TellsOf words files (suc (length ds)) d s s' said
counted words files ds number d s s' said is k = let next : number + 1 ≡ suc (length ds) = omega (arith, is) in subst (λ n. TellsOf words files n d s s' said) next k

-- these documents at the front of the input were read, and what is said of them was written
pub record ToldSoFar (words : StreamWords) (files : Option Files) (input w rest : List ℕ) (now : Option (List ℕ)) (number : ℕ) (session : Known) (found : Bool) : Type 0 where
  pub done : List (List ℕ)
  pub out : List ℕ
  pub cut : documents input ≡ done ++ documents rest
  pub number_is : number ≡ length done
  pub tells : Tells words files done session out
  pub told : now ≡ Some (w ++ out)
  pub found_is : found ≡ is_filled out

pub told_start : (words : StreamWords) (files : Option Files) (input w : List ℕ) (now : Option (List ℕ)) (session : Known) → session ≡ nothing_known → now ≡ Some w → ToldSoFar words files input w input now 0 session false
told_start words files input w now session fresh written = record {
  done = [];
  out = [];
  cut = refl;
  number_is = refl;
  tells = tells_nothing [] session [] refl fresh refl;
  told = written ∙ ap Some (sym (append-nil w));
  found_is = refl;
}

pub first_is : (rest first later : List ℕ) (n : ℕ) → documents rest ≡ take n rest ∷ documents (drop n rest) → first ≡ take n rest → later ≡ drop n rest → documents rest ≡ first ∷ documents later
first_is rest first later n cut front back = cut ∙ ap (λ t. t ∷ documents (drop n rest)) (sym front) ∙ ap (λ t. first ∷ documents t) (sym back)

one_more : (input d rest later : List ℕ) (done : List (List ℕ)) → documents input ≡ done ++ documents rest → documents rest ≡ d ∷ documents later → documents input ≡ (done ++ d ∷ []) ++ documents later
one_more input d rest later done cut first = cut ∙ ap (λ t. done ++ t) first ∙ sym (append_assoc done (d ∷ []) (documents later))

-- what the writing of what is said of one document comes to, whatever was written before
abbrev pub DocumentOf : StreamWords → Option Files → ℕ → List ℕ → Known → Known → Option (List ℕ) → Option (List ℕ) → Result Bool TellError → Type 0
DocumentOf words files number document s s' now now' result = (v : List ℕ) → now ≡ Some v → DocumentEnds words files number document s s' v now' result

pub told_more : (words : StreamWords) (files : Option Files) (input w rest d later : List ℕ) (now now' : Option (List ℕ)) (number : ℕ) (session session' : Known) (found this : Bool) → documents rest ≡ d ∷ documents later
    → ToldSoFar words files input w rest now number session found → DocumentOf words files (number + 1) d session session' now now' (Ok this) → ToldSoFar words files input w later now' (number + 1) session' (found || this)
told_more words files input w rest d later now now' number session session' found this first s r =
    let k = r (w ++ s.out) s.told in
    record {
      done = s.done ++ d ∷ [];
      out = s.out ++ k.0;
      cut = one_more input d rest later s.done s.cut first;
      number_is = omega (arith, s.number_is, length-append s.done (d ∷ []));
      tells = tells_more words files s.done d session session' s.out k.0 s.tells (counted words files s.done number d session session' k.0 s.number_is k.1);
      told = k.2 ∙ ap Some (append_assoc w s.out k.0);
      found_is = ap (λ b. b || this) s.found_is ∙ ap (λ b. is_filled s.out || b) k.3 ∙ sym (filled-append s.out k.0);
    }

pub told_end : (words : StreamWords) (files : Option Files) (input w rest : List ℕ) (now : Option (List ℕ)) (number : ℕ) (session : Known) (found : Bool) → length rest ≡ 0 → ToldSoFar words files input w rest now number session found
    → ToldAll words files input w now found
told_end words files input w [] now number session found none s = record {
  out = s.out;
  known = session;
  tells = subst (λ ds. Tells words files ds session s.out) (sym (s.cut ∙ append-nil s.done)) s.tells;
  told = s.told;
  found_is = s.found_is;
}
told_end words files input w (b ∷ rest) now number session found none s = absurd (omega arith)

-- nothing more was said
told_before : (words : StreamWords) (files : Option Files) (input w rest : List ℕ) (now now' : Option (List ℕ)) (number : ℕ) (session : Known) (found : Bool) → (s : ToldSoFar words files input w rest now number session found)
    → now' ≡ Some (w ++ s.out) → ToldWithin words files input w now'
told_before words files input w rest now now' number session found s k =
    record { done = s.done; later = documents rest; known = session; out = s.out; is = s.cut; tells = s.tells; part = all_held s.out w now' k }

pub told_stop : (error : TellError) (words : StreamWords) (files : Option Files) (input w rest d later : List ℕ) (now now' : Option (List ℕ)) (number : ℕ) (session session' : Known) (found : Bool) → documents rest ≡ d ∷ documents later
    → ToldSoFar words files input w rest now number session found → DocumentOf words files (number + 1) d session session' now now' (Err error) → ToldWithin words files input w now'
told_stop tell.WriteFault words files input w rest d later now now' number session session' found first s r =
    let k = r (w ++ s.out) s.told in
    record {
      done = s.done ++ d ∷ [];
      later = documents later;
      known = session';
      out = s.out ++ k.0;
      is = one_more input d rest later s.done s.cut first;
      tells = tells_more words files s.done d session session' s.out k.0 s.tells (counted words files s.done number d session session' k.0 s.number_is k.1);
      part = held_after s.out k.0 w now' k.2;
    }
told_stop tell.FileFault words files input w rest d later now now' number session session' found first s r = told_before words files input w rest now now' number session found s (r (w ++ s.out) s.told)
told_stop tell.OutOfMemory words files input w rest d later now now' number session session' found first s r = told_before words files input w rest now now' number session found s (r (w ++ s.out) s.told)

-- what is written of a finding
pub said_of : {T : Type 0} → (result : Result T SayError) (holds : List ℕ → Type 0) (words : StreamWords) (files : Option Files) (number : ℕ) (document : List ℕ) (s s' : Known) (w : List ℕ) (now : Option (List ℕ))
    → ((said : List ℕ) → holds said → TellsOf words files number document s s' said × (is_filled said ≡ true)) → Said holds w now result → DocumentEnds words files number document s s' w now (whether_said result)
said_of (Ok done) holds words files number document s s' w now then h = (h.0, (then h.0 h.1).0, h.2, sym (then h.0 h.1).1)
said_of (Err say.WriteFault) holds words files number document s s' w now then h = (h.0, (then h.0 h.1).0, h.2)
said_of (Err say.OutOfMemory) holds words files number document s s' w now then h = h

-- each finding is filled, in words and in JSON
refusal_filled : (form : Form) (number : ℕ) (place : Place) (why : Reason) (seen : Option (List ℕ)) (detail : List ℕ) → is_filled (refusal_in form number place why seen detail) ≡ true
unfolding lib.Utf8.encode
refusal_filled Plain number place why seen detail = refl
refusal_filled Json number place why seen detail = refl

pub refusal_said : {T : Type 0} → (result : Result T SayError) (words : StreamWords) (files : Option Files) (number : ℕ) (document : List ℕ) (s : Known) (w : List ℕ) (now : Option (List ℕ))
    → Said (IsRefusal words.form number document) w now result → DocumentEnds words files number document s s w now (whether_said result)
refusal_said result words files number document s w now h =
    said_of result (IsRefusal words.form number document) words files number document s s w now (λ said r. (of_refusal r refl, ap is_filled r.is ∙ refusal_filled words.form number r.place r.why r.seen r.detail)) h

-- where nothing was said, the sink didn't fail
pub unsaid : (error : TellError) (words : StreamWords) (files : Option Files) (number : ℕ) (document : List ℕ) (s s' : Known) (w : List ℕ) (now : Option (List ℕ)) → now ≡ Some w → is_tell_write error ≡ false
    → DocumentEnds words files number document s s' w now (Err error)
unsaid tell.WriteFault words files number document s s' w now e other = cc
unsaid tell.FileFault words files number document s s' w now e other = e
unsaid tell.OutOfMemory words files number document s s' w now e other = e

-- what is said of a request, whose lines are written so
lines_told : (said : Result Bool SayError) (words : StreamWords) (files : Option Files) (number : ℕ) (document : List ℕ) (s s' : Known) (lines w : List ℕ) (now : Option (List ℕ)) → TellsOf words files number document s s' lines → LinesEnd lines w now said
    → DocumentEnds words files number document s s' w now (told_as said)
lines_told (Ok found) words files number document s s' lines w now tells e = (lines, tells, e.0, e.1)
lines_told (Err say.WriteFault) words files number document s s' lines w now tells e = (lines, tells, e)
lines_told (Err say.OutOfMemory) words files number document s s' lines w now tells e = e

-- what a request comes to, where that was seen
abbrev pub IsFound : StreamWords → Option Files → ℕ → Known → Known → RequestView → Result (Option Trouble) TellError → Type 0
IsFound words files number s s' r found = IfOk found (λ f. MatchOption f (IsClear words.run files number s s' r) (λ what. HasTrouble words.run files number s s' r what))

pub found_said : (found : Result (Option Trouble) TellError) (result : Result Bool TellError) (words : StreamWords) (files : Option Files) (number : ℕ) (document : List ℕ) (s s' : Known) (w : List ℕ) (now : Option (List ℕ)) (r : RequestView) (place : Place) (remarks : Remarks)
    → ReadsAs document r → AreSeen r remarks → IsFound words files number s s' r found → IfErr found (λ e. is_tell_write e ≡ false) → FoundEnds words.form number place found remarks w now result
    → DocumentEnds words files number document s s' w now result
found_said (Ok None) result words files number document s s' w now r place remarks reads seen is unsaid_is h =
    subst (λ k. DocumentEnds words files number document s s' w now k) (sym h.2)
    (lines_told h.0 words files number document s s' (lines_on words.form number place None remarks) w now (of_request r remarks reads is seen (place, refl)) h.1)
found_said (Ok (Some what)) result words files number document s s' w now r place remarks reads seen is unsaid_is h =
    subst (λ k. DocumentEnds words files number document s s' w now k) (sym h.2)
    (lines_told h.0 words files number document s s' (lines_on words.form number place (Some what) remarks) w now (of_trouble r what remarks reads is seen (place, refl)) h.1)
found_said (Err error) result words files number document s s' w now r place remarks reads seen is unsaid_is h =
    subst (λ k. DocumentEnds words files number document s s' w now k) (sym h.0) (unsaid error words files number document s s' w now h.1 unsaid_is)

pub unsaid_writes : (error : TellError) (before : ℕ) → is_tell_write error ≡ false → CountedIf (is_tell_write error) before before
unsaid_writes tell.WriteFault before other = cc
unsaid_writes tell.FileFault before other = refl
unsaid_writes tell.OutOfMemory before other = refl

pub said_writes : {T : Type 0} → (result : Result T SayError) (before now : ℕ) → Counted is_write_fault before now result → Counted is_tell_write before now (whether_said result)
said_writes (Ok done) before now h = h
said_writes (Err say.WriteFault) before now h = h
said_writes (Err say.OutOfMemory) before now h = h

pub said_files : {T : Type 0} → (result : Result T SayError) (before now : ℕ) → now ≡ before → Counted is_tell_file before now (whether_said result)
said_files (Ok done) before now h = h
said_files (Err say.WriteFault) before now h = h
said_files (Err say.OutOfMemory) before now h = h

pub never_bad_words : (result : Result Bool TellError) → stream_status result ≡ status.BadWords → ⊥
never_bad_words (Ok false) is = cc
never_bad_words (Ok true) is = cc
never_bad_words (Err tell.WriteFault) is = cc
never_bad_words (Err tell.FileFault) is = cc
never_bad_words (Err tell.OutOfMemory) is = cc

-- before anything was read
pub told_nothing : (words : StreamWords) (files : Option Files) (input w : List ℕ) (now : Option (List ℕ)) → now ≡ Some w → ToldWithin words files input w now
told_nothing words files input w now told = record {
  done = [];
  later = documents input;
  known = nothing_known;
  out = [];
  is = refl;
  tells = tells_nothing [] nothing_known [] refl refl refl;
  part = all_held [] w now (told ∙ ap Some (sym (append-nil w)));
}

pub stream_leaves : (result : Result Bool TellError) (words : StreamWords) (files : Option Files) (input w : List ℕ) (now : Option (List ℕ)) → StreamTold words files input w now result → StreamLeaves words files (stream_status result) input w now
stream_leaves (Ok false) words files input w now h = h
stream_leaves (Ok true) words files input w now h = h
stream_leaves (Err tell.WriteFault) words files input w now h = h
stream_leaves (Err tell.FileFault) words files input w now h = h
stream_leaves (Err tell.OutOfMemory) words files input w now h = h

-- an input that was read to its end is none that is too long
read_whole : (xs : List ℕ) (left left' : Option (List ℕ)) → ((input : List ℕ) → left ≡ Some input → xs ≡ input) → ((input : List ℕ) → left ≡ Some input → left' ≡ Some []) → length xs ≤ stream_limit
    → TakesAtMost stream_limit left left'
read_whole xs left left' all end within = λ input is. record {
  front = xs;
  given = record { rest = []; told = end input is; whole = sym (all input is) ∙ sym (append-nil xs) };
  within = within;
}

read_within : (xs : List ℕ) (left left' : Option (List ℕ)) → TakesAtMost stream_limit left left' → TakesAtMost (stream_limit + 1) left left'
read_within xs left left' h = λ input is. let k = h input is in record { front = k.front; given = k.given; within = omega (arith, k.within) }

pub stream_length : (result : Result Bool TellError) (xs : List ℕ) (left left' : Option (List ℕ)) → ((input : List ℕ) → left ≡ Some input → xs ≡ input)
    → ((input : List ℕ) → left ≡ Some input → left' ≡ Some []) → length xs ≤ stream_limit → StreamLength (stream_status result) left left'
stream_length (Ok false) xs left left' all end within = read_whole xs left left' all end within
stream_length (Ok true) xs left left' all end within = read_whole xs left left' all end within
stream_length (Err tell.WriteFault) xs left left' all end within = read_whole xs left left' all end within
stream_length (Err tell.FileFault) xs left left' all end within = read_whole xs left left' all end within
stream_length (Err tell.OutOfMemory) xs left left' all end within = read_within xs left left' (read_whole xs left left' all end within)

pub stream_writes : (result : Result Bool TellError) (before now : ℕ) → Counted is_tell_write before now result → CountedIf (says_write_fault (stream_status result)) before now
stream_writes (Ok false) before now h = h
stream_writes (Ok true) before now h = h
stream_writes (Err tell.WriteFault) before now h = h
stream_writes (Err tell.FileFault) before now h = h
stream_writes (Err tell.OutOfMemory) before now h = h

pub stream_files : (result : Result Bool TellError) (before now : ℕ) → Counted is_tell_file before now result → CountedIf (says_file_fault (stream_status result)) before now
stream_files (Ok false) before now h = h
stream_files (Ok true) before now h = h
stream_files (Err tell.WriteFault) before now h = h
stream_files (Err tell.FileFault) before now h = h
stream_files (Err tell.OutOfMemory) before now h = h

pub stream_reads : (result : Result Bool TellError) (before now : ℕ) → now ≡ before → CountedIf (says_read_fault (stream_status result)) before now
stream_reads (Ok false) before now h = h
stream_reads (Ok true) before now h = h
stream_reads (Err tell.WriteFault) before now h = h
stream_reads (Err tell.FileFault) before now h = h
stream_reads (Err tell.OutOfMemory) before now h = h

pub said_refusal : {T : Type 0} → (result : Result T SayError) (form : Form) (number : ℕ) (document : List ℕ) (why : Reason) (place : Place) (seen : Option (List ℕ)) (detail w : List ℕ) (now : Option (List ℕ)) → IsNoRequest document why
    → Writes (refusal_in form number place why seen detail) w now result → Said (IsRefusal form number document) w now result
said_refusal (Ok done) form number document why place seen detail w now refused h =
    (refusal_in form number place why seen detail, record { why = why; refused = refused; place = place; seen = seen; detail = detail; is = refl }, h)
said_refusal (Err say.WriteFault) form number document why place seen detail w now refused h =
    (refusal_in form number place why seen detail, record { why = why; refused = refused; place = place; seen = seen; detail = detail; is = refl }, h)
said_refusal (Err say.OutOfMemory) form number document why place seen detail w now refused h = h

-- What is asked for, document by document.
use Rattle.snap_explain_unused.proofs.Prelude.{◌≡◌, ◌⊎◌, ◌||◌, ℕ, Bool, true, false, List, [], ◌∷◌, ◌++◌, Option, Result, Ok, Err, length, take, drop, refl, sym, ap, ◌∙◌, subst, inr, append_assoc, append-nil, list_any-append, is_ok, bytes_eq, is_among, SessionView, empty_session, documents, AssertionView, RequestView, asserts, begins, ends, ReadsAs, Reads, RunWords, assertion_by, is_taken, AreTaken, remembered_by, remembered_after, IsNone, IsUntaken, asked_paths, course_path, path_by, AsksAll, AsksBy, AsksOne, Grows, StopsAll, StopsBy, StopsOne, is_file_fault, stop_of, Stop}
use Rattle.std.proofs.Math.Bool.{or_comm}
use Rattle.std.specs.Prelude.{IfErr, OnOk}
use Rattle.snap_io.specs.Causes.{Counted, CountedIf}
use Rattle.snap_assert.specs.Session.{closed, is_open, opened}
use Rattle.snap_io.specs.Files.{Files}
use Rattle.snap_assert.specs.Courses.{session_after}
use Rattle.snap_assert.specs.Outcomes.{ErrorCause}
use Rattle.snap_assert.specs.Previews.{IsPreviewed, IsStoppedBefore}
use Rattle.snap_assert.specs.declared.error.AssertError.{AssertError}
use Rattle.snap_assert.specs.declared.error.AssertError.TheVariants as refusal
use Rattle.snap_assert.specs.declared.preview.Preview.{Preview}
use Rattle.snap_explain_unused.specs.Stops.{IsOfFile}
use Rattle.snap_explain_unused.specs.declared.asking.Stop.TheVariants as stop

reads_more : (ds : List (List ℕ)) (rs : List RequestView) (d : List ℕ) (r : RequestView) → Reads ds rs → ReadsAs d r → Reads (ds ++ d ∷ []) (rs ++ r ∷ [])
reads_more [] [] d r h k = (k, tt)
reads_more [] (x ∷ rs) d r h k = absurd h
reads_more (x ∷ ds) [] d r h k = absurd h
reads_more (x ∷ ds) (y ∷ rs) d r h k = (h.0, reads_more ds rs d r h.1 k)

remembered_more : (words : RunWords) (rs : List RequestView) (r : RequestView) (s : SessionView) → remembered_after words (rs ++ r ∷ []) s ≡ remembered_by words r (remembered_after words rs s)
remembered_more words [] r s = refl
remembered_more words (x ∷ rs) r s = remembered_more words rs r (remembered_by words x s)

taken_one_more : (words : RunWords) (rs : List RequestView) (r : RequestView) (s : SessionView) → AreTaken words rs s → is_taken words r (remembered_after words rs s) ≡ true → AreTaken words (rs ++ r ∷ []) s
taken_one_more words [] r s h k = (k, tt)
taken_one_more words (x ∷ rs) r s h k = (h.0, taken_one_more words rs r (remembered_by words x s) h.1 k)

paths_more : (words : RunWords) (rs : List RequestView) (r : RequestView) (s : SessionView) → asked_paths words (rs ++ r ∷ []) s ≡ asked_paths words rs s ++ path_by words r (remembered_after words rs s)
paths_more words [] r s = append-nil (path_by words r s)
paths_more words (x ∷ rs) r s =
    ap (λ t. path_by words x s ++ t) (paths_more words rs r (remembered_by words x s))
    ∙ sym (append_assoc (path_by words x s) (asked_paths words rs (remembered_by words x s)) (path_by words r (remembered_after words rs (remembered_by words x s))))

-- these documents at the front of the input are requests that were asked, and these are the paths
pub record AskedSoFar (words : RunWords) (input rest : List ℕ) (session : SessionView) (paths : List (List ℕ)) : Type 0 where
  pub done : List (List ℕ)
  pub requests : List RequestView
  pub cut : documents input ≡ done ++ documents rest
  pub reads : Reads done requests
  pub taken : AreTaken words requests empty_session
  pub remembered : session ≡ remembered_after words requests empty_session
  pub paths_are : (q : List ℕ) → is_among paths q ≡ is_among (asked_paths words requests empty_session) q

pub asked_start : (words : RunWords) (input : List ℕ) (session : SessionView) (paths : List (List ℕ)) → session ≡ empty_session → paths ≡ [] → AskedSoFar words input input session paths
asked_start words input session paths fresh none =
    record { done = []; requests = []; cut = refl; reads = tt; taken = tt; remembered = fresh; paths_are = λ q. ap (λ ps. is_among ps q) none }

pub first_is : (rest first later : List ℕ) (n : ℕ) → documents rest ≡ take n rest ∷ documents (drop n rest) → first ≡ take n rest → later ≡ drop n rest → documents rest ≡ first ∷ documents later
first_is rest first later n cut front back = cut ∙ ap (λ t. t ∷ documents (drop n rest)) (sym front) ∙ ap (λ t. first ∷ documents t) (sym back)

pub asked_more : (words : RunWords) (input rest d later : List ℕ) (s s' : SessionView) (old now : List (List ℕ)) → documents rest ≡ d ∷ documents later → AskedSoFar words input rest s old → AsksOne words d s s' old now
    → AskedSoFar words input later s' now
asked_more words input rest d later s s' old now first so one =
    let rs = so.requests in
    let r = one.request in
    let before = remembered_after words rs empty_session in
    record {
      done = so.done ++ d ∷ [];
      requests = rs ++ r ∷ [];
      cut = so.cut ∙ ap (λ t. so.done ++ t) first ∙ sym (append_assoc so.done (d ∷ []) (documents later));
      reads = reads_more so.done rs d r so.reads one.reads;
      taken = taken_one_more words rs r empty_session so.taken (ap (is_taken words r) (sym so.remembered) ∙ one.asks.taken);
      remembered = one.asks.remembered ∙ ap (remembered_by words r) so.remembered ∙ sym (remembered_more words rs r empty_session);
      paths_are = λ q.
          one.asks.grows q
          ∙ ap (λ b. is_among (path_by words r s) q || b) (so.paths_are q)
          ∙ ap (λ t. is_among (path_by words r t) q || is_among (asked_paths words rs empty_session) q) so.remembered
          ∙ or_comm (is_among (path_by words r before) q) (is_among (asked_paths words rs empty_session) q)
          ∙ sym (list_any-append (bytes_eq q) (asked_paths words rs empty_session) (path_by words r before))
          ∙ sym (ap (λ ps. is_among ps q) (paths_more words rs r empty_session));
    }

pub asked_end : (words : RunWords) (input rest : List ℕ) (s : SessionView) (paths : List (List ℕ)) → length rest ≡ 0 → AskedSoFar words input rest s paths → AsksAll words input paths
asked_end words input [] s paths none so =
    record { requests = so.requests; asked = record { reads = subst (λ ds. Reads ds so.requests) (sym (so.cut ∙ append-nil so.done)) so.reads; taken = so.taken }; paths_are = so.paths_are }
asked_end words input (b ∷ rest) s paths none so = absurd (cc none)

pub asked_stop : (why : Stop) (words : RunWords) (input rest d later : List ℕ) (s : SessionView) (paths : List (List ℕ)) → documents rest ≡ d ∷ documents later → AskedSoFar words input rest s paths → StopsOne why words d s
    → StopsAll why words input
asked_stop stop.Refused words input rest d later s paths first so stops = record {
  front = so.done;
  document = d;
  later = documents later;
  requests = so.requests;
  is = so.cut ∙ ap (λ t. so.done ++ t) first;
  reads = so.reads;
  taken = so.taken;
  stops = subst (λ t. IsNone d ⊎ IsUntaken words d t) so.remembered stops;
}
asked_stop stop.FileFault words input rest d later s paths first so stops = tt
asked_stop stop.OutOfMemory words input rest d later s paths first so stops = tt

-- an assertion goes on
pub previewed : (words : RunWords) (a : AssertionView) (fully : Bool) (preview : Preview) (files : Option Files) (s s' : SessionView) (old now : List (List ℕ)) → IsPreviewed fully (assertion_by words a) preview files s s'
    → Grows (preview.path ∷ []) old now → AsksBy words (asserts a) s s' old now
previewed words a fully preview files s s' old now h grows =
    let at : (preview.path ∷ []) ≡ path_by words (asserts a) s = ap (λ p. p ∷ []) h.foreseen.path ∙ sym (ap (course_path words a) h.course_is) in
    record { taken = ap is_ok h.course_is; remembered = h.remembered ∙ sym (ap session_after h.course_is); grows = subst (λ ps. Grows ps old now) at grows }

-- or it stops
pub stopped_by : (e : AssertError) (words : RunWords) (a : AssertionView) (s s' : SessionView) → IsStoppedBefore (assertion_by words a) e s s' → StopsBy (stop_of e) words (asserts a) s
stopped_by refusal.OutOfMemory words a s s' h = tt
stopped_by (refusal.FileIo path) words a s s' h = tt
stopped_by refusal.NameClash words a s s' h = ap is_ok h.course_is
stopped_by refusal.DoctestNeedsName words a s s' h = ap is_ok h.course_is
stopped_by (refusal.DuplicateDiffers key kept new) words a s s' h = ap is_ok h.course_is
stopped_by refusal.NamesExhausted words a s s' h = ap is_ok h.course_is
stopped_by refusal.InlineDuplicate words a s s' h = ap is_ok h.course_is
stopped_by refusal.BadExtension words a s s' h = ap is_ok h.course_is
stopped_by refusal.JsonKey words a s s' h = ap is_ok h.course_is

pub stop_counted : (e : AssertError) (before now : ℕ) → ErrorCause before now e → CountedIf (is_file_fault (stop_of e)) before now
stop_counted refusal.OutOfMemory before now h = h
stop_counted (refusal.FileIo path) before now h = h
stop_counted refusal.NameClash before now h = h
stop_counted refusal.DoctestNeedsName before now h = h
stop_counted (refusal.DuplicateDiffers key kept new) before now h = h
stop_counted refusal.NamesExhausted before now h = h
stop_counted refusal.InlineDuplicate before now h = h
stop_counted refusal.BadExtension before now h = h
stop_counted refusal.JsonKey before now h = h

-- an assertion that was read is made in a file
pub of_file : (document : List ℕ) (r : RequestView) → ReadsAs document r → IsOfFile r
of_file document (asserts a) h = h.request_is.of_file
of_file document begins h = tt
of_file document ends h = tt

-- a document is read as a request that is asked, or refused
pub asks_one : (words : RunWords) (document : List ℕ) (r : RequestView) (s s' : SessionView) (old now : List (List ℕ)) → ReadsAs document r → AsksBy words r s s' old now → AsksOne words document s s' old now
asks_one words document r s s' old now reads asks = record { request = r; reads = reads; asks = asks }

pub stops_one : (why : Stop) (words : RunWords) (document : List ℕ) (r : RequestView) (s : SessionView) → ReadsAs document r → StopsBy why words r s → StopsOne why words document s
stops_one stop.Refused words document r s reads stops = inr (record { request = r; reads = reads; refused = stops })
stops_one stop.FileFault words document r s reads stops = tt
stops_one stop.OutOfMemory words document r s reads stops = tt

pub stops_all_one : {T : Type 0} (result : Result T Stop) (words : RunWords) (document : List ℕ) (r : RequestView) (s : SessionView) → ReadsAs document r → IfErr result (λ why. StopsBy why words r s)
    → IfErr result (λ why. StopsOne why words document s)
stops_all_one (Ok done) words document r s reads h = tt
stops_all_one (Err why) words document r s reads h = stops_one why words document r s reads h

-- a block begins, or ends
pub begun : (words : RunWords) (s s' : SessionView) (asked : List (List ℕ)) → s' ≡ opened s → AsksBy words begins s s' asked asked
begun words s s' asked e = record { taken = refl; remembered = e; grows = λ q. refl }

pub closed_ok : {T : Type 0} (result : Result T Stop) (words : RunWords) (s s' : SessionView) (asked : List (List ℕ)) → OnOk result ((is_open s ≡ true) × (s' ≡ closed s)) → OnOk result (AsksBy words ends s s' asked asked)
closed_ok (Ok done) words s s' asked h = record { taken = h.0; remembered = h.1; grows = λ q. refl }
closed_ok (Err why) words s s' asked h = tt

pub closed_err : {T : Type 0} (result : Result T Stop) (words : RunWords) (s : SessionView) → IfErr result (λ why. (why ≡ stop.Refused) × (is_open s ≡ false)) → IfErr result (λ why. StopsBy why words ends s)
closed_err (Ok done) words s h = tt
closed_err (Err stop.Refused) words s h = h.1
closed_err (Err stop.FileFault) words s h = tt
closed_err (Err stop.OutOfMemory) words s h = tt

pub closed_counted : {T : Type 0} (result : Result T Stop) (s : SessionView) (count : ℕ) → IfErr result (λ why. (why ≡ stop.Refused) × (is_open s ≡ false)) → Counted is_file_fault count count result
closed_counted (Ok done) s count h = refl
closed_counted (Err stop.Refused) s count h = refl
closed_counted (Err stop.FileFault) s count h = absurd (cc (h.0))
closed_counted (Err stop.OutOfMemory) s count h = refl

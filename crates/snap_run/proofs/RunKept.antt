-- What a whole run keeps.
use Rattle.snap_run.proofs.Prelude.{◌≡◌, inl, inr, ℕ, false, Bool, List, [], ◌∷◌, ◌++◌, Option, None, Some, Result, Ok, Err, refl, sym, ◌∙◌, ap, subst, get, Files, Outside, Answer, RunWords, place_by, assertion_by, asked_by, requests_of, remembered_by, remembered_after, course_files, step, step_by, files_after, documents, IsKeptOrGone, is_written, may_change, SessionView, empty_session, AssertionView, RequestView, asserts, begins, ends, ReadsAs, Reads, Ran, Stopped, StopsAt, IsInWork, LineFails, name_in, path_in, RunsTo, RunsFrom, DocumentError, Status, step_keeps, gone_after, Update}
use Rattle.snap_content.proofs.Booleans.{some_same}
use Rattle.snap_assert.specs.Assertions.{key_under, new_contents}
use Rattle.snap_assert.specs.Blocks.{keep_step}
use Rattle.snap_assert.specs.Courses.{course_of, named_course, kept_course}
use Rattle.snap_assert.specs.Names.{Named}
use Rattle.snap_assert.specs.declared.error.AssertError.{AssertError}
use Rattle.snap_run.specs.RunKept.{AreRead, IsSparedBy, IsSpared, AreSpared, RunKeeps, KeptByRun}
use Rattle.snap_run.specs.declared.document_error.DocumentError.TheVariants as error
use Rattle.snap_run.specs.declared.status.Status.TheVariants as status

step_unwritten_by : (words : RunWords) (a : AssertionView) (passed : Bool) (s : SessionView) (named : Result Named AssertError) (m : Files) (q : List ℕ) → name_in words a s ≡ named
    → IsSparedBy words is_written q a named → IsKeptOrGone (get m q) (get (course_files words a passed (course_of (assertion_by words a) s) m) q)
step_unwritten_by words a passed s (Err e) m q is spared =
    inl (ap (λ c. get (course_files words a passed c m) q) (ap (named_course (assertion_by words a) s) is))
step_unwritten_by words a passed s (Ok named) m q is spared =
    subst (λ c. IsKeptOrGone (get m q) (get (course_files words a passed c m) q)) (sym (ap (named_course (assertion_by words a) s) is))
    (kept_under words a passed named (keep_step (key_under (place_by words.workspace a) named.name) (new_contents (asked_by words a named.name)) named.session) m q spared)
  where
    kept_under : (words : RunWords) (a : AssertionView) (passed : Bool) (named : Named) (kept : Result SessionView AssertError) (m : Files) (q : List ℕ) → is_written words.update (path_in words a named.name) q ≡ false
        → IsKeptOrGone (get m q) (get (course_files words a passed (kept_course named kept) m) q)
    kept_under words a passed named (Err e) m q spared = inl refl
    kept_under words a passed named (Ok session) m q spared =
        let asked = asked_by words a named.name in
        let k = step_keeps words.update words.force_update asked passed m _ refl refl in
        subst (λ f. IsKeptOrGone (get m q) (get f q)) (sym (some_same (step words.update words.force_update asked passed m) k.files k.told)) (k.unwritten q spared)

step_unwritten : (words : RunWords) (r : RequestView) (passed : Bool) (s : SessionView) (m : Files) (q : List ℕ) → IsSpared words is_written q r s → IsKeptOrGone (get m q) (get (step_by words r passed s m) q)
step_unwritten words (asserts a) passed s m q h = step_unwritten_by words a passed s (name_in words a s) m q refl h
step_unwritten words begins passed s m q h = inl refl
step_unwritten words ends passed s m q h = inl refl

step_other_by : (words : RunWords) (a : AssertionView) (passed : Bool) (s : SessionView) (named : Result Named AssertError) (m : Files) (q : List ℕ) → name_in words a s ≡ named
    → IsSparedBy words may_change q a named → get (course_files words a passed (course_of (assertion_by words a) s) m) q ≡ get m q
step_other_by words a passed s (Err e) m q is spared = ap (λ c. get (course_files words a passed c m) q) (ap (named_course (assertion_by words a) s) is)
step_other_by words a passed s (Ok named) m q is spared =
    ap (λ c. get (course_files words a passed c m) q) (ap (named_course (assertion_by words a) s) is)
    ∙ other_under words a passed named (keep_step (key_under (place_by words.workspace a) named.name) (new_contents (asked_by words a named.name)) named.session) m q spared
  where
    other_under : (words : RunWords) (a : AssertionView) (passed : Bool) (named : Named) (kept : Result SessionView AssertError) (m : Files) (q : List ℕ) → may_change words.update (path_in words a named.name) q ≡ false
        → get (course_files words a passed (kept_course named kept) m) q ≡ get m q
    other_under words a passed named (Err e) m q spared = refl
    other_under words a passed named (Ok session) m q spared =
        let asked = asked_by words a named.name in
        let k = step_keeps words.update words.force_update asked passed m _ refl refl in
        ap (λ f. get f q) (some_same (step words.update words.force_update asked passed m) k.files k.told) ∙ k.others q spared

step_other : (words : RunWords) (r : RequestView) (passed : Bool) (s : SessionView) (m : Files) (q : List ℕ) → IsSpared words may_change q r s → get (step_by words r passed s m) q ≡ get m q
step_other words (asserts a) passed s m q h = step_other_by words a passed s (name_in words a s) m q refl h
step_other words begins passed s m q h = refl
step_other words ends passed s m q h = refl

after_unwritten : (words : RunWords) (answers : List Answer) (s : SessionView) (m : Files) (q : List ℕ) → AreSpared words is_written q (requests_of answers) s → IsKeptOrGone (get m q) (get (files_after words answers s m) q)
after_unwritten words [] s m q spared = inl refl
after_unwritten words (a ∷ answers) s m q spared =
    gone_after (get m q) (get (step_by words a.request a.passed s m) q) _ (step_unwritten words a.request a.passed s m q spared.0)
    (after_unwritten words answers (remembered_by words a.request s) (step_by words a.request a.passed s m) q spared.1)

after_other : (words : RunWords) (answers : List Answer) (s : SessionView) (m : Files) (q : List ℕ) → AreSpared words may_change q (requests_of answers) s → get (files_after words answers s m) q ≡ get m q
after_other words [] s m q spared = refl
after_other words (a ∷ answers) s m q spared =
    after_other words answers (remembered_by words a.request s) (step_by words a.request a.passed s m) q spared.1 ∙ step_other words a.request a.passed s m q spared.0

all_read : (docs : List (List ℕ)) (requests : List RequestView) → Reads docs requests → AreRead docs requests
all_read [] [] reads = tt
all_read [] (r ∷ rs) reads = absurd reads
all_read (d ∷ docs) [] reads = tt
all_read (d ∷ docs) (r ∷ rs) reads = (reads.0, all_read docs rs reads.1)

-- of one document at most one request is read
one_read : (document : List ℕ) (later : List (List ℕ)) (requests : List RequestView) → AreRead (document ∷ []) requests → AreRead (document ∷ later) requests
one_read document later [] read = tt
one_read document later (r ∷ []) read = (read.0, tt)
one_read document later (r ∷ (x ∷ xs)) read = absurd read.1

then_read : (done : List (List ℕ)) (document : List ℕ) (later : List (List ℕ)) (requests last : List RequestView) → Reads done requests → AreRead (document ∷ []) last
    → AreRead (done ++ document ∷ later) (requests ++ last)
then_read [] document later [] last reads read = one_read document later last read
then_read [] document later (r ∷ rs) last reads read = absurd reads
then_read (d ∷ done) document later [] last reads read = absurd reads
then_read (d ∷ done) document later (r ∷ rs) last reads read = (reads.0, then_read done document later rs last reads.1 read)

same_keeps : (words : RunWords) (docs : List (List ℕ)) (s : SessionView) (m : Files) (f g : Option Files) → g ≡ f → f ≡ Some m → RunKeeps words docs s m g
same_keeps words docs s m f g same told = record { requests = []; read = tt; files = m; told = same ∙ told; unwritten = λ q h. inl refl; others = λ q h. refl }

ran_keeps : (words : RunWords) (docs : List (List ℕ)) (answers : List Answer) (s t : SessionView) (a b : Outside) (m : Files) → Ran words docs answers s t a b → a.files ≡ Some m → RunKeeps words docs s m b.files
ran_keeps words docs answers s t a b m r told = record {
  requests = requests_of answers;
  read = all_read docs (requests_of answers) r.reads;
  files = files_after words answers s m;
  told = r.stands m told;
  unwritten = λ q h. after_unwritten words answers s m q h;
  others = λ q h. after_other words answers s m q h;
}

-- what is kept by an assertion in work, by the name that it takes
work_by : (words : RunWords) (document : List ℕ) (a : AssertionView) (s : SessionView) (m : Files) (f g : Option Files) (named : Result Named AssertError) → ReadsAs document (asserts a) → IsInWork words a s f g → f ≡ Some m
    → name_in words a s ≡ named → RunKeeps words (document ∷ []) s m g
work_by words document a s m f g (Err e) reads work told is = same_keeps words (document ∷ []) s m f g (work.untouched e is) told
work_by words document a s m f g (Ok named) reads work told is =
    let k = work.kept named is m told in
    record {
      requests = asserts a ∷ [];
      read = (reads, tt);
      files = k.files;
      told = k.told;
      unwritten = λ q h. k.unwritten q (subst (IsSparedBy words is_written q a) is h.0);
      others = λ q h. k.others q (subst (IsSparedBy words may_change q a) is h.0);
    }

work_keeps : (words : RunWords) (document : List ℕ) (a : AssertionView) (s : SessionView) (m : Files) (f g : Option Files) → ReadsAs document (asserts a) → IsInWork words a s f g → f ≡ Some m → RunKeeps words (document ∷ []) s m g
work_keeps words document a s m f g reads work told = work_by words document a s m f g (name_in words a s) reads work told refl

line_keeps : (words : RunWords) (document : List ℕ) (s : SessionView) (a b : Outside) (m : Files) → LineFails words document s a b → a.files ≡ Some m → RunKeeps words (document ∷ []) s m b.files
line_keeps words document s a b m l told = record {
  requests = l.answer.request ∷ [];
  read = (l.reads, tt);
  files = step_by words l.answer.request l.answer.passed s m;
  told = l.stands m told;
  unwritten = λ q h. step_unwritten words l.answer.request l.answer.passed s m q h.0;
  others = λ q h. step_other words l.answer.request l.answer.passed s m q h.0;
}

stop_keeps : (words : RunWords) (e : DocumentError) (document : List ℕ) (s : SessionView) (a b : Outside) (m : Files) → StopsAt words e document s a b → a.files ≡ Some m → RunKeeps words (document ∷ []) s m b.files
stop_keeps words error.NoRequest document s a b m h told = same_keeps words (document ∷ []) s m a.files b.files h.0 told
stop_keeps words (error.Refused kind) document s a b m h told = work_keeps words document h.1.assertion s m a.files b.files h.1.reads h.1.is.work told
stop_keeps words (error.FileIo named) document s a b m h told = work_keeps words document h.1.assertion s m a.files b.files h.1.reads h.1.is.work told
stop_keeps words error.WriteFault document s a b m h told = line_keeps words document s a b m h told
stop_keeps words error.OutOfMemory document s a b m (written, inl same) told = same_keeps words (document ∷ []) s m a.files b.files same told
stop_keeps words error.OutOfMemory document s a b m (written, inr h) told = work_keeps words document h.assertion s m a.files b.files h.reads h.is.work told

spared_front : (words : RunWords) (test : Update → List ℕ → List ℕ → Bool) (q : List ℕ) (xs ys : List RequestView) (s : SessionView) → AreSpared words test q (xs ++ ys) s → AreSpared words test q xs s
spared_front words test q [] ys s h = tt
spared_front words test q (x ∷ xs) ys s h = (h.0, spared_front words test q xs ys (remembered_by words x s) h.1)

spared_back : (words : RunWords) (test : Update → List ℕ → List ℕ → Bool) (q : List ℕ) (xs ys : List RequestView) (s : SessionView) → AreSpared words test q (xs ++ ys) s → AreSpared words test q ys (remembered_after words xs s)
spared_back words test q [] ys s h = h
spared_back words test q (x ∷ xs) ys s h = spared_back words test q xs ys (remembered_by words x s) h.1

-- the documents before the one that stopped the run, and then that one
stopped_keeps : (words : RunWords) (end : Status) (docs : List (List ℕ)) (z : SessionView) (a b : Outside) (m : Files) → Stopped end words docs z a b → a.files ≡ Some m → RunKeeps words docs z m b.files
stopped_keeps words end docs z a b m s told =
    let before = requests_of s.answers in
    let middle = files_after words s.answers z m in
    let stops = subst (λ k. StopsAt words s.error s.document k s.between b) s.ran.remembered s.stops in
    let last = stop_keeps words s.error s.document (remembered_after words before z) s.between b middle stops (s.ran.stands m told) in
    record {
      requests = before ++ last.requests;
      read = subst (λ d. AreRead d (before ++ last.requests)) (sym s.cut) (then_read s.done s.document s.later before last.requests s.ran.reads last.read);
      files = last.files;
      told = last.told;
      unwritten = λ q h.
          gone_after (get m q) (get middle q) (get last.files q) (after_unwritten words s.answers z m q (spared_front words is_written q before last.requests z h))
          (last.unwritten q (spared_back words is_written q before last.requests z h));
      others = λ q h.
          last.others q (spared_back words may_change q before last.requests z h)
          ∙ after_other words s.answers z m q (spared_front words may_change q before last.requests z h);
    }

-- whatever the status is
runs_keep : (words : RunWords) (end : Status) (docs : List (List ℕ)) (a b : Outside) (m : Files) → RunsTo end words docs a b → a.files ≡ Some m → RunKeeps words docs empty_session m b.files
runs_keep words status.AllPassed docs a b m r told = ran_keeps words docs r.1.answers empty_session r.1.remembered a b m r.1.ran told
runs_keep words status.SomeFailed docs a b m r told = ran_keeps words docs r.1.answers empty_session r.1.remembered a b m r.1.ran told
runs_keep words status.BadWords docs a b m r told = absurd r
runs_keep words (status.BadRequest n) docs a b m r told = stopped_keeps words (status.BadRequest n) docs empty_session a b m r told
runs_keep words (status.Refused n kind) docs a b m r told = stopped_keeps words (status.Refused n kind) docs empty_session a b m r told
runs_keep words (status.FileIo n path) docs a b m r told = stopped_keeps words (status.FileIo n path) docs empty_session a b m r told
runs_keep words status.ReadFault docs a b m r told = same_keeps words docs empty_session m a.files b.files r.0 told
runs_keep words status.WriteFault docs a b m r told = stopped_keeps words status.WriteFault docs empty_session a b m r told
runs_keep words status.OutOfMemory docs a b m (inl r) told = same_keeps words docs empty_session m a.files b.files r.0 told
runs_keep words status.OutOfMemory docs a b m (inr r) told = stopped_keeps words status.OutOfMemory docs empty_session a b m r told
runs_keep words status.InputTooLong docs a b m r told = same_keeps words docs empty_session m a.files b.files r.0 told

pub run_keeps : (end : Status) (words : RunWords) (left : Option (List ℕ)) (input : List ℕ) (a b : Outside) → RunsFrom end words left a b → left ≡ Some input
    → KeptByRun words (documents input) a.files b.files
run_keeps end words left input a b r told =
    subst (λ t. KeptByRun words (documents t) a.files b.files) (r.told input told) (λ m files. runs_keep words end (documents r.input) a b m r.runs files)

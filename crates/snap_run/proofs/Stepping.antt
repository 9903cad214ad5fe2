-- How a run over documents goes on from one to the next.
use Rattle.snap_run.proofs.Prelude.{◌≡◌, ◌||◌, Bool, true, false, ℕ, ◌+◌, ◌<◌, ◌≤◌, List, [], ◌∷◌, ◌++◌, length, take, drop, Option, None, Some, inl, inr, refl, sym, ◌∙◌, ap, subst, arith, append_assoc, length-append, append-nil, Files, Outside, outside, documents, RequestView, Reads, Answer, RunWords, SessionView, remembered_by, remembered_after, AreTaken, step_by, line_by, requests_of, AreAllowed, files_after, lines_of, answer_fails, some_fails, passes, passed_count, no_tally, added, Tally, Ran, RanOne, Stopped, StopsAt, IsSeenFrom, Ended, status_at, DocumentError, Status}
use Rattle.std.specs.Prelude.{option_map}
use Rattle.snap_assert.specs.Listed.{IsCovered, IsKnown, StaysCovered}
use Rattle.snap_assert.specs.declared.listed.Listed.{Listed}

requests_of-append : (a b : List Answer) → requests_of (a ++ b) ≡ requests_of a ++ requests_of b
requests_of-append [] b = refl
requests_of-append (x ∷ a) b = ap (λ t. x.request ∷ t) (requests_of-append a b)

Reads-append : (ds es : List (List ℕ)) (rs ss : List RequestView) → Reads ds rs → Reads es ss → Reads (ds ++ es) (rs ++ ss)
Reads-append [] es [] ss h k = k
Reads-append [] es (r ∷ rs) ss h k = absurd h
Reads-append (d ∷ ds) es [] ss h k = absurd h
Reads-append (d ∷ ds) es (r ∷ rs) ss h k = (h.0, Reads-append ds es rs ss h.1 k)

remembered_after-append : (words : RunWords) (rs ss : List RequestView) (s : SessionView) → remembered_after words (rs ++ ss) s ≡ remembered_after words ss (remembered_after words rs s)
remembered_after-append words [] ss s = refl
remembered_after-append words (r ∷ rs) ss s = remembered_after-append words rs ss (remembered_by words r s)

AreTaken-append : (words : RunWords) (rs ss : List RequestView) (s : SessionView) → AreTaken words rs s → AreTaken words ss (remembered_after words rs s) → AreTaken words (rs ++ ss) s
AreTaken-append words [] ss s h k = k
AreTaken-append words (r ∷ rs) ss s h k = (h.0, AreTaken-append words rs ss (remembered_by words r s) h.1 k)

files_after-append : (words : RunWords) (a b : List Answer) (s : SessionView) (m : Files)
    → files_after words (a ++ b) s m ≡ files_after words b (remembered_after words (requests_of a) s) (files_after words a s m)
files_after-append words [] b s m = refl
files_after-append words (x ∷ a) b s m = files_after-append words a b (remembered_by words x.request s) (step_by words x.request x.passed s m)

AreAllowed-append : (words : RunWords) (a b : List Answer) (s : SessionView) (m : Files) → AreAllowed words a s m
    → AreAllowed words b (remembered_after words (requests_of a) s) (files_after words a s m) → AreAllowed words (a ++ b) s m
AreAllowed-append words [] b s m h k = k
AreAllowed-append words (x ∷ a) b s m h k = (h.0, AreAllowed-append words a b (remembered_by words x.request s) (step_by words x.request x.passed s m) h.1 k)

lines_of-append : (words : RunWords) (a b : List Answer) (s : SessionView) → lines_of words (a ++ b) s ≡ lines_of words a s ++ lines_of words b (remembered_after words (requests_of a) s)
lines_of-append words [] b s = refl
lines_of-append words (x ∷ a) b s =
    ap (λ t. line_by words x.request x.passed s ++ t) (lines_of-append words a b (remembered_by words x.request s))
    ∙ sym (append_assoc (line_by words x.request x.passed s) (lines_of words a (remembered_by words x.request s)) (lines_of words b (remembered_after words (requests_of a) (remembered_by words x.request s))))

pub nothing_run : (words : RunWords) (s : SessionView) (o : Outside) → Ran words [] [] s s o o
nothing_run words s o = record { reads = tt; taken = tt; remembered = refl; allowed = λ m e. tt; stands = λ m e. e; lines = λ x e. e ∙ ap Some (sym (append-nil x)) }

-- one run and then another
pub Ran-append : (words : RunWords) (ds es : List (List ℕ)) (a b : List Answer) (s t u : SessionView) (x y z : Outside) → Ran words ds a s t x y → Ran words es b t u y z → Ran words (ds ++ es) (a ++ b) s u x z
Ran-append words ds es a b s t u x y z p q =
    let there : AreTaken words (requests_of b) (remembered_after words (requests_of a) s) = subst (λ k. AreTaken words (requests_of b) k) p.remembered q.taken in
    record {
      reads = subst (Reads (ds ++ es)) (sym (requests_of-append a b)) (Reads-append ds es (requests_of a) (requests_of b) p.reads q.reads);
      taken = subst (λ rs. AreTaken words rs s) (sym (requests_of-append a b)) (AreTaken-append words (requests_of a) (requests_of b) s p.taken there);
      remembered = q.remembered ∙ ap (remembered_after words (requests_of b)) p.remembered ∙ sym (remembered_after-append words (requests_of a) (requests_of b) s)
          ∙ ap (λ rs. remembered_after words rs s) (sym (requests_of-append a b));
      allowed = λ m e. AreAllowed-append words a b s m (p.allowed m e)
          (subst (λ k. AreAllowed words b k (files_after words a s m)) p.remembered (q.allowed (files_after words a s m) (p.stands m e)));
      stands = λ m e. q.stands (files_after words a s m) (p.stands m e)
          ∙ ap (λ k. Some (files_after words b k (files_after words a s m))) p.remembered ∙ ap Some (sym (files_after-append words a b s m));
      lines = λ w e. q.lines (w ++ lines_of words a s) (p.lines w e)
          ∙ ap Some (append_assoc w (lines_of words a s) (lines_of words b t) ∙ ap (λ l. w ++ l) (ap (λ k. lines_of words a s ++ lines_of words b k) p.remembered ∙ sym (lines_of-append words a b s)));
    }

some_fails-append : (words : RunWords) (a b : List Answer) → some_fails words (a ++ b) ≡ (some_fails words a || some_fails words b)
some_fails-append words [] b = refl
some_fails-append words (x ∷ a) b = ap (λ t. answer_fails words x.request x.passed || t) (some_fails-append words a b) ∙ grouped (answer_fails words x.request x.passed) (some_fails words a) (some_fails words b)
  where
    grouped : (x y z : Bool) → (x || (y || z)) ≡ ((x || y) || z)
    grouped true y z = refl
    grouped false y z = refl

passed_count-append : (a b : List Answer) → passed_count (a ++ b) ≡ passed_count a + passed_count b
passed_count-append [] b = omega arith
passed_count-append (x ∷ a) b = let more = passed_count-append a b in omega (arith, more)

one_more_passes : (answers : List Answer) (answer : Answer) (passed more : ℕ) → passed_count answers ≡ passed → passes answer.request answer.passed ≡ more
    → passed_count (answers ++ answer ∷ []) ≡ passed + more
one_more_passes answers answer passed more before now = let all = passed_count-append answers (answer ∷ []) in omega (arith, all, before, now)

one_more_fails : (words : RunWords) (answers : List Answer) (answer : Answer) (fails failed : Bool) → some_fails words answers ≡ fails → answer_fails words answer.request answer.passed ≡ failed
    → some_fails words (answers ++ answer ∷ []) ≡ (fails || failed)
one_more_fails words answers answer fails failed before now =
    some_fails-append words answers (answer ∷ []) ∙ ap (λ x. x || (answer_fails words answer.request answer.passed || false)) before
    ∙ ap (λ y. fails || (y || false)) now ∙ ap (λ z. fails || z) (alone failed)
  where
    alone : (b : Bool) → (b || false) ≡ b
    alone true = refl
    alone false = refl

-- n documents of all were run, and these bytes are left
pub record IsRun (words : RunWords) (all : List (List ℕ)) (rest : List ℕ) (n : ℕ) (tally : Tally) (session session' : SessionView) (before after : Outside) : Type 0 where
  pub done : List (List ℕ)
  pub answers : List Answer
  pub cut : all ≡ done ++ documents rest
  pub number : n ≡ length done
  pub ran : Ran words done answers session session' before after
  pub failing : some_fails words answers ≡ tally.fails
  pub passing : passed_count answers ≡ tally.passed

pub begins_run : (words : RunWords) (input : List ℕ) (s t : SessionView) (o : Outside) (tally : Tally) → t ≡ s → tally ≡ no_tally → IsRun words (documents input) input 0 tally s t o o
begins_run words input s t o tally same none = record { done = []; answers = []; cut = refl; number = refl; ran = subst (λ k. Ran words [] [] s k o o) (sym same) (nothing_run words s o); failing = sym (ap (λ k. k.fails) none); passing = sym (ap (λ k. k.passed) none) }

pub goes_on : (words : RunWords) (all : List (List ℕ)) (rest d later : List ℕ) (n : ℕ) (tally answered : Tally) (s t u : SessionView) (x y z : Outside)
    → documents rest ≡ d ∷ documents later → IsRun words all rest n tally s t x y → RanOne words d answered t u y z → IsRun words all later (n + 1) (added tally answered) s u x z
goes_on words all rest d later n tally answered s t u x y z first r q = record {
  done = r.done ++ d ∷ [];
  answers = r.answers ++ q.answer ∷ [];
  cut = r.cut ∙ ap (λ t. r.done ++ t) first ∙ sym (append_assoc r.done (d ∷ []) (documents later));
  number = omega (arith, r.number, length-append r.done (d ∷ []));
  ran = Ran-append words r.done (d ∷ []) r.answers (q.answer ∷ []) s t u x y z r.ran q.ran;
  failing = one_more_fails words r.answers q.answer tally.fails answered.fails r.failing q.failing;
  passing = one_more_passes r.answers q.answer tally.passed answered.passed r.passing q.passing;
}

pub ends_run : (words : RunWords) (all : List (List ℕ)) (rest : List ℕ) (n : ℕ) (tally : Tally) (s t : SessionView) (x y : Outside) → length rest ≡ 0 → IsRun words all rest n tally s t x y → Ended tally words all s x y
ends_run words all [] n tally s t x y none r = record {
  answers = r.answers;
  remembered = t;
  ran = subst (λ ds. Ran words ds r.answers s t x y) (sym (r.cut ∙ append-nil r.done)) r.ran;
  failing = r.failing;
  passing = r.passing;
}
ends_run words all (b ∷ rest) n tally s t x y none r = absurd (omega arith)

pub stops : (words : RunWords) (all : List (List ℕ)) (rest d later : List ℕ) (n : ℕ) (tally : Tally) (e : DocumentError) (status : Status) (s t : SessionView) (x y z : Outside)
    → documents rest ≡ d ∷ documents later → IsRun words all rest n tally s t x y → StopsAt words e d t y z → status ≡ status_at (n + 1) e → Stopped status words all s x z
stops words all rest d later n tally e status s t x y z first r stop is = record {
  done = r.done;
  document = d;
  later = documents later;
  cut = r.cut ∙ ap (λ t. r.done ++ t) first;
  error = e;
  status_is = is ∙ ap (λ k. status_at (k + 1) e) r.number;
  answers = r.answers;
  remembered = t;
  between = y;
  ran = r.ran;
  stops = stop;
}

pub first_is : (rest first later : List ℕ) (n : ℕ) → documents rest ≡ take n rest ∷ documents (drop n rest) → first ≡ take n rest → later ≡ drop n rest → documents rest ≡ first ∷ documents later
first_is rest first later n cut front back = cut ∙ ap (λ t. t ∷ documents (drop n rest)) (sym front) ∙ ap (λ t. first ∷ documents t) (sym back)

-- what is known of the files after a run: those of the steps, where the files were told before it
abbrev pub known_after : RunWords → List Answer → SessionView → Option Files → Option Files
known_after words answers s start = option_map (λ m. files_after words answers s m) start

-- the same run, as it is seen from there
pub known_run : (words : RunWords) (all : List (List ℕ)) (rest : List ℕ) (n : ℕ) (tally : Tally) (s t : SessionView) (x : Outside) (g : Option Files) (w : Option (List ℕ)) (r : IsRun words all rest n tally s t x (outside g w))
    → IsRun words all rest n tally s t x (outside (known_after words r.answers s x.files) w)
known_run words all rest n tally s t x g w r = record {
  done = r.done;
  answers = r.answers;
  cut = r.cut;
  number = r.number;
  ran = record {
    reads = r.ran.reads;
    taken = r.ran.taken;
    remembered = r.ran.remembered;
    allowed = r.ran.allowed;
    stands = λ m told. ap (option_map (λ m. files_after words r.answers s m)) told;
    lines = r.ran.lines;
  };
  failing = r.failing;
  passing = r.passing;
}

-- where the files were told before the run, those that are told now are covered
abbrev pub CoversNow : Option Files → Option Files → Listed → Type 0
CoversNow start now listed = (m : Files) → start ≡ Some m → (n : Files) → now ≡ Some n → IsCovered n listed

known_files : (start now : Option Files) (f : Files → Files) (listed : Listed) → ((m : Files) → start ≡ Some m → now ≡ Some (f m)) → CoversNow start now listed → IsKnown (option_map f start) now listed
known_files None now f listed stands covered n is = absurd (cc is)
known_files (Some m) now f listed stands covered n is = let told = stands m refl ∙ is in (told, covered m refl n told)

pub known_now : (words : RunWords) (all : List (List ℕ)) (rest : List ℕ) (n : ℕ) (tally : Tally) (s t : SessionView) (start now : Option Files) (v w : Option (List ℕ)) (listed : Listed)
    → (r : IsRun words all rest n tally s t (outside start v) (outside now w)) → CoversNow start now listed → IsKnown (known_after words r.answers s start) now listed
known_now words all rest n tally s t start now v w listed r covered = known_files start now (λ m. files_after words r.answers s m) listed r.ran.stands covered

pub covers_on : (words : RunWords) (all : List (List ℕ)) (rest : List ℕ) (n : ℕ) (tally : Tally) (s t : SessionView) (start now next : Option Files) (v w : Option (List ℕ)) (listed listed' : Listed)
    → IsRun words all rest n tally s t (outside start v) (outside now w) → CoversNow start now listed → StaysCovered now next listed listed' → CoversNow start next listed'
covers_on words all rest n tally s t start now next v w listed listed' r covered stays m told k is =
    let here = r.ran.stands m told in stays (files_after words r.answers s m) here (covered m told (files_after words r.answers s m) here) k is

-- a turn of the run
pub goes_known : (words : RunWords) (all : List (List ℕ)) (rest d later : List ℕ) (n : ℕ) (tally answered : Tally) (s t u : SessionView) (start now : Option Files) (v w : Option (List ℕ)) (z : Outside) (listed : Listed) (counted : Tally)
    → documents rest ≡ d ∷ documents later → IsRun words all rest n tally s t (outside start v) (outside now w) → CoversNow start now listed
    → ((known : Option Files) → IsKnown known now listed → RanOne words d answered t u (outside known w) z) → counted ≡ added tally answered → IsRun words all later (n + 1) counted s u (outside start v) z
goes_known words all rest d later n tally answered s t u start now v w z listed counted first r covered ran is =
    subst (λ k. IsRun words all later (n + 1) k s u (outside start v) z) (sym is) (goes_on words all rest d later n tally answered s t u (outside start v) (outside (known_after words r.answers s start) w) z first
    (known_run words all rest n tally s t (outside start v) now w r)
    (ran (known_after words r.answers s start) (known_now words all rest n tally s t start now v w listed r covered)))

stops_seen : (words : RunWords) (all : List (List ℕ)) (rest d later : List ℕ) (n : ℕ) (tally : Tally) (e : DocumentError) (status : Status) (s t : SessionView) (start now : Option Files) (v w : Option (List ℕ)) (z : Outside)
    → documents rest ≡ d ∷ documents later → (r : IsRun words all rest n tally s t (outside start v) (outside now w))
    → IsSeenFrom now (known_after words r.answers s start) (λ files. StopsAt words e d t (outside files w) z) → status ≡ status_at (n + 1) e → Stopped status words all s (outside start v) z
stops_seen words all rest d later n tally e status s t start now v w z first r (inl stop) is = stops words all rest d later n tally e status s t (outside start v) (outside now w) z first r stop is
stops_seen words all rest d later n tally e status s t start now v w z first r (inr stop) is =
    stops words all rest d later n tally e status s t (outside start v) (outside (known_after words r.answers s start) w) z first (known_run words all rest n tally s t (outside start v) now w r) stop is

pub stops_known : (words : RunWords) (all : List (List ℕ)) (rest d later : List ℕ) (n : ℕ) (tally : Tally) (e : DocumentError) (status : Status) (s t : SessionView) (start now : Option Files) (v w : Option (List ℕ)) (z : Outside) (listed : Listed)
    → documents rest ≡ d ∷ documents later → IsRun words all rest n tally s t (outside start v) (outside now w) → CoversNow start now listed
    → ((known : Option Files) → IsKnown known now listed → IsSeenFrom now known (λ files. StopsAt words e d t (outside files w) z)) → status ≡ status_at (n + 1) e → Stopped status words all s (outside start v) z
stops_known words all rest d later n tally e status s t start now v w z listed first r covered seen is =
    stops_seen words all rest d later n tally e status s t start now v w z first r
    (seen (known_after words r.answers s start) (known_now words all rest n tally s t start now v w listed r covered)) is

-- the counts of a turn
pub passed_more : (n : ℕ) (tally answered counted : Tally) → counted ≡ added tally answered → tally.passed ≤ n → answered.passed ≤ 1 → counted.passed ≤ n + 1
passed_more n tally answered counted is few one = let sum = ap (λ k. k.passed) is in omega (arith, sum, few, one)

-- bytes that are left are of bytes
pub not_empty : (input rest : List ℕ) (n : ℕ) → n + length rest ≤ length input → 0 < length rest → input ≡ [] → ⊥
not_empty input rest n few some none = let size = ap length none in omega (arith, few, some, size)

-- What is named, and how a run ends.
use Rattle.snap_explain_unused.proofs.Prelude.{◌≡◌, Result, Ok, Err, is_refused, ◌≤◌, ◌+◌, arith, append-nil, ℕ, Bool, true, false, not, ◌&&◌, List, [], ◌∷◌, ◌++◌, Option, Some, length, refl, sym, ap, ◌∙◌, subst, codes, Files, is_among, IsUnused, is_left, base_of, ends_with, lines_of, is_filled, RunWords, empty_session, asked_paths, run_in, AsksAll, StopsAll, AreNamed, UnusedLeaves, UnusedLength, FindsLines, FindsText, SaysOf, Tells, Stop, UnusedStatus, encode_utf8_all}
use Rattle.std.specs.Prelude.{IfOk, IfErr}
use Rattle.snap_io.specs.Causes.{CountedIf}
use Rattle.snap_io.specs.Streams.{HoldsFront}
use Rattle.snap_io_streams.specs.Streams.{TakesAtMost, input_limit}
use Rattle.snap_explain_unused.specs.Ends.{stopped, IsAfterReading, IsSaying}
use Rattle.snap_explain_unused.specs.Runs.{says_file_fault, says_read_fault, says_write_fault}
use Rattle.snap_explain_unused.specs.Stops.{is_file_fault}
use Rattle.snap_explain_unused.specs.declared.asking.Stop.TheVariants as stop
use Rattle.snap_explain_unused.specs.declared.naming.Findings.{Findings}
use Rattle.snap_explain_unused.specs.declared.status.UnusedStatus.TheVariants as status

-- of two lists with the same paths one is as good as the other
left_alike : (a b : List (List ℕ)) → ((q : List ℕ) → is_among a q ≡ is_among b q) → (q : List ℕ) → is_left a q ≡ is_left b q
left_alike a b alike q = ap (λ t. ends_with (codes ".snap") (base_of q) && not t) (alike (base_of q))

unused_alike : (a b : List (List ℕ)) (m : Files) (q : List ℕ) → ((q : List ℕ) → is_among a q ≡ is_among b q) → IsUnused a m q → IsUnused b m q
unused_alike a b m q alike u = record {
  file = u.file;
  there = u.there;
  beside = record { other = u.beside.other; among = sym (alike u.beside.other) ∙ u.beside.among; same = u.beside.same };
  left = sym (left_alike a b alike q) ∙ u.left;
}

pub named_alike : (a b : List (List ℕ)) (files : Option Files) (paths : List (List ℕ)) → ((q : List ℕ) → is_among a q ≡ is_among b q) → AreNamed a files paths → AreNamed b files paths
named_alike a b files paths alike n = record {
  left = λ q e. sym (left_alike a b alike q) ∙ n.left q e;
  unused = λ m told.
      let u = n.unused m told in
      record { only = λ q e. unused_alike a b m q alike (u.only q e); each = λ q k. u.each q (unused_alike b a m q (λ x. sym (alike x)) k) };
  ascending = n.ascending;
}

pub filled_is : (paths : List (List ℕ)) (empty : Bool) → (empty ≡ true → length paths ≡ 0) → (length paths ≡ 0 → empty ≡ true) → not empty ≡ is_filled paths
filled_is [] true f g = refl
filled_is [] false f g = let wrong : false ≡ true = g refl in cc wrong
filled_is (p ∷ paths) true f g = let wrong = f refl in absurd (cc wrong)
filled_is (p ∷ paths) false f g = refl

pub finds_text : (words : RunWords) (files : Option Files) (input : List ℕ) (asked : List (List ℕ)) (findings : Findings) → AsksAll words input asked → FindsLines asked files findings → FindsText words files input findings
finds_text words files input asked findings a f = record {
  requests = a.requests;
  asked = a.asked;
  paths = f.paths;
  named = named_alike asked (asked_paths words a.requests empty_session) files f.paths a.paths_are f.named;
  holds = f.tells;
}

none_filled : (paths : List (List ℕ)) → is_filled paths ≡ false → paths ≡ []
none_filled [] e = refl
none_filled (p ∷ paths) e = absurd (cc e)

some_filled : (paths : List (List ℕ)) → is_filled paths ≡ true → paths ≡ [] → ⊥
some_filled paths e none = let wrong : false ≡ true = sym (ap is_filled none) ∙ e in cc wrong

said_lines : (findings : Findings) (paths : List (List ℕ)) → Tells findings paths → encode_utf8_all findings.text ≡ lines_of paths
said_lines findings paths t = ap encode_utf8_all t.text

-- what was found is said
pub leaves_said : (s : UnusedStatus) (workspace : List ℕ) (files : Option Files) (input w : List ℕ) (now : Option (List ℕ)) (findings : Findings) → FindsText (run_in workspace) files input findings → SaysOf findings s w now
    → UnusedLeaves workspace files s input w now
leaves_said status.Nothing workspace files input w now findings f said = (
  record { requests = f.requests; asked = f.asked; paths = f.paths; named = f.named; holds = none_filled f.paths (sym f.holds.filled ∙ said.0) },
  said.1,
)
leaves_said status.Found workspace files input w now findings f said = record {
  requests = f.requests;
  asked = f.asked;
  paths = f.paths;
  named = f.named;
  holds = (some_filled f.paths (sym f.holds.filled ∙ said.0), said.1 ∙ ap (λ t. Some (w ++ t)) (said_lines findings f.paths f.holds));
}
leaves_said status.WriteFault workspace files input w now findings f said = record {
  requests = f.requests;
  asked = f.asked;
  paths = f.paths;
  named = f.named;
  holds = subst (λ t. HoldsFront t w now) (said_lines findings f.paths f.holds) said;
}
leaves_said status.Refused workspace files input w now findings f said = absurd said
leaves_said status.FileFault workspace files input w now findings f said = absurd said
leaves_said status.ReadFault workspace files input w now findings f said = absurd said
leaves_said status.OutOfMemory workspace files input w now findings f said = absurd said
leaves_said status.StreamTooLong workspace files input w now findings f said = absurd said

pub leaves_stopped : (why : Stop) (workspace : List ℕ) (files : Option Files) (input w : List ℕ) (now : Option (List ℕ)) → StopsAll why (run_in workspace) input → now ≡ Some w → UnusedLeaves workspace files (stopped why) input w now
leaves_stopped stop.Refused workspace files input w now h e = (h, e)
leaves_stopped stop.FileFault workspace files input w now h e = e
leaves_stopped stop.OutOfMemory workspace files input w now h e = e

pub after_stopped : (why : Stop) → IsAfterReading (stopped why)
after_stopped stop.Refused = tt
after_stopped stop.FileFault = tt
after_stopped stop.OutOfMemory = tt

pub stopped_writes : (why : Stop) (before : ℕ) → CountedIf (says_write_fault (stopped why)) before before
stopped_writes stop.Refused before = refl
stopped_writes stop.FileFault before = refl
stopped_writes stop.OutOfMemory before = refl

pub stopped_files : (why : Stop) (before now : ℕ) → CountedIf (is_file_fault why) before now → CountedIf (says_file_fault (stopped why)) before now
stopped_files stop.Refused before now h = h
stopped_files stop.FileFault before now h = h
stopped_files stop.OutOfMemory before now h = h

-- where nothing but the writing ends a run
pub said_after : (s : UnusedStatus) → IsSaying s → IsAfterReading s
said_after status.Nothing h = tt
said_after status.Found h = tt
said_after status.WriteFault h = tt
said_after status.Refused h = absurd h
said_after status.FileFault h = absurd h
said_after status.ReadFault h = absurd h
said_after status.OutOfMemory h = absurd h
said_after status.StreamTooLong h = absurd h

pub said_files : (s : UnusedStatus) (before now : ℕ) → IsSaying s → now ≡ before → CountedIf (says_file_fault s) before now
said_files status.Nothing before now h e = e
said_files status.Found before now h e = e
said_files status.WriteFault before now h e = e
said_files status.Refused before now h e = absurd h
said_files status.FileFault before now h e = absurd h
said_files status.ReadFault before now h e = absurd h
said_files status.OutOfMemory before now h e = absurd h
said_files status.StreamTooLong before now h e = absurd h

-- an input that was read to its end is none that is too long
read_whole : (xs : List ℕ) (left left' : Option (List ℕ)) → ((input : List ℕ) → left ≡ Some input → xs ≡ input) → ((input : List ℕ) → left ≡ Some input → left' ≡ Some []) → length xs ≤ input_limit
    → TakesAtMost input_limit left left'
read_whole xs left left' all end within = λ input is. record {
  front = xs;
  given = record { rest = []; told = end input is; whole = sym (all input is) ∙ sym (append-nil xs) };
  within = within;
}

read_within : (left left' : Option (List ℕ)) → TakesAtMost input_limit left left' → TakesAtMost (input_limit + 1) left left'
read_within left left' h = λ input is. let k = h input is in record { front = k.front; given = k.given; within = omega (arith, k.within) }

taken_after : (s : UnusedStatus) (left left' : Option (List ℕ)) → IsAfterReading s → TakesAtMost input_limit left left' → UnusedLength s left left'
taken_after status.Nothing left left' h k = k
taken_after status.Found left left' h k = k
taken_after status.WriteFault left left' h k = k
taken_after status.Refused left left' h k = k
taken_after status.FileFault left left' h k = k
taken_after status.ReadFault left left' h k = absurd h
taken_after status.OutOfMemory left left' h k = read_within left left' k
taken_after status.StreamTooLong left left' h k = absurd h

pub length_after : (s : UnusedStatus) (xs : List ℕ) (left left' : Option (List ℕ)) → IsAfterReading s → ((input : List ℕ) → left ≡ Some input → xs ≡ input)
    → ((input : List ℕ) → left ≡ Some input → left' ≡ Some []) → length xs ≤ input_limit → UnusedLength s left left'
length_after s xs left left' h all end within = taken_after s left left' h (read_whole xs left left' all end within)

pub reads_after : (s : UnusedStatus) (before now : ℕ) → IsAfterReading s → now ≡ before → CountedIf (says_read_fault s) before now
reads_after status.Nothing before now h e = e
reads_after status.Found before now h e = e
reads_after status.WriteFault before now h e = e
reads_after status.Refused before now h e = e
reads_after status.FileFault before now h e = e
reads_after status.ReadFault before now h e = absurd h
reads_after status.OutOfMemory before now h e = e
reads_after status.StreamTooLong before now h e = absurd h

-- what was found beside paths, by the requests that ask for them
pub found_of : (result : Result Findings Stop) (words : RunWords) (files : Option Files) (input : List ℕ) (asked : List (List ℕ)) → AsksAll words input asked → IfOk result (λ findings. FindsLines asked files findings)
    → IfOk result (λ findings. FindsText words files input findings)
found_of (Ok findings) words files input asked a h = finds_text words files input asked findings a h
found_of (Err why) words files input asked a h = tt

not_refused : (why : Stop) (words : RunWords) (input : List ℕ) → is_refused why ≡ false → StopsAll why words input
not_refused stop.Refused words input h = absurd (cc h)
not_refused stop.FileFault words input h = tt
not_refused stop.OutOfMemory words input h = tt

pub stops_of : (result : Result Findings Stop) (words : RunWords) (input : List ℕ) → IfErr result (λ why. is_refused why ≡ false) → IfErr result (λ why. StopsAll why words input)
stops_of (Ok findings) words input h = tt
stops_of (Err why) words input h = not_refused why words input h

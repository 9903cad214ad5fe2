-- A demonstration over files of which none is at its paths: each snapshot is written, and all pass the second time.
use Rattle.snap_demo_laws.proofs.Prelude.{◌≡◌, refl, sym, ap, ◌∙◌, subst, arith, ℕ, zero, suc, ◌+◌, ◌%◌, ◌^◌, ◌<◌, ◌≤◌, List, [], ◌∷◌, ◌++◌, length, Bool, true, false, Option, Some, codes, get, unwrap_or, text, entry, no_entries, Files, off, InPlace, next_of, demo_path, demo_file, demo_value, demo_request, May, empty_session, step, demo_run, requests_of, files_after, AreAllowed, passes, passed_count, demo_header, demo_snapshot, demo_image, AreAbsent, AreHeld, bytes_meant, PassesAll}
use Rattle.std.proofs.lemmas.Str.{chars-encodes}
use Rattle.snap_assert.specs.Judging.{IsSavedFor}
use Rattle.snap_demo.proofs.Scalars.{HasCharacters, joined, text_scalars, document_scalars}
use Rattle.snap_demo.proofs.Spelled.{next_below, all_spell, request_characters}
use Rattle.snap_demo.specs.Answers.{demo_lines}
use Rattle.snap_demo.specs.Held.{bytes_held}
use Rattle.snap_demo.specs.Paths.{paths_from}
use Rattle.snap_demo.specs.Requests.{demo_tree, tags_from}
use Rattle.snap_demo.specs.Stream.{documents_from, requests_from}
use Rattle.snap_demo.specs.declared.words.DemoWords.{DemoWords}
use Rattle.snap_print.specs.Lines.{text_of, document_of}
use Rattle.snap_print.specs.Readable.{IsWithin, AreWithin}
use Rattle.snap_run.specs.Demonstrations.{IsDemonstrated}
use Rattle.snap_demo_laws.proofs.Asked.{asked_at, written_at, kept_at, far_at}
use Rattle.snap_demo_laws.proofs.Turns.{AreTurns, after, answers_from, answers_are, requests_are, turns_are, files_are}

-- turns behind a path leave it

stays : (i j x : ℕ) (bs : List Bool) (m : Files) → i + length bs < 2 ^ 32 → j < i → get (after i x bs m) (demo_path j) ≡ get m (demo_path j)
stays i j x [] m small before = refl
stays i j x (b ∷ bs) m small before =
    let hi : i < 2 ^ 64 = omega (arith, small) in
    let hj : j < 2 ^ 64 = omega (arith, small, before) in
    let more : (i + 1) + length bs < 2 ^ 32 = omega (arith, small) in
    stays (i + 1) j (next_of x) bs (step InPlace false (asked_at i x) b m) more (omega (arith, before)) ∙ far_at i j x b m hi hj (λ e. omega (arith, e, before))

absent_stays : (i j x n : ℕ) (b : Bool) (m : Files) → i < j → j + n < 2 ^ 32 → AreAbsent j n m → AreAbsent j n (step InPlace false (asked_at i x) b m)
absent_stays i j x zero b m less small h = tt
absent_stays i j x (suc n) b m less small h =
    let hi : i < 2 ^ 64 = omega (arith, small, less) in
    let hj : j < 2 ^ 64 = omega (arith, small) in
    let more : (j + 1) + n < 2 ^ 32 = omega (arith, small) in
    (far_at i j x b m hi hj (λ e. omega (arith, e, less)) ∙ h.0, absent_stays i (j + 1) x n b m (omega (arith, less)) more h.1)

held_stays : (i j x y n : ℕ) (b : Bool) (m : Files) → i < j → j + n < 2 ^ 32 → AreHeld j y n m → AreHeld j y n (step InPlace false (asked_at i x) b m)
held_stays i j x y zero b m less small h = tt
held_stays i j x y (suc n) b m less small h =
    let hi : i < 2 ^ 64 = omega (arith, small, less) in
    let hj : j < 2 ^ 64 = omega (arith, small) in
    let more : (j + 1) + n < 2 ^ 32 = omega (arith, small) in
    (far_at i j x b m hi hj (λ e. omega (arith, e, less)) ∙ h.0, held_stays i (j + 1) x (next_of y) n b m (omega (arith, less)) more h.1)

-- the first turns write each snapshot

fresh : (i x : ℕ) (bs : List Bool) (m : Files) → i + length bs < 2 ^ 32 → AreTurns i x bs m → AreAbsent i (length bs) m → AreHeld i x (length bs) (after i x bs m)
fresh i x [] m small turns none = tt
fresh i x (b ∷ bs) m small turns none =
    let place : i < 2 ^ 64 = omega (arith, small) in
    let more : (i + 1) + length bs < 2 ^ 32 = omega (arith, small) in
    let failed : b ≡ false = turns.0.absent none.0 in
    let now = step InPlace false (asked_at i x) b m in
    let rest = fresh (i + 1) (next_of x) bs now more turns.1 (absent_stays i (i + 1) x (length bs) b m (omega arith) more none.1) in
    let written : get now (demo_path i) ≡ Some (demo_image i x) = ap (λ c. get (step InPlace false (asked_at i x) c m) (demo_path i)) failed ∙ written_at i x m place in
    (stays (i + 1) i (next_of x) bs now more (omega arith) ∙ written, rest)

-- what they write is the text of a header and a value

file_characters : (i x : ℕ) → HasCharacters (demo_tree i x) → HasCharacters (demo_header i)
file_characters i x h = (refl, (h.1.1.1.0, (refl, (refl, tt))))

value_characters : (i x : ℕ) → HasCharacters (demo_tree i x) → HasCharacters (demo_value i x)
value_characters i x h = h.1.1.1.1.1.1.1.1.1.1.1.0

tags_within : (k n : ℕ) → AreWithin (tags_from k n)
tags_within k zero = tt
tags_within k (suc n) = (tt, tags_within (k + 1) n)

value_within : (i x : ℕ) → i < 2 ^ 64 → x < 2 ^ 64 → IsWithin (demo_value i x)
value_within i x small below =
    let place : i < 2 ^ 128 = omega (arith, small) in
    let number : x < 2 ^ 128 = omega (arith, below) in
    (tt, (place, (tt, (number, (tt, (tags_within 0 (x % 4), (tt, (tt, tt))))))))

saved_at : (i x : ℕ) → i < 2 ^ 32 → x < 2 ^ 64 → IsSavedFor (Some (demo_image i x)) off (demo_value i x)
saved_at i x small below =
    let wide : i < 2 ^ 64 = omega (arith, small) in
    let all = request_characters i x small below in
    let head = document_scalars (demo_header i) (file_characters i x all) in
    let body = text_scalars (demo_value i x) (value_characters i x all) in
    let whole = joined (document_of off (demo_header i)) (codes "---\n" ++ text_of off (demo_value i x)) head (joined (codes "---\n") (text_of off (demo_value i x)) refl body) in
    record {
      entries = entry (text (codes "source")) (text (demo_file i)) (entry (text (codes "expression")) (text (codes "demo")) no_entries);
      header = (tt, (tt, (tt, (tt, tt))));
      not_binary = refl;
      within = value_within i x wide below;
      there = record { bytes = demo_image i x; there = refl; utf8 = (demo_snapshot i x, (whole, refl)); characters = sym (chars-encodes (demo_snapshot i x) whole) };
    }

-- and the second ones pass

one_more : (m n : ℕ) → m ≡ n → 1 + m ≡ suc n
one_more m n e = omega (arith, e)

record PassAgain (i x : ℕ) (bs : List Bool) (files : Files) : Type 0 where
  passed : passed_count (answers_from i x bs) ≡ length bs
  held : AreHeld i x (length bs) files

again : (i x : ℕ) (bs : List Bool) (m : Files) → i + length bs < 2 ^ 32 → x < 2 ^ 64 → AreTurns i x bs m → AreHeld i x (length bs) m → PassAgain i x bs (after i x bs m)
again i x [] m small below turns there = record { passed = refl; held = tt }
again i x (b ∷ bs) m small below turns there =
    let place : i < 2 ^ 64 = omega (arith, small) in
    let early : i < 2 ^ 32 = omega (arith, small) in
    let more : (i + 1) + length bs < 2 ^ 32 = omega (arith, small) in
    let may = subst (λ f. May b f off (demo_value i x)) there.0 turns.0 in
    let saved = saved_at i x early below in
    let passed : b ≡ true = (may.saved (demo_value i x) saved saved.within).1 refl in
    let now = step InPlace false (asked_at i x) b m in
    let rest = again (i + 1) (next_of x) bs now more (next_below x) turns.1 (held_stays i (i + 1) x (next_of x) (length bs) b m (omega arith) more there.1) in
    let kept : get now (demo_path i) ≡ Some (demo_image i x) = ap (λ c. get (step InPlace false (asked_at i x) c m) (demo_path i)) passed ∙ kept_at i x m place ∙ there.0 in
    let later = passed_count (answers_from (i + 1) (next_of x) bs) in
    let counted : passed_count (answers_from i x (b ∷ bs)) ≡ suc (length bs) = ap (λ c. passes (demo_request i x) c + later) passed ∙ one_more later (length bs) rest.passed in
    record { passed = counted; held = (stays (i + 1) i (next_of x) bs now more (omega arith) ∙ kept, rest.held) }

-- so many bytes as is told

bytes_are : (i x n : ℕ) (m : Files) → AreHeld i x n m → bytes_held (paths_from i n) m ≡ bytes_meant i x n
bytes_are i x zero m h = refl
bytes_are i x (suc n) m h =
    ap (λ f. length (unwrap_or f []) + bytes_held (paths_from (i + 1) n) m) h.0 ∙ ap (λ k. length (demo_image i x) + k) (bytes_are (i + 1) (next_of x) n m h.1)

pub passes_all : (words : DemoWords) (lines : List ℕ) (m : Files) (files' : Option Files) → words.seed < 2 ^ 64 → words.count ≤ 10000 → AreAbsent 0 words.count m → IsDemonstrated words lines (Some m) files' → PassesAll words lines files'
passes_all words lines m files' below few absent d =
    let small : 0 + words.count < 2 ^ 32 = omega (arith, few) in
    let docs = documents_from 0 words.seed words.count in
    let rs = requests_from 0 words.seed words.count in
    let spell = all_spell 0 words.seed words.count small below in
    let one = d.twice.first in
    let two = d.twice.second in
    let first = answers_are 0 words.seed words.count one.answers (requests_are docs rs (requests_of one.answers) spell one.ran.reads) in
    let second = answers_are 0 words.seed words.count two.answers (requests_are docs rs (requests_of two.answers) spell two.ran.reads) in
    let small_one : 0 + length first.bools < 2 ^ 32 = omega (arith, few, first.many) in
    let small_two : 0 + length second.bools < 2 ^ 32 = omega (arith, few, second.many) in
    let turns_one = turns_are 0 words.seed first.bools m small_one (subst (λ a. AreAllowed demo_run a empty_session m) first.are (one.ran.allowed m refl)) in
    let middle = after 0 words.seed first.bools m in
    let told_middle : d.twice.between ≡ Some middle = one.ran.stands m refl ∙ ap Some (ap (λ a. files_after demo_run a empty_session m) first.are ∙ files_are 0 words.seed first.bools m) in
    let held_middle = subst (λ n. AreHeld 0 words.seed n middle) first.many (fresh 0 words.seed first.bools m small_one turns_one (subst (λ n. AreAbsent 0 n m) (sym first.many) absent)) in
    let turns_two = turns_are 0 words.seed second.bools middle small_two (subst (λ a. AreAllowed demo_run a empty_session middle) second.are (two.ran.allowed middle told_middle)) in
    let last = after 0 words.seed second.bools middle in
    let told_last : files' ≡ Some last = two.ran.stands middle told_middle ∙ ap Some (ap (λ a. files_after demo_run a empty_session middle) second.are ∙ files_are 0 words.seed second.bools middle) in
    let pass = again 0 words.seed second.bools middle small_two below turns_two (subst (λ n. AreHeld 0 words.seed n middle) (sym second.many) held_middle) in
    let held_last = subst (λ n. AreHeld 0 words.seed n last) second.many pass.held in
    let passed : d.passed ≡ words.count = two.counted ∙ ap passed_count second.are ∙ pass.passed ∙ second.many in
    let total : d.told.total ≡ bytes_meant 0 words.seed words.count = d.told.held last told_last ∙ bytes_are 0 words.seed words.count last held_last in
    record {
      files = last;
      told = told_last;
      held = held_last;
      lines_are = d.told.lines_are ∙ ap (λ p. demo_lines words.count p d.told.total) passed ∙ ap (λ t. demo_lines words.count words.count t) total;
    }

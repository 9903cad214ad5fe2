-- What is said of a page, and what a run over one leaves.
use Rattle.snap_explain.proofs.Prelude.{◌≡◌, false, ℕ, ◌+◌, ◌≤◌, List, [], Option, None, Some, Result, Ok, Err, length, refl, sym, ◌∙◌, arith, append-nil, subst, inl, inr, chars, SayError}
use Rattle.std.specs.Prelude.{IfSome}
use Rattle.snap_io.specs.Causes.{Counted, CountedIf}
use Rattle.snap_io_streams.specs.Streams.{TakesAtMost, input_limit as page_limit}
use Rattle.snap_emit.specs.declared.refusal.Refusal.{Refusal}
use Rattle.snap_front.specs.Program.{IsFailure, asked_of}
use Rattle.snap_front.specs.declared.front_error.FrontError.{FrontError}
use Rattle.snap_front.specs.declared.status.FrontStatus.TheVariants.{Failed}
use Rattle.snap_explain.specs.declared.saying.SayError.TheVariants as say
use Rattle.snap_explain.specs.declared.status.ExplainStatus.{ExplainStatus}
use Rattle.snap_explain.specs.declared.status.ExplainStatus.TheVariants as status
use Rattle.snap_explain.specs.Findings.{is_write_fault, says_read_fault, says_write_fault, says_file_fault}
use Rattle.snap_explain.specs.Streams.{StreamLength}
use Rattle.snap_explain.specs.Pages.{FrontRun, IsOfHeader, IsOfWords, IsSaidOf, IsUnanswered, IsWhy, PageLeaves, said_status}

pub why_of_header : (words : List (List ℕ)) (page text : List ℕ) (why : Option Refusal) → text ≡ chars page → IfSome why (λ w. IsOfHeader text w) → IsWhy words page why
why_of_header words page text None is h = tt
why_of_header words page text (Some w) is h = inl (subst (λ t. IsOfHeader t w) is h)

pub why_of_words : (words : List (List ℕ)) (page : List ℕ) (why : Option Refusal) → IfSome why (λ w. IsOfWords words w) → IsWhy words page why
why_of_words words page None h = tt
why_of_words words page (Some w) h = inr h

pub page_leaves : (words : List (List ℕ)) (page : List ℕ) (error : FrontError) (w : List ℕ) (now : Option (List ℕ)) (result : Result Unit SayError) → IsFailure words page error
    → IsSaidOf words page (Failed error) w now result → PageLeaves words (said_status result) page w now
page_leaves words page error w now (Ok done) refused h = (h.0, record { error = error; refused = refused; tells = h.1 }, h.2)
page_leaves words page error w now (Err say.WriteFault) refused h = (h.0, record { error = error; refused = refused; tells = h.1 }, h.2)
page_leaves words page error w now (Err say.OutOfMemory) refused h = h

pub said_unanswered : (result : Result Unit SayError) → IsUnanswered (said_status result)
said_unanswered (Ok done) = tt
said_unanswered (Err say.WriteFault) = tt
said_unanswered (Err say.OutOfMemory) = tt

pub said_writes : (result : Result Unit SayError) (before now : ℕ) → Counted is_write_fault before now result → CountedIf (says_write_fault (said_status result)) before now
said_writes (Ok done) before now h = h
said_writes (Err say.WriteFault) before now h = h
said_writes (Err say.OutOfMemory) before now h = h

-- a page that was read to its end is none that is too long
read_whole : (xs : List ℕ) (left left' : Option (List ℕ)) → ((input : List ℕ) → left ≡ Some input → xs ≡ input) → ((input : List ℕ) → left ≡ Some input → left' ≡ Some []) → length xs ≤ page_limit
    → TakesAtMost page_limit left left'
read_whole xs left left' all end within = λ input is. record {
  front = xs;
  given = record { rest = []; told = end input is; whole = sym (all input is) ∙ sym (append-nil xs) };
  within = within;
}

read_within : (left left' : Option (List ℕ)) → TakesAtMost page_limit left left' → TakesAtMost (page_limit + 1) left left'
read_within left left' h = λ input is. let k = h input is in record { front = k.front; given = k.given; within = omega (arith, k.within) }

pub page_length : (ended : ExplainStatus) (xs : List ℕ) (left left' : Option (List ℕ)) → ((input : List ℕ) → left ≡ Some input → xs ≡ input)
    → ((input : List ℕ) → left ≡ Some input → left' ≡ Some []) → length xs ≤ page_limit → IsUnanswered ended → StreamLength ended left left'
page_length status.Nothing xs left left' all end within h = read_whole xs left left' all end within
page_length status.Found xs left left' all end within h = read_whole xs left left' all end within
page_length status.BadWords xs left left' all end within h = absurd h
page_length status.FileFault xs left left' all end within h = absurd h
page_length status.ReadFault xs left left' all end within h = absurd h
page_length status.WriteFault xs left left' all end within h = read_whole xs left left' all end within
page_length status.OutOfMemory xs left left' all end within h = read_within left left' (read_whole xs left left' all end within)
page_length status.InputTooLong xs left left' all end within h = absurd h
page_length status.StreamTooLong xs left left' all end within h = absurd h

pub page_reads : (ended : ExplainStatus) (before now : ℕ) → now ≡ before → IsUnanswered ended → CountedIf (says_read_fault ended) before now
page_reads status.Nothing before now same h = same
page_reads status.Found before now same h = same
page_reads status.BadWords before now same h = absurd h
page_reads status.FileFault before now same h = absurd h
page_reads status.ReadFault before now same h = absurd h
page_reads status.WriteFault before now same h = same
page_reads status.OutOfMemory before now same h = same
page_reads status.InputTooLong before now same h = absurd h
page_reads status.StreamTooLong before now same h = absurd h

pub page_files : (ended : ExplainStatus) → IsUnanswered ended → says_file_fault ended ≡ false
page_files status.Nothing h = refl
page_files status.Found h = refl
page_files status.BadWords h = refl
page_files status.FileFault h = absurd h
page_files status.ReadFault h = refl
page_files status.WriteFault h = refl
page_files status.OutOfMemory h = refl
page_files status.InputTooLong h = refl
page_files status.StreamTooLong h = refl

pub never_bad : (ended : ExplainStatus) → IsUnanswered ended → ended ≡ status.BadWords → ⊥
never_bad ended h bad = subst IsUnanswered bad h

nothing_taken : (left : Option (List ℕ)) (most : ℕ) → TakesAtMost most left left
nothing_taken left most = λ xs is. record { front = []; given = record { rest = xs; told = is; whole = refl }; within = omega arith }

-- of words that ask for a text nothing is said
pub run_silent : (words : List (List ℕ)) (text : List ℕ) (left written : Option (List ℕ)) → asked_of words ≡ Some text → FrontRun words status.Nothing left left written written
run_silent words text left written asked = record {
  silent = λ other is. record { ended_is = refl; left_same = refl; written_same = refl };
  leaves = λ none. let clash : Some text ≡ None = sym asked ∙ none in cc;
  taken = nothing_taken left page_limit;
}

pub run_answered : (words : List (List ℕ)) (ended : ExplainStatus) (left left' written written' : Option (List ℕ)) → asked_of words ≡ None
    → ((page w : List ℕ) → left ≡ Some page → written ≡ Some w → PageLeaves words ended page w written') → StreamLength ended left left' → FrontRun words ended left left' written written'
run_answered words ended left left' written written' none leaves taken = record {
  silent = λ text is. let clash : None ≡ Some text = sym none ∙ is in cc;
  leaves = λ _. leaves;
  taken = taken;
}

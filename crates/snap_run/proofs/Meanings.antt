-- What words ask for, by their parts, and what that says of the status.
use Rattle.snap_run.proofs.Prelude.{◌≡◌, ℕ, Bool, true, false, List, [], Option, None, Some, refl, sym, ap, ◌∙◌, subst, ◌⊎◌, inl, inr, Outside, RunWords, RunsFrom, RunsTo, CountedIf, says_read_fault, says_write_fault, IsRunOf, meaning, meaning_by, a_text, a_run, a_demonstration, nothing, WordsCause, Status, AllPassed, SomeFailed, BadWords, BadRequest, Refused, ReadFault, OutOfMemory, InputTooLong}
use Rattle.snap_run.specs.Answers.{text_asked, words_mean}
use Rattle.snap_demo.specs.Words.{demo_mean}
use Rattle.snap_demo.specs.declared.words.DemoWords.{DemoWords}
use Rattle.snap_run.specs.Demonstrations.{Demonstrates}
use Rattle.snap_run.specs.Status.{IsTold}
use Rattle.snap_run.specs.declared.status.Status.TheVariants.{FileIo, WriteFault}

pub is_text : (ws : List (List ℕ)) (text : List ℕ) → text_asked ws ≡ Some text → meaning ws ≡ a_text text
is_text ws text e = ap (λ o. meaning_by o (words_mean ws) (demo_mean ws)) e

pub is_run : (ws : List (List ℕ)) (said : RunWords) → text_asked ws ≡ None → words_mean ws ≡ Some said → meaning ws ≡ a_run said
is_run ws said e f = ap (λ o. meaning_by o (words_mean ws) (demo_mean ws)) e ∙ ap (λ o. meaning_by None o (demo_mean ws)) f

pub is_demo : (ws : List (List ℕ)) (said : DemoWords) → text_asked ws ≡ None → words_mean ws ≡ None → demo_mean ws ≡ Some said → meaning ws ≡ a_demonstration said
is_demo ws said e f g = ap (λ o. meaning_by o (words_mean ws) (demo_mean ws)) e ∙ ap (λ o. meaning_by None o (demo_mean ws)) f ∙ ap (meaning_by None None) g

pub is_nothing : (ws : List (List ℕ)) → text_asked ws ≡ None → words_mean ws ≡ None → demo_mean ws ≡ None → meaning ws ≡ nothing
is_nothing ws e f g = ap (λ o. meaning_by o (words_mean ws) (demo_mean ws)) e ∙ ap (λ o. meaning_by None o (demo_mean ws)) f ∙ ap (meaning_by None None) g

pub one_run : (ws : List (List ℕ)) (a b : RunWords) → meaning ws ≡ a_run a → meaning ws ≡ a_run b → a ≡ b
one_run ws a b e f = cc

pub one_demo : (ws : List (List ℕ)) (a b : DemoWords) → meaning ws ≡ a_demonstration a → meaning ws ≡ a_demonstration b → a ≡ b
one_demo ws a b e f = cc

pub one_text : (ws : List (List ℕ)) (a b : List ℕ) → meaning ws ≡ a_text a → meaning ws ≡ a_text b → a ≡ b
one_text ws a b e f = cc

-- a status that is not that of wrong words, for words that ask for something
pub words_cause : (ws : List (List ℕ)) (status : Status) → (status ≡ BadWords → ⊥) → (meaning ws ≡ nothing → ⊥) → WordsCause ws status
words_cause ws BadWords wrong other = absurd (wrong refl)
words_cause ws status wrong other = other

pub told_is_right : (text : List ℕ) (status : Status) (w v : Option (List ℕ)) → IsTold text status w v → status ≡ BadWords → ⊥
told_is_right text status w v h e = subst (λ s. IsTold text s w v) e h

pub run_is_right : (status : Status) (said : RunWords) (left : Option (List ℕ)) (a b : Outside) → RunsFrom status said left a b → status ≡ BadWords → ⊥
run_is_right status said left a b h e = (subst (λ s. RunsFrom s said left a b) e h).runs

pub demo_is_right : (status : Status) (said : DemoWords) (a b : Outside) → Demonstrates status said a b → status ≡ BadWords → ⊥
demo_is_right status said a b h e = (subst (λ s. Demonstrates s said a b) e h).1

-- a demonstration and a text read nothing
pub demo_reads_nothing : (status : Status) (said : DemoWords) (a b : Outside) (n : ℕ) → Demonstrates status said a b → CountedIf (says_read_fault status) n n
demo_reads_nothing ReadFault said a b n h = absurd h.1
demo_reads_nothing status said a b n h = refl

-- arguments that are no texts are wrong words
pub no_texts : (left : Option (List ℕ)) (o : Outside) → IsRunOf [] BadWords left o o
no_texts left o = record {
  words_cause = refl;
  told = λ text asked. absurd (cc asked);
  runs = λ said asked. absurd (cc asked);
  demonstrated = λ said asked. absurd (cc asked);
  unchanged = λ none. (refl, refl);
}

-- what a run did, by what its words mean
pub runs_said : (ws : List (List ℕ)) (a said : RunWords) (status : Status) (left : Option (List ℕ)) (x y : Outside) → text_asked ws ≡ None → words_mean ws ≡ Some a → meaning ws ≡ a_run said
    → RunsFrom status a left x y → RunsFrom status said left x y
runs_said ws a said status left x y untold mean is run = subst (λ w. RunsFrom status w left x y) (one_run ws a said (is_run ws a untold mean) is) run

-- What words ask for.
use Rattle.snap_explain.proofs.Prelude.{◌≡◌, ℕ, List, [], ◌∷◌, Bool, true, false, Option, None, Some, cond, refl, sym, ap, ◌∙◌, subst, bytes_eq, ReplacementView, rules_in}
use Rattle.std.specs.Prelude.{codes, option_and_then}
use Rattle.snap_print.proofs.Words.{same_word}
use Rattle.snap_explain.specs.Program.{AreWords, RulesCause, WordsCause, IsTold, asked_of, front_words, mask_rules, stream_in, stream_of, words_after}
use Rattle.snap_explain.specs.Streams.{StreamWords}
use Rattle.snap_explain.specs.declared.usage.TheConstants.{USAGE, VERSION}
use Rattle.snap_explain.specs.Program.AreWords.{of_rules, of_stream, of_front, of_text}
use Rattle.snap_explain.specs.declared.status.ExplainStatus.{ExplainStatus}
use Rattle.snap_explain.specs.declared.status.ExplainStatus.TheVariants as status

-- what is there only where a test holds
if_there : {A : Type 0} (b : Bool) (x y : A) → cond b (Some x) None ≡ Some y → b ≡ true
if_there true x y there = refl
if_there false x y there = cc

-- words that begin with a word begin with no other
tool_is : (name tool : List ℕ) (words rest : List (List ℕ)) → words_after name (tool ∷ words) ≡ Some rest → tool ≡ name
tool_is name tool words rest after = same_word tool name (if_there (bytes_eq tool name) words rest after)

no_rules_after : (name : List ℕ) → bytes_eq name (codes "mask") ≡ false → (words rest : List (List ℕ)) (rules : List ReplacementView) → words_after name words ≡ Some rest → mask_rules words ≡ Some rules → ⊥
no_rules_after name other [] rest rules after spelled = cc
no_rules_after name other (tool ∷ words) rest rules after spelled =
    let found : cond (bytes_eq tool (codes "mask")) (rules_in words) None ≡ Some rules = spelled in
    let none : None ≡ Some rules = sym (ap (λ b. cond b (rules_in words) None) (ap (λ t. bytes_eq t (codes "mask")) (tool_is name tool words rest after) ∙ other)) ∙ found in
    cc

no_stream_after : (name : List ℕ) → bytes_eq name (codes "stream") ≡ false → (words rest : List (List ℕ)) → words_after name words ≡ Some rest → stream_of words ≡ None
no_stream_after name other [] rest after = refl
no_stream_after name other (tool ∷ words) rest after =
    ap (λ b. option_and_then stream_in (cond b (Some words) None)) (ap (λ t. bytes_eq t (codes "stream")) (tool_is name tool words rest after) ∙ other)

no_text_after : (name : List ℕ) → bytes_eq name (codes "--help") ≡ false → bytes_eq name (codes "--version") ≡ false → (words rest : List (List ℕ)) (text : List ℕ) → words_after name words ≡ Some rest → asked_of words ≡ Some text → ⊥
no_text_after name no_help no_version [] rest text after told = cc
no_text_after name no_help no_version (tool ∷ []) rest text after told =
    let is : tool ≡ name = tool_is name tool [] rest after in
    let at : asked_of (name ∷ []) ≡ Some text = subst (λ t. asked_of (t ∷ []) ≡ Some text) is told in
    by _ _ no_help no_version at
  where
    by : (b b' : Bool) → b ≡ false → b' ≡ false → cond b (Some USAGE.now) (cond b' (Some VERSION.now) None) ≡ Some text → ⊥
    by b b' e e' at = let none : None ≡ Some text = sym (ap (λ x. cond x (Some USAGE.now) (cond b' (Some VERSION.now) None)) e ∙ ap (λ x. cond x (Some VERSION.now) None) e') ∙ at in cc
no_text_after name no_help no_version (tool ∷ more ∷ others) rest text after told = cc

-- what a stream is asked by stands behind its word
stream_words : (words : List (List ℕ)) (said : StreamWords) → stream_of words ≡ Some said → (rest : List (List ℕ)) × (words_after (codes "stream") words ≡ Some rest)
stream_words words said asks = by (words_after (codes "stream") words) refl asks
  where
    by : (found : Option (List (List ℕ))) → words_after (codes "stream") words ≡ found → option_and_then stream_in found ≡ Some said → (rest : List (List ℕ)) × (words_after (codes "stream") words ≡ Some rest)
    by None is told = cc
    by (Some rest) is told = (rest, is)

-- words for a stream spell no rules, and ask for no text
pub no_rules : (words : List (List ℕ)) (said : StreamWords) (rules : List ReplacementView) → stream_of words ≡ Some said → mask_rules words ≡ Some rules → ⊥
no_rules words said rules asks spelled = let k = stream_words words said asks in no_rules_after (codes "stream") refl words k.0 rules k.1 spelled

pub no_text : (words : List (List ℕ)) (said : StreamWords) (text : List ℕ) → stream_of words ≡ Some said → asked_of words ≡ Some text → ⊥
no_text words said text asks told = let k = stream_words words said asks in no_text_after (codes "stream") refl refl words k.0 text k.1 told

-- words after `front` ask for no stream, spell no rules, and ask for no text
pub front_no_stream : (words rest : List (List ℕ)) → front_words words ≡ Some rest → stream_of words ≡ None
front_no_stream words rest front = no_stream_after (codes "front") refl words rest front

pub front_no_rules : (words rest : List (List ℕ)) (rules : List ReplacementView) → front_words words ≡ Some rest → mask_rules words ≡ Some rules → ⊥
front_no_rules words rest rules front spelled = no_rules_after (codes "front") refl words rest rules front spelled

pub front_no_text : (words rest : List (List ℕ)) (text : List ℕ) → front_words words ≡ Some rest → asked_of words ≡ Some text → ⊥
front_no_text words rest text front told = no_text_after (codes "front") refl refl words rest text front told

pub cause_front : (words rest : List (List ℕ)) (ended : ExplainStatus) → front_words words ≡ Some rest → (ended ≡ status.BadWords → ⊥) → WordsCause words ended
cause_front words rest status.Nothing front other = of_front rest front
cause_front words rest status.Found front other = of_front rest front
cause_front words rest status.BadWords front other = absurd (other refl)
cause_front words rest status.FileFault front other = of_front rest front
cause_front words rest status.ReadFault front other = of_front rest front
cause_front words rest status.WriteFault front other = of_front rest front
cause_front words rest status.OutOfMemory front other = tt
cause_front words rest status.InputTooLong front other = of_front rest front
cause_front words rest status.StreamTooLong front other = of_front rest front

pub cause_stream : (words : List (List ℕ)) (said : StreamWords) (ended : ExplainStatus) → stream_of words ≡ Some said → (ended ≡ status.BadWords → ⊥) → WordsCause words ended
cause_stream words said status.Nothing asks other = of_stream said asks
cause_stream words said status.Found asks other = of_stream said asks
cause_stream words said status.BadWords asks other = absurd (other refl)
cause_stream words said status.FileFault asks other = of_stream said asks
cause_stream words said status.ReadFault asks other = of_stream said asks
cause_stream words said status.WriteFault asks other = of_stream said asks
cause_stream words said status.OutOfMemory asks other = tt
cause_stream words said status.InputTooLong asks other = of_stream said asks
cause_stream words said status.StreamTooLong asks other = of_stream said asks

pub cause_text : (words : List (List ℕ)) (text : List ℕ) (ended : ExplainStatus) (written written' : Option (List ℕ)) → asked_of words ≡ Some text → IsTold text ended written written' → WordsCause words ended
cause_text words text status.Nothing written written' asks told = of_text text asks
cause_text words text status.Found written written' asks told = absurd told
cause_text words text status.BadWords written written' asks told = absurd told
cause_text words text status.FileFault written written' asks told = absurd told
cause_text words text status.ReadFault written written' asks told = absurd told
cause_text words text status.WriteFault written written' asks told = of_text text asks
cause_text words text status.OutOfMemory written written' asks told = absurd told
cause_text words text status.InputTooLong written written' asks told = absurd told
cause_text words text status.StreamTooLong written written' asks told = absurd told

asks_nothing : (words : List (List ℕ)) → stream_of words ≡ None → front_words words ≡ None → asked_of words ≡ None → mask_rules words ≡ None → AreWords words → ⊥
asks_nothing words no_stream no_front no_texts none (of_rules rules is) = let clash : None ≡ Some rules = sym none ∙ is in cc
asks_nothing words no_stream no_front no_texts none (of_stream said is) = let clash : None ≡ Some said = sym no_stream ∙ is in cc
asks_nothing words no_stream no_front no_texts none (of_front rest is) = let clash : None ≡ Some rest = sym no_front ∙ is in cc
asks_nothing words no_stream no_front no_texts none (of_text text is) = let clash : None ≡ Some text = sym no_texts ∙ is in cc

pub cause_rules : (words : List (List ℕ)) (ended : ExplainStatus) → stream_of words ≡ None → front_words words ≡ None → asked_of words ≡ None → RulesCause words ended → WordsCause words ended
cause_rules words status.Nothing no_stream no_front no_texts h = of_rules h.0 h.1
cause_rules words status.Found no_stream no_front no_texts h = of_rules h.0 h.1
cause_rules words status.BadWords no_stream no_front no_texts h = asks_nothing words no_stream no_front no_texts h
cause_rules words status.FileFault no_stream no_front no_texts h = of_rules h.0 h.1
cause_rules words status.ReadFault no_stream no_front no_texts h = of_rules h.0 h.1
cause_rules words status.WriteFault no_stream no_front no_texts h = of_rules h.0 h.1
cause_rules words status.OutOfMemory no_stream no_front no_texts h = tt
cause_rules words status.InputTooLong no_stream no_front no_texts h = of_rules h.0 h.1
cause_rules words status.StreamTooLong no_stream no_front no_texts h = of_rules h.0 h.1

-- words ask for a stream or not
pub one_asked : (words : List (List ℕ)) (said : StreamWords) → stream_of words ≡ Some said → stream_of words ≡ None → ⊥
one_asked words said asks none = let clash : None ≡ Some said = sym none ∙ asks in cc

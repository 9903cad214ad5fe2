-- The rules that words spell, read one by one.
use Rattle.snap_mask.proofs.Prelude.{◌≡◌, ℕ, List, [], ◌∷◌, ◌++◌, Option, None, Some, refl, sym, ap, ◌∙◌, append_assoc, append-nil, option_map, Parts, Selector, Replacement, ReplacementView, replacement_of, replacements_of, redacted_by, RedactedBy, redactions_of, Objects, Tree, tree, Redactions, rules_in, puts_in, rule_then, put_rule, IsFirst, AreRules, selected}
use Rattle.snap_content.specs.Tree.{string}
use Rattle.snap_select.specs.Grammar.{IsSelector}
use Rattle.snap_select.specs.Replacements.{put_of}
use Rattle.snap_select.specs.declared.replacement.Replacement.TheVariants.{Static}
use Rattle.snap_select.specs.Selectors.{parts_of}
use Rattle.snap_select.specs.Reading.{Outcome, selects, refuses, outcome, before_part}
use Rattle.snap_select.specs.Selected.{parts_in}
use Rattle.snap_select.proofs.Outcomes.{selects_selector}
use Rattle.std.proofs.Common.{rules, suc, ◌-◌, ◌≤◌, length, take, drop, get_or, arith}
use Rattle.std.proofs.lemmas.List.{take_all}
use Rattle.snap_content.specs.declared.content.Content.{String, the_lemmas}
use Rattle.snap_assert_settings.proofs.PlainRedactions.{plain_redacted}

pub selected-none : (text : List ℕ) → ((parts : Parts) → IsSelector text parts → ⊥) → selected text ≡ None
selected-none text refused = by (outcome (before_part []) text) refl
  where
    by : (o : Outcome) → outcome (before_part []) text ≡ o → parts_in (outcome (before_part []) text) ≡ None
    by (selects parts) is = absurd (refused parts (selects_selector text parts is))
    by (refuses fault left) is = ap parts_in is

-- the tree of a text
tree-String : (s : List ℕ) → tree (String s) ≡ string s
tree-String s = search (rules, the_lemmas)

-- a text that is put in place of whatever stands there
pub puts_of : (put : Replacement) (held text : List ℕ) → put ≡ Static (String held) → held ≡ text → put_of put ≡ (λ _. string text)
puts_of put held text is same =
    let always : Tree → Tree → Tree = λ t _. t in
    ap put_of is ∙ ap always (tree-String held) ∙ ap (λ s. always (string s)) same

-- a first word, and those after it
pub first_word : (words : List (List ℕ)) (word : List ℕ) → 1 ≤ length words → word ≡ get_or words 0 word → words ≡ word ∷ take (length words - 1) (drop 1 words)
first_word [] word some is = absurd (omega (arith, some))
first_word (w ∷ ws) word some is =
    let fewer : suc (length ws) - 1 ≡ length ws = omega arith in
    ap (λ y. y ∷ ws) (sym is) ∙ ap (λ t. word ∷ t) (sym (ap (λ n. take n ws) fewer ∙ take_all (length ws) ws (omega arith)))

-- a rule that puts a text, and the words after it
pub first_put : (words : List (List ℕ)) (selector text : List ℕ) (rest : List (List ℕ)) (made : Selector) (put : Replacement) → words ≡ text ∷ rest
    → Some (parts_of made) ≡ selected selector → put_of put ≡ (λ _. string text) → IsFirst (puts_in (selector ∷ words)) (made, put) rest
first_put words selector text rest made put is parts puts =
    ap (λ ws. puts_in (selector ∷ ws)) is
    ∙ ap (λ ps. rule_then ps (put_rule text) (rules_in rest)) (sym parts)
    ∙ ap (λ f. option_map (λ rules. (record { parts = parts_of made; put = f }) ∷ rules) (rules_in rest)) (sym puts)

-- the rules so far, and those that the words left spell, are all
abbrev pub ReadsOn : Option (List ReplacementView) → List ReplacementView → List (List ℕ) → Type 0
ReadsOn all rules rest = option_map (λ rs. rules ++ rs) (rules_in rest) ≡ all

pub reads_from_start : (words : List (List ℕ)) → ReadsOn (rules_in words) [] words
reads_from_start words = by (rules_in words)
  where
    by : (found : Option (List ReplacementView)) → option_map (λ rs. [] ++ rs) found ≡ found
    by None = refl
    by (Some rs) = refl

more_held : (ps : List (Selector × Replacement)) (p : Selector × Replacement) → replacements_of (ps ++ p ∷ []) ≡ replacements_of ps ++ replacement_of p ∷ []
more_held [] p = refl
more_held (q ∷ qs) p = ap (λ rs. replacement_of q ∷ rs) (more_held qs p)

pub reads_on : (all : Option (List ReplacementView)) (ps qs : List (Selector × Replacement)) (p : Selector × Replacement) (rest more : List (List ℕ))
    → ReadsOn all (replacements_of ps) rest → IsFirst (rules_in rest) p more → qs ≡ ps ++ p ∷ [] → ReadsOn all (replacements_of qs) more
reads_on all ps qs p rest more reads first is =
    ap (λ rules. option_map (λ rs. rules ++ rs) (rules_in more)) (ap replacements_of is ∙ more_held ps p) ∙ by (replacements_of ps) (rules_in more)
    ∙ ap (option_map (λ rs. replacements_of ps ++ rs)) (sym first) ∙ reads
  where
    by : (rules : List ReplacementView) (found : Option (List ReplacementView))
        → option_map (λ rs. (rules ++ replacement_of p ∷ []) ++ rs) found ≡ option_map (λ rs. rules ++ rs) (option_map (λ rs. replacement_of p ∷ rs) found)
    by rules None = refl
    by rules (Some rs) = ap Some (append_assoc rules (replacement_of p ∷ []) rs)

pub reads_none : (all : Option (List ReplacementView)) (rules : List ReplacementView) (rest : List (List ℕ)) → ReadsOn all rules rest → rules_in rest ≡ None → None ≡ all
reads_none all rules rest reads none = sym (ap (option_map (λ rs. rules ++ rs)) none) ∙ reads

pub reads_all : (all : Option (List ReplacementView)) (rules : List ReplacementView) (rest : List (List ℕ)) → ReadsOn all rules rest → rest ≡ [] → Some rules ≡ all
reads_all all rules rest reads none =
    ap Some (sym (append-nil rules)) ∙ sym (ap (λ words. option_map (λ rs. rules ++ rs) (rules_in words)) none) ∙ reads

-- what the rules make of a tree is one tree
pub masked_is : {X : Type 0} {P : X → Type 0} {Y : Type 0} {Q : Y → Type 0} {g : _} (objects : Objects X P) (redactions : Redactions X Y P Q g)
    (rules : List ReplacementView) (c out : Tree) → AreRules redactions rules → RedactedBy objects (redactions_of redactions) c out → out ≡ redacted_by rules c
masked_is objects redactions rules c out are made =
    plain_redacted objects (redactions_of redactions) are.pairs c out are.held made ∙ ap (λ rs. redacted_by rs c) are.are

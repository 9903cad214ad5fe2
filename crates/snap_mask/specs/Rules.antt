-- The rules that the words of a command line spell.
use Rattle.std.specs.Prelude.{◌≡◌, ℕ, List, [], ◌∷◌, Option, None, Some, map, codes, option_map, option_and_then, if◌then◌else◌}
use Rattle.std.specs.Str.{bytes_eq}
use Rattle.snap_content.specs.Tree.{string}
use Rattle.snap_select.specs.InOrder.{in_order}
use Rattle.snap_select.specs.Parts.{Parts}
use Rattle.snap_select.specs.Selected.{selected}
use Rattle.snap_select.specs.declared.replacement.Replacement.{Replacement}
use Rattle.snap_select.specs.declared.selector.Selector.{Selector}
use Rattle.snap_assert_settings.specs.Redactions.{redactions_of}
use Rattle.snap_assert_settings.specs.Replaced.{ReplacementView, replacement_of, replacements_of, redaction_for}
use Rattle.snap_assert_settings.specs.declared.redactions.Redactions.{Redactions}

-- puts a text in place of what is reached
abbrev pub put_rule : List ℕ → Parts → ReplacementView
put_rule text parts = record { parts = parts; put = λ _. string text }

-- puts the list that is reached in order
abbrev pub sort_rule : Parts → ReplacementView
sort_rule parts = record { parts = parts; put = in_order }

-- a rule in front of others, where its selector is one and the others are rules
abbrev pub rule_then : Option Parts → (Parts → ReplacementView) → Option (List ReplacementView) → Option (List ReplacementView)
rule_then parts rule others = option_and_then (λ ps. option_map (λ rules. rule ps ∷ rules) others) parts

-- the words are any number of `--put SELECTOR TEXT` and `--sort SELECTOR`
abbrev mutual
  pub rules_in : List (List ℕ) → Option (List ReplacementView)
  rules_in [] = Some []
  rules_in (word ∷ words) = if bytes_eq word (codes "--put") then puts_in words else if bytes_eq word (codes "--sort") then sorts_in words else None

  -- after `--put`
  pub puts_in : List (List ℕ) → Option (List ReplacementView)
  puts_in [] = None
  puts_in (selector ∷ []) = None
  puts_in (selector ∷ text ∷ words) = rule_then (selected selector) (put_rule text) (rules_in words)

  -- after `--sort`
  pub sorts_in : List (List ℕ) → Option (List ReplacementView)
  sorts_in [] = None
  sorts_in (selector ∷ words) = rule_then (selected selector) sort_rule (rules_in words)

-- the first of all rules is this one, and the words after it spell the others
abbrev pub IsFirst : Option (List ReplacementView) → Selector × Replacement → List (List ℕ) → Type 0
IsFirst all rule rest = all ≡ option_map (λ rules. replacement_of rule ∷ rules) (rules_in rest)

-- a rule such as words spell: it puts a text in place of what it reaches, or puts that in order
pub data IsMasking (rule : ReplacementView) : Type 0 where
  puts_text : (text : List ℕ) → rule.put ≡ (λ _. string text) → IsMasking rule
  sorts : rule.put ≡ in_order → IsMasking rule

abbrev pub AreMasking : List ReplacementView → Type 0
AreMasking [] = Unit {0}
AreMasking (rule ∷ rules) = IsMasking rule × AreMasking rules

-- what is applied in turn is these rules, which are such as words spell
pub record AreRules {X : Type 0} {P : X → Type 0} {Y : Type 0} {Q : Y → Type 0} {g : _} (redactions : Redactions X Y P Q g) (rules : List ReplacementView) : Type 0 where
  pub pairs : List (Selector × Replacement)
  pub held : redactions_of redactions ≡ map redaction_for pairs
  pub are : replacements_of pairs ≡ rules
  pub masking : AreMasking rules

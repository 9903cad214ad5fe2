-- Texts that were worked out by hand.
use Rattle.std.specs.Prelude.{[], ◌∷◌, codes, Some, None, pos, negsuc}
use Rattle.snap_select.specs.Faults.{IsFault}
use Rattle.snap_select.specs.Grammar.{IsSelector}
use Rattle.snap_select.specs.declared.fault.SelectFault.TheVariants.{BadToken, DeepTwice, TooLarge}
use Rattle.snap_select.specs.declared.segment.Segment.TheVariants.{DeepWildcard, Wildcard, Key, Index, Range}

-- texts that are selectors, and their parts
pub record AreSelected : Type 0 where
  pub root : IsSelector (codes ".") ([] ∷ [])
  pub dot_before_bracket : IsSelector (codes ".[0]") ((Index 0 ∷ []) ∷ [])
  pub escaped_quote : IsSelector (codes ".a[\"b\\\"c\"][3]") ((Key (codes "a") ∷ Key (codes "b\"c") ∷ Index 3 ∷ []) ∷ [])
  pub largest : IsSelector (codes "[18446744073709551615]") ((Index 18446744073709551615 ∷ []) ∷ [])
  pub dollar : IsSelector (codes ".$key") ((Key (codes "$key") ∷ []) ∷ [])
  pub accent : IsSelector (46 ∷ 233 ∷ []) ((Key (233 ∷ []) ∷ []) ∷ [])
  pub blanks : IsSelector (codes " .a , [ 1 ] ") ((Key (codes "a") ∷ []) ∷ (Index 1 ∷ []) ∷ [])
  pub parts : IsSelector (codes ".a, .[0]") ((Key (codes "a") ∷ []) ∷ (Index 0 ∷ []) ∷ [])
  pub wildcards : IsSelector (codes ".*.**") ((Wildcard ∷ DeepWildcard ∷ []) ∷ [])
  pub deep_in_each : IsSelector (codes ".**,.**") ((DeepWildcard ∷ []) ∷ (DeepWildcard ∷ []) ∷ [])
  pub all_items : IsSelector (codes "[][:]") ((Range None None ∷ Range None None ∷ []) ∷ [])
  pub bounds : IsSelector (codes "[1 : 2][-1:][:-0]") ((Range (Some (pos 1)) (Some (pos 2)) ∷ Range (Some (negsuc 0)) None ∷ Range None (Some (pos 0)) ∷ []) ∷ [])
  pub large_index : IsSelector (codes "[9223372036854775808]") ((Index 9223372036854775808 ∷ []) ∷ [])
  pub least_bound : IsSelector (codes "[-9223372036854775808:]") ((Range (Some (negsuc 9223372036854775807)) None ∷ []) ∷ [])

-- texts that are no selectors, and their faults
pub record AreRefused : Type 0 where
  pub open_bracket : IsFault (codes ".a[") BadToken 4
  pub last_dot : IsFault (codes ".a.") BadToken 4
  pub nothing : IsFault [] BadToken 1
  pub comma : IsFault (codes ",") BadToken 1
  pub last_comma : IsFault (codes ".a,") BadToken 4
  pub text_behind_blank : IsFault (codes ".a b") BadToken 4
  pub name_behind_blank : IsFault (codes ". a") BadToken 3
  pub third_star : IsFault (codes ".***") BadToken 4
  pub index_below_zero : IsFault (codes "[-1]") BadToken 4
  pub blank_behind_minus : IsFault (codes "[- 1:]") BadToken 3
  pub dot_before_later_bracket : IsFault (codes ".a.[0]") BadToken 4
  pub large_index_unclosed : IsFault (codes "[9223372036854775808") BadToken 21
  pub too_large : IsFault (codes "[18446744073709551616]") TooLarge 2
  pub too_large_unclosed : IsFault (codes "[18446744073709551616") TooLarge 2
  pub too_large_bound : IsFault (codes "[9223372036854775808:]") TooLarge 2
  pub too_small_bound : IsFault (codes "[-9223372036854775809:]") TooLarge 2
  pub deep_twice : IsFault (codes ".**.**.**") DeepTwice 4

-- Each worked text, read character by character.
use Rattle.snap_select.proofs.Prelude.{[], ◌∷◌, refl, codes, Some, None, pos, negsuc, is_xid_start, is_xid_continue, unicode_ident, BadToken, DeepTwice, TooLarge, DeepWildcard, Wildcard, Key, Index, Range}
use Rattle.snap_select.specs.Examples.{AreSelected, AreRefused}
use Rattle.snap_select.proofs.LeastFaults.{fault_of}
use Rattle.snap_select.proofs.Outcomes.{selects_selector}

pub selected : AreSelected
unfolding unicode_ident is_xid_start is_xid_continue
selected = record {
  root = selects_selector (codes ".") ([] ∷ []) refl;
  dot_before_bracket = selects_selector (codes ".[0]") ((Index 0 ∷ []) ∷ []) refl;
  escaped_quote = selects_selector (codes ".a[\"b\\\"c\"][3]") ((Key (codes "a") ∷ Key (codes "b\"c") ∷ Index 3 ∷ []) ∷ []) refl;
  largest = selects_selector (codes "[18446744073709551615]") ((Index 18446744073709551615 ∷ []) ∷ []) refl;
  dollar = selects_selector (codes ".$key") ((Key (codes "$key") ∷ []) ∷ []) refl;
  accent = selects_selector (46 ∷ 233 ∷ []) ((Key (233 ∷ []) ∷ []) ∷ []) refl;
  blanks = selects_selector (codes " .a , [ 1 ] ") ((Key (codes "a") ∷ []) ∷ (Index 1 ∷ []) ∷ []) refl;
  parts = selects_selector (codes ".a, .[0]") ((Key (codes "a") ∷ []) ∷ (Index 0 ∷ []) ∷ []) refl;
  wildcards = selects_selector (codes ".*.**") ((Wildcard ∷ DeepWildcard ∷ []) ∷ []) refl;
  deep_in_each = selects_selector (codes ".**,.**") ((DeepWildcard ∷ []) ∷ (DeepWildcard ∷ []) ∷ []) refl;
  all_items = selects_selector (codes "[][:]") ((Range None None ∷ Range None None ∷ []) ∷ []) refl;
  bounds = selects_selector (codes "[1 : 2][-1:][:-0]") ((Range (Some (pos 1)) (Some (pos 2)) ∷ Range (Some (negsuc 0)) None ∷ Range None (Some (pos 0)) ∷ []) ∷ []) refl;
  large_index = selects_selector (codes "[9223372036854775808]") ((Index 9223372036854775808 ∷ []) ∷ []) refl;
  least_bound = selects_selector (codes "[-9223372036854775808:]") ((Range (Some (negsuc 9223372036854775807)) None ∷ []) ∷ []) refl;
}

pub refused : AreRefused
unfolding unicode_ident is_xid_start is_xid_continue
refused = record {
  open_bracket = fault_of (codes ".a[") BadToken 0 4 refl refl;
  last_dot = fault_of (codes ".a.") BadToken 0 4 refl refl;
  nothing = fault_of [] BadToken 0 1 refl refl;
  comma = fault_of (codes ",") BadToken 1 1 refl refl;
  last_comma = fault_of (codes ".a,") BadToken 0 4 refl refl;
  text_behind_blank = fault_of (codes ".a b") BadToken 1 4 refl refl;
  name_behind_blank = fault_of (codes ". a") BadToken 1 3 refl refl;
  third_star = fault_of (codes ".***") BadToken 1 4 refl refl;
  index_below_zero = fault_of (codes "[-1]") BadToken 1 4 refl refl;
  blank_behind_minus = fault_of (codes "[- 1:]") BadToken 4 3 refl refl;
  dot_before_later_bracket = fault_of (codes ".a.[0]") BadToken 3 4 refl refl;
  large_index_unclosed = fault_of (codes "[9223372036854775808") BadToken 0 21 refl refl;
  too_large = fault_of (codes "[18446744073709551616]") TooLarge 21 2 refl refl;
  too_large_unclosed = fault_of (codes "[18446744073709551616") TooLarge 20 2 refl refl;
  too_large_bound = fault_of (codes "[9223372036854775808:]") TooLarge 21 2 refl refl;
  too_small_bound = fault_of (codes "[-9223372036854775809:]") TooLarge 22 2 refl refl;
  deep_twice = fault_of (codes ".**.**.**") DeepTwice 6 4 refl refl;
}

-- Bare words whose meaning was worked out by hand. `negsuc n` is the number -(n + 1).
use Rattle.std.specs.Prelude.{◌≡◌, pos, negsuc, [], ◌∷◌, true, false, codes}
use Rattle.snap_content.specs.Plain.{null, bool, int, text, list, dict, item, no_items, entry, no_entries}
use Rattle.snap_print.specs.Typed.{typed, value, real}
use Rattle.snap_parse_laws.specs.LayoutExamples.{hand_header, hand_request, hand_list}
use Rattle.snap_emit.specs.LayoutTrees.{layout_plain, layout_keeps}

-- a number in base 16 or 8, or after a plus: its digits may have a sign of their own, and it has 64 bits
pub record AreMarkedNumbers : Type 0 where
  pub hexadecimal : typed (codes "0xFF") ≡ value (int (pos 255))
  pub small_letters : typed (codes "0xff") ≡ value (int (pos 255))
  pub below_zero : typed (codes "0x-10") ≡ value (int (negsuc 15))
  pub largest : typed (codes "0x7FFFFFFFFFFFFFFF") ≡ value (int (pos 9223372036854775807))
  pub smallest : typed (codes "0x-8000000000000000") ≡ value (int (negsuc 9223372036854775807))
  pub octal : typed (codes "0o77") ≡ value (int (pos 63))
  pub octal_behind_a_plus : typed (codes "0o+7") ≡ value (int (pos 7))
  pub plus : typed (codes "+5") ≡ value (int (pos 5))
  pub plus_and_minus : typed (codes "+-5") ≡ value (int (negsuc 4))
  pub two_pluses : typed (codes "++5") ≡ value (int (pos 5))

-- bare words, and what each is taken for
pub record AreWords : Type 0 where
  pub tilde : typed (codes "~") ≡ value null
  pub nothing : typed (codes "null") ≡ value null
  pub truth : typed (codes "true") ≡ value (bool true)
  pub falsehood : typed (codes "false") ≡ value (bool false)

-- a sign or none, and digits: a number of at most 128 bits
pub record AreWholeNumbers : Type 0 where
  pub zero : typed (codes "0") ≡ value (int (pos 0))
  pub minus_zero : typed (codes "-0") ≡ value (int (pos 0))
  pub zero_ahead : typed (codes "007") ≡ value (int (pos 7))
  pub minus : typed (codes "-7") ≡ value (int (negsuc 6))
  pub largest_short : typed (codes "9223372036854775807") ≡ value (int (pos 9223372036854775807))
  pub smallest_short : typed (codes "-9223372036854775808") ≡ value (int (negsuc 9223372036854775807))
  pub above_short : typed (codes "9223372036854775808") ≡ value (int (pos 9223372036854775808))
  pub above_short_behind_a_plus : typed (codes "+9223372036854775808") ≡ value (int (pos 9223372036854775808))
  pub largest : typed (codes "340282366920938463463374607431768211455") ≡ value (int (pos 340282366920938463463374607431768211455))
  pub smallest : typed (codes "-170141183460469231731687303715884105728") ≡ value (int (negsuc 170141183460469231731687303715884105727))

-- numbers that no whole number of 128 bits is
pub record AreReal : Type 0 where
  pub too_large : typed (codes "340282366920938463463374607431768211456") ≡ real
  pub too_small : typed (codes "-170141183460469231731687303715884105729") ≡ real
  pub fraction : typed (codes "1.5") ≡ real
  pub point_at_the_end : typed (codes "1.") ≡ real
  pub point_at_the_front : typed (codes "-.5") ≡ real
  pub exponent : typed (codes "1e3") ≡ real
  pub exponent_with_a_sign : typed (codes "+1.5E-3") ≡ real
  pub infinite : typed (codes ".inf") ≡ real
  pub infinite_below_zero : typed (codes "-.INF") ≡ real
  pub infinite_behind_a_plus : typed (codes "+.Inf") ≡ real
  pub infinite_in_any_case : typed (codes "-iNFinity") ≡ real
  pub no_number : typed (codes ".nan") ≡ real
  pub no_number_in_capitals : typed (codes ".NAN") ≡ real
  pub no_number_without_a_point : typed (codes "NaN") ≡ real
  pub no_number_with_a_sign : typed (codes "-nan") ≡ real

-- near misses of the others, which stand for themselves
pub record AreTexts : Type 0 where
  pub empty : typed [] ≡ value (text [])
  pub letter : typed (codes "a") ≡ value (text (codes "a"))
  pub truth_in_capitals : typed (codes "True") ≡ value (text (codes "True"))
  pub falsehood_in_capitals : typed (codes "False") ≡ value (text (codes "False"))
  pub nothing_in_capitals : typed (codes "NULL") ≡ value (text (codes "NULL"))
  pub yes_word : typed (codes "yes") ≡ value (text (codes "yes"))
  pub hexadecimal_without_digits : typed (codes "0x") ≡ value (text (codes "0x"))
  pub hexadecimal_in_capitals : typed (codes "0XFF") ≡ value (text (codes "0XFF"))
  pub hexadecimal_too_large : typed (codes "0x8000000000000000") ≡ value (text (codes "0x8000000000000000"))
  pub minus_hexadecimal : typed (codes "-0x10") ≡ value (text (codes "-0x10"))
  pub no_octal_digit : typed (codes "0o8") ≡ value (text (codes "0o8"))
  pub two_minuses : typed (codes "--5") ≡ value (text (codes "--5"))
  pub sign_alone : typed (codes "-") ≡ value (text (codes "-"))
  pub point_alone : typed (codes ".") ≡ value (text (codes "."))
  pub two_points : typed (codes "1.2.3") ≡ value (text (codes "1.2.3"))
  pub exponent_without_digits : typed (codes "1e") ≡ value (text (codes "1e"))
  pub exponent_alone : typed (codes "e3") ≡ value (text (codes "e3"))
  pub no_number_below_zero : typed (codes "-.nan") ≡ value (text (codes "-.nan"))
  pub underscore : typed (codes "1_000") ≡ value (text (codes "1_000"))

-- the trees that layouts spell which were worked out by hand, and whether a number is kept as its text
pub record AreSpelled : Type 0 where
  pub header : layout_plain hand_header.tree ≡ dict (entry (text (codes "source")) (text (codes "src/a.rs"))
      (entry (text (codes "expression")) (text (codes "x"))
      (entry (text (codes "info")) (list (item (int (pos 1)) (item (dict (entry (text (codes "b")) (int (pos 2)) no_entries)) no_items))) no_entries)))
  pub header_keeps : layout_keeps hand_header.tree ≡ false
  pub request : layout_plain hand_request.tree ≡ dict (entry (text (codes "module")) (text (codes "m"))
      (entry (text (codes "file")) (text (codes "src/a.rs"))
      (entry (text (codes "line")) (int (pos 7))
      (entry (text (codes "name")) (text (codes "one"))
      (entry (text (codes "expr")) (text (codes "x"))
      (entry (text (codes "value")) (dict (entry (text (codes "a")) (int (pos 1)) no_entries)) no_entries))))))
  pub request_keeps : layout_keeps hand_request.tree ≡ false
  pub nested : layout_plain hand_list.tree ≡ dict (entry (text (9 ∷ 74 ∷ 233 ∷ 128512 ∷ []))
      (list (item (dict (entry null (list no_items) no_entries)) (item (text (codes "-.inf")) no_items)))
      (entry (int (pos 7)) (text (codes "x y")) no_entries))
  pub nested_keeps : layout_keeps hand_list.tree ≡ true

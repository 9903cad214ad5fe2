-- The words that the proofs of this crate speak in: those of the library, of the crates below, and of its own definitions.
pub use Rattle.std.proofs.Common.{◌≡◌, ℕ, List, [], ◌∷◌, ◌++◌, sym, subst, ◌+◌, length, Option, None, Some, cond, refl, ◌∙◌, ap, arith, ◌≢◌, ◌==◌, Bool, true, false, not, ◌&&◌, ◌||◌, eq-eqb, append_assoc, append-nil, map, drop, zero, suc, ◌-◌, ◌≤◌, ◌<◌, get_or, take, MatchOption, ⊎_elim, Bor, ne_eqb, length-drop, get_or-drop, rules, IfOk, string_bytes, encode_utf8_all, inl, inr, add-one, ◌^◌}
pub use Rattle.std.proofs.lemmas.Bool.{eqb-true, false_from_ne_true, cases_eq, cond-true, cond-false}
pub use Rattle.std.proofs.lemmas.Cmp.{nat_list_cmp_total, eq_by_cmp_equiv, tied_itself}
pub use Rattle.std.proofs.lemmas.List.{take_more, take-append-drop, take_all, map-append}
pub use Rattle.std.proofs.lemmas.List.Folds.{list_any-append}
pub use Rattle.std.proofs.lemmas.Map.Keys.{sorted_head, sorted_tail}
pub use Rattle.std.proofs.lemmas.Map.Text.{is_eq-slice_cmp}
pub use Rattle.std.proofs.lemmas.Slice.Eq.{bytes_eq-Decides}
pub use Rattle.std.proofs.lemmas.Str.{chars-append, encodes-append, encodes-chars, len_utf8_ascii, is_utf8-from_IsUtf8, IsUtf8-from_is_utf8}
pub use Rattle.std.specs.BTreeMap.{is_at}
pub use Rattle.std.specs.Cmp.Lexicographic.{slice_cmp}
pub use Rattle.std.specs.FinMap.{insert, remove, get, len, from_entries, find, get-from_entries, get-insert, get-remove, len-empty, len-insert, same_map, slice_cmp-IsAntisymmetric, nat_cmp-IsAntisymmetric, IsAntisymmetric}
pub use Rattle.std.specs.List.{AllByRecursion, list_any, filter_map, cons_option, slice_split, onto_first}
pub use Rattle.std.specs.List.Sorted.{IsStrictlySortedBy}
pub use Rattle.std.specs.Map.{lookup, keys_of}
pub use Rattle.std.specs.Ordering.{nat_cmp, eq_by_cmp, is_eq}
pub use Rattle.std.specs.Prelude.{is_some, unwrap_or, All, AllPairs, IsTrue, ◌↔◌, option_map}
pub use Rattle.std.specs.Str.{bytes_eq, chars, IsUtf8}
pub use Rattle.std.specs.declared.cmp.Ordering.TheVariants.{Less}
pub use base.Logic.{SProp, ent, emp, via, fst∗}
pub use contract.Monad.{Fun}
pub use contract.Running.{tables}
unfoldable pub use contract.Running.{tables_of}
pub use denote.RattleType.{owns}
pub use denote.Shadow.{pure_i}
pub use denote.Triple.Entry.{on_entry, alive, Args}
pub use denote.Triple.Spec.{Meets, triple_of}
pub use denote.Triple.Table.{entered}
pub use denote.Triple.Walked.{says, Stays, walk_of, Walks, ends_at, walked, walk_Meets, stay_none, stay_none_ref, stay_none_slice, AllGo, Goes-none, Goes-none_ref, Goes-none_slice}
pub use mir.Val.{vstruct, vnil, Val, vptr}
pub use prog.Memory.{Memory}
pub use prog.Routine.{Routine}
pub use prog.Wp.{Calls, Loops, WpFn, Tables}
pub use seplogic.Ra.Ura.{Ura}
pub use sound.WpLaws.{WpFn-mono}
pub use types.ByLocal.{alloc_all, pass_all, free_all, look_at, sets}
pub use types.Kit.{‵, raw, ◌$◌, ◌∵◌, !, qed, move, suffices, done}
pub use types.Logic.{Logic}
pub use types.Part.{agg}
pub use types.Run.{no_more, returns, enter}
pub use Rattle.snap_content.proofs.Booleans.{or_left, or_right}
pub use Rattle.snap_path.proofs.Joining.{joined-name, name-from-parts, name-parts}
pub use Rattle.snap_path.specs.Paths.{is_component, IsName, front_of}
pub use Rattle.snap_io.specs.Changes.{Change, writes, appends, removes, path_in, changed, all_changed, MayLeave}
pub use Rattle.snap_io.specs.Disks.{asked_of}
pub use Rattle.snap_io.specs.Files.{Files, SameBut}
pub use Rattle.snap_io.specs.Listed.{AreNames}
pub use Rattle.snap_io.specs.Listing.{Told, names_in, is_zero}
pub use Rattle.snap_io.specs.Operations.{Gave}
pub use Rattle.snap_io.specs.StandsAfter.{IsInWork, NamesNext, StandsAfter, LeavesOthers}
pub use Rattle.snap_io.specs.Writing.{FileWritten, tried}

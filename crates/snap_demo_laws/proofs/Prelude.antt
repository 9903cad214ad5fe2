-- The words that the proofs of this crate speak in: those of the library and of the crates below, and its own definitions.
pub use Rattle.std.proofs.Common.{◌≡◌, refl, sym, ap, ◌∙◌, subst, arith, ℕ, zero, suc, ◌+◌, ◌-◌, ◌/◌, ◌%◌, ◌^◌, ◌<◌, ◌≤◌, List, [], ◌∷◌, ◌++◌, length, Bool, true, false, cond, ◌||◌, Option, None, Some, Ok, codes, append_assoc, append-nil, encode_utf8_all}
pub use Rattle.std.specs.FinMap.{get, insert, get-insert}
pub use Rattle.std.specs.Fmt.{decimal}
pub use Rattle.std.specs.List.{All}
pub use Rattle.std.specs.Prelude.{if◌then◌else◌, unwrap_or}
pub use Rattle.std.specs.Str.{bytes_eq}
pub use Rattle.snap_content.proofs.Booleans.{some_same}
pub use Rattle.snap_content.specs.Plain.{Plain, text, dict, entry, no_entries}
pub use Rattle.snap_io.specs.Files.{Files}
pub use Rattle.snap_print.specs.Blocks.{Blocks, off}
pub use Rattle.snap_store.specs.Image.{file_of}
pub use Rattle.snap_store.specs.Meta.{header_tree, without_line}
pub use Rattle.snap_assert_settings.specs.declared.config.Update.TheVariants.{InPlace, NoUpdate}
pub use Rattle.snap_demo.specs.Numbers.{next_of}
pub use Rattle.snap_demo.specs.Paths.{demo_path}
pub use Rattle.snap_demo.specs.Requests.{demo_file, demo_name, demo_value, demo_assertion, demo_request}
pub use Rattle.snap_assert.specs.Judging.{May}
pub use Rattle.snap_assert.specs.Kept.{may_change}
pub use Rattle.snap_assert.specs.Session.{empty_session}
pub use Rattle.snap_assert.specs.Steps.{Asked, step}
pub use Rattle.snap_assert.specs.Subjects.{tree_with}
pub use Rattle.snap_run.specs.Answers.{Answer, demo_run, assertion_by, asked_by, requests_of, remembered_by, step_by, files_after, MayPass, AreAllowed, passes, passed_count}
pub use Rattle.snap_demo_laws.specs.Fresh.{demo_header, demo_snapshot, demo_image, AreAbsent, AreHeld, bytes_meant, PassesAll, ShowsAll}

-- What is answered.
use Rattle.snap_assert.proofs.Prelude.{◌≡◌, ◌&&◌, Bool, true, not, Option, Some, Files, IsDone, IsAnswered, IsPrepared, IsSettled, IsKnown, IsCovered, Asked, ℕ, List, Blocks, Plain, is_trimmed, assertion_of, asked_under, verdict_of, is_failure, refl, Judged, Prepared, Config, SessionView}
use Rattle.snap_content.specs.List.{items_of}
use Rattle.snap_content.specs.Plain.{plain}
use Rattle.snap_content.specs.Tree.{Tree}
use Rattle.snap_assert_place.specs.Place.{PlaceView}
use Rattle.snap_assert_settings.specs.Settings.{SettingsView}
use Rattle.snap_store.specs.declared.metadata.SnapshotKind.TheVariants as kind
use Rattle.snap_assert.specs.Compared.{IsDoneBy, IsAnsweredBy}
use Rattle.snap_assert.specs.Default.{default_relation}
use Rattle.snap_assert.specs.Relations.{Relation}
use Rattle.snap_assert.proofs.Judgements.{with_tree}
use Rattle.snap_assert.proofs.Looking.{judged_allowed, judged_warned, judged_of_one}
use Rattle.snap_assert.specs.declared.listed.Listed.{Listed}
use Rattle.snap_assert.specs.declared.outcome.Outcome.{Outcome}
use Rattle.snap_assert.specs.declared.outcome.Verdict.{Verdict}

pub done_by : (relation : Relation) (config : Config) (asked : Asked) (prepared : Prepared) (judged : Judged) (verdict : Verdict) (fails : Bool) (files files' known : Option Files) (listed : Listed) → IsKnown known files listed
    → IsPrepared asked prepared → verdict ≡ verdict_of config.update judged.passed → fails ≡ (is_failure verdict && not config.force_pass)
    → ((asked : Asked) → IsPrepared asked prepared → (m : Files) → files ≡ Some m → IsCovered m listed → IsSettled relation config asked m judged files')
    → IsDoneBy relation config asked (record { verdict = verdict; path = prepared.path; warnings = judged.warnings; fails = fails }) known files'
done_by relation config asked prepared judged verdict fails files files' known listed held p says failing settled = record {
  passed = judged.passed;
  verdict = says;
  path = p.path;
  fails = failing;
  passes = λ m told. (settled asked p m (held m told).0 (held m told).1).compared;
  stands = λ m told. (settled asked p m (held m told).0 (held m told).1).stands;
}

-- what is done by the default comparator
default_done : (config : Config) (asked : Asked) (w : Blocks) (tree : Plain) (outcome : Outcome) (files files' : Option Files) → is_trimmed w ≡ true → asked.meta.kind ≡ kind.Text
    → IsDoneBy (default_relation config.require_full_match) config (with_tree asked w tree) outcome files files' → IsDone config (with_tree asked w tree) outcome files files'
default_done config asked w tree outcome files files' trimmed text d = record {
  passed = d.passed;
  verdict = d.verdict;
  path = d.path;
  fails = d.fails;
  allowed = λ m told. judged_allowed config.require_full_match asked w tree m d.passed (items_of outcome.warnings) trimmed text (d.passes m told);
  stands = d.stands;
  warned = λ m told. judged_warned config.require_full_match asked w tree m d.passed (items_of outcome.warnings) (d.passes m told);
  one = λ m told. judged_of_one (default_relation config.require_full_match) (with_tree asked w tree) m d.passed (items_of outcome.warnings) (d.passes m told);
}

pub default_answered : (config : Config) (w : Blocks) (settings : SettingsView) (place : PlaceView) (given : Option (List ℕ)) (printed : Tree) (outcome : Outcome) (files files' : Option Files) (session session' : SessionView) → is_trimmed w ≡ true
    → IsAnsweredBy (default_relation config.require_full_match) config (assertion_of w settings place given printed) outcome files files' session session'
    → IsAnswered config (assertion_of w settings place given printed) outcome files files' session session'
default_answered config w settings place given printed outcome files files' session session' trimmed h = record {
  course = h.course;
  course_is = h.course_is;
  remembered = h.remembered;
  done = default_done config (asked_under (assertion_of w settings place given printed) h.course.name) w (plain printed) outcome files files' trimmed refl h.done;
}

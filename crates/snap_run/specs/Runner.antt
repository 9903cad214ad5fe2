-- What the documents of a run share.
use Rattle.snap_run.specs.Answers.{RunWords}
use Rattle.snap_run.specs.declared.runner.Runner.{Runner}

-- the words that the documents of a run share
abbrev pub words_of : Runner → RunWords
words_of runner = record {
  workspace = runner.workspace;
  update = runner.config.update;
  force_update = runner.config.force_update;
  force_pass = runner.config.force_pass;
  full = runner.config.require_full_match;
  literal = runner.config.literal;
}

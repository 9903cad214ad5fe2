use Rattle.snap_select.proofs.Prelude.{◌∙◌, chars}
use Rattle.snap_select.proofs.QuotedText.{quoted_key, quoted_shorter}
use Rattle.snap_select.proofs.quotes.read_quoted.Goals as goal

pub returns-in-Some-clause-key : goal.returns-in-Some-clause-key
returns-in-Some-clause-key c =
    quoted_key (chars c.args.text.now) c.borrowed.result (chars c.in-Some.rest.now) (c.borrowed.ensures ∙ c.in-Some.ensures.plain) c.in-Some.ensures.rest

pub returns-in-Some-clause-shorter : goal.returns-in-Some-clause-shorter
returns-in-Some-clause-shorter c = quoted_shorter (chars c.args.text.now) (chars c.in-Some.rest.now) c.in-Some.ensures.rest

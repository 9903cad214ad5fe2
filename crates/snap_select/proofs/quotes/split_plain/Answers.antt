use Rattle.snap_select.proofs.Prelude.{chars, front, is_plain}
use Rattle.snap_select.proofs.QuotedText.{plain_cut}
use Rattle.snap_select.proofs.quotes.split_plain.Goals as goal

pub before_rest-requires : goal.before_rest-requires
before_rest-requires c =
    let text = chars c.args.text.now in (front is_plain text, plain_cut text (chars c.past_plain-quote.result.now) c.past_plain-quote.ensures)

pub returns-clause-plain : goal.returns-clause-plain
returns-clause-plain c =
    let text = chars c.args.text.now in
    c.before_rest.ensures (front is_plain text) (plain_cut text (chars c.past_plain-quote.result.now) c.past_plain-quote.ensures)

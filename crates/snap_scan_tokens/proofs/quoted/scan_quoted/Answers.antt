use Rattle.snap_scan_tokens.proofs.Prelude.{◌≡◌, ◌∙◌, ◌||◌, ◌==◌, [], ◌∷◌, Option, true, false, slice_index, arith, rules, subst, sym, refl, Ok, Err, None, Syntax, S29, S30, IsRefusedBy, is_blank, is_break, is_document_indicator, Gap, gap_of, before, with_break, Mark, Place, Quoted, quoted_end, sign_of, ends_quoted, quoted_at, quoted_from, ReadsQuoted}
use Rattle.snap_scan_tokens.proofs.EitherQuotes.{quoted-blank, quoted-break, quoted-refused, quoted-closed, among-quotes, none-quotes, quotes-refused, quotes-unended}
use Rattle.snap_scan_tokens.proofs.Places.{travels-on}
use Rattle.snap_scan_tokens.proofs.Explained.{explained}
use Rattle.snap_scan_tokens.proofs.Backslashes.{refused-so}
use Rattle.std.proofs.lemmas.Result.{err_from_is_err_and}
use Rattle.snap_scan_tokens.proofs.quoted.scan_quoted.Goals as goal

pub characters-preserved-then-is_blank : goal.characters-preserved-then-is_blank
characters-preserved-then-is_blank c =
    let p : Place = c.characters.cursor in
    let q : Place = c.skip-then-is_blank.new.self in
    let blank : is_blank (slice_index p.left 0) ≡ true = cc in
    record {
      behind = c.skip-then-is_blank.ensures.travels.within c.characters.text.behind c.characters.invariant.behind;
      same = quoted-blank c.args.quotes c.characters.text c.characters.gap p q c.characters.invariant.behind blank c.skip-then-is_blank.ensures.value ∙ c.characters.invariant.same;
      travels = travels-on c.characters.invariant.travels c.skip-then-is_blank.ensures.travels;
      falls = omega (arith, c.skip-then-is_blank.ensures.travels.lighter, c.characters.invariant.falls);
    }

pub characters-preserved-then-is_break : goal.characters-preserved-then-is_break
characters-preserved-then-is_break c =
    let p : Place = c.characters.cursor in
    let q : Place = c.skip_break.new.self in
    let blank : is_blank (slice_index p.left 0) ≡ false = cc in
    let broken : is_break (slice_index p.left 0) ≡ true = cc in
    let added : c.add_break.new.self ≡ with_break c.characters.gap = search rules in
    let P : Gap → Type 0 = λ g. quoted_at c.args.quotes c.characters.text g q ≡ quoted_from c.args.quotes c.args.cursor.now in
    record {
      behind = c.skip_break.ensures.travels.within c.characters.text.behind c.characters.invariant.behind;
      same = subst P (sym added) (quoted-break c.args.quotes c.characters.text c.characters.gap p q blank broken c.skip_break.ensures.value ∙ c.characters.invariant.same);
      travels = travels-on c.characters.invariant.travels c.skip_break.ensures.travels;
      falls = omega (arith, c.skip_break.ensures.travels.lighter, c.characters.invariant.falls);
    }

pub returns-then-is_document_indicator-clause-value : goal.returns-then-is_document_indicator-clause-value
returns-then-is_document_indicator-clause-value c =
    let p : Place = c.characters.cursor in
    let blank : is_blank (slice_index p.left 0) ≡ false = cc in
    let broken : is_break (slice_index p.left 0) ≡ false = cc in
    let sign : is_document_indicator p ≡ true = sym c.is_document_indicator.ensures ∙ c.if-is_document_indicator.true in
    let stop : (is_document_indicator p || slice_index p.left 0 == 0) ≡ true = rw sign refl in
    let refused : None ≡ quoted_from c.args.quotes c.args.cursor.now = sym (quoted-refused c.args.quotes c.characters.text c.characters.gap p blank broken stop) ∙ c.characters.invariant.same in
    let P : Option Quoted → Type 0 = λ o. ReadsQuoted o (Err (Syntax c.mark-mark.result S29)) p in
    subst P refused tt

pub returns-then-is_document_indicator-clause-cause : goal.returns-then-is_document_indicator-clause-cause
returns-then-is_document_indicator-clause-cause c =
    explained c.args.cursor.now (sign_of c.args.quotes ∷ []) (Syntax c.mark-mark.result S29) (among-quotes c.args.quotes _ c.requires) (none-quotes c.args.quotes) (quotes-refused c.args.quotes _ _ c.mark-mark.ensures)

pub returns-then-c-eq0-clause-value : goal.returns-then-c-eq0-clause-value
returns-then-c-eq0-clause-value c =
    let p : Place = c.characters.cursor in
    let blank : is_blank (slice_index p.left 0) ≡ false = cc in
    let broken : is_break (slice_index p.left 0) ≡ false = cc in
    let sign : is_document_indicator p ≡ false = sym c.is_document_indicator.ensures ∙ c.if-is_document_indicator.false in
    let end : slice_index p.left 0 ≡ 0 = sym c.ch-c.ensures ∙ c.if-c-eq0.true in
    let stop : (is_document_indicator p || slice_index p.left 0 == 0) ≡ true = rw (sign, end) refl in
    let refused : None ≡ quoted_from c.args.quotes c.args.cursor.now = sym (quoted-refused c.args.quotes c.characters.text c.characters.gap p blank broken stop) ∙ c.characters.invariant.same in
    let P : Option Quoted → Type 0 = λ o. ReadsQuoted o (Err (Syntax c.mark-mark.result S30)) p in
    subst P refused tt

pub returns-then-c-eq0-clause-cause : goal.returns-then-c-eq0-clause-cause
returns-then-c-eq0-clause-cause c =
    explained c.args.cursor.now (sign_of c.args.quotes ∷ []) (Syntax c.mark-mark.result S30) (among-quotes c.args.quotes _ c.requires) (none-quotes c.args.quotes) (quotes-unended c.args.quotes _ _ c.mark-mark.ensures)

pub returns-then-end_here-clause-value : goal.returns-then-end_here-clause-value
returns-then-end_here-clause-value c =
    let p : Place = c.characters.cursor in
    let sign : is_document_indicator p ≡ false = sym c.is_document_indicator.ensures ∙ c.if-is_document_indicator.false in
    let ends : ends_quoted c.args.quotes p.left ≡ true = sym c.end_here.ensures ∙ c.if-end_here.true in
    let whole : quoted_end (gap_of c.characters.gap (before c.characters.text.behind p.left)) c.characters.text.text p ≡ quoted_from c.args.quotes c.args.cursor.now
    = sym (quoted-closed c.args.quotes c.characters.text c.characters.gap p sign ends) ∙ c.characters.invariant.same in
    let P : Option Quoted → Type 0 = λ o. ReadsQuoted o (Ok c.in_ok-text.text) c.close.new.cursor in
    subst P whole (c.in_ok-text.ensures.text, c.in_ok-text.ensures.place)

pub take_inside-requires-clause-inside : goal.take_inside-requires-clause-inside
take_inside-requires-clause-inside c =
    let p : Place = c.characters.cursor in record {
      blank = cc;
      broken = cc;
      sign = sym c.is_document_indicator.ensures ∙ c.if-is_document_indicator.false;
      some = λ e. c.if-c-eq0.false (c.ch-c.ensures ∙ e);
      going = sym c.end_here.ensures ∙ c.if-end_here.false;
    }

pub characters-preserved : goal.characters-preserved
characters-preserved c = record {
  behind = c.in_ok-take_inside.ensures.behind;
  same = c.in_ok-take_inside.ensures.value ∙ c.characters.invariant.same;
  travels = travels-on c.characters.invariant.travels c.take_inside.ensures.travels;
  falls = omega (arith, c.take_inside.ensures.travels.lighter, c.characters.invariant.falls);
}

pub returns-in_err-take_inside-clause-value : goal.returns-in_err-take_inside-clause-value
returns-in_err-take_inside-clause-value c =
    let told = err_from_is_err_and c.from_residual-in_err-take_inside.result c.from_residual-in_err-take_inside.ensures.1 in
    let error = c.in_err-take_inside.field-0.0 in
    let k = c.args.quotes in
    let P : Option Quoted → Type 0 = λ o. ReadsQuoted o (Err error) c.take_inside.new.cursor in
    rw (told.1, told.2) (subst P c.characters.invariant.same (refused-so (quoted_at k c.characters.text c.characters.gap c.characters.cursor) (quoted_at k c.take_inside.new.text c.take_inside.new.gap c.take_inside.new.cursor) error c.take_inside.new.cursor c.in_err-take_inside.ensures.value))

pub returns-in_err-take_inside-clause-cause : goal.returns-in_err-take_inside-clause-cause
returns-in_err-take_inside-clause-cause c =
    let told = err_from_is_err_and c.from_residual-in_err-take_inside.result c.from_residual-in_err-take_inside.ensures.1 in
    let error = c.in_err-take_inside.field-0.0 in
    let P : Mark → Type 0 = λ m. IsRefusedBy (sign_of c.args.quotes ∷ []) m error in
    rw (told.1, told.2) (explained c.args.cursor.now (sign_of c.args.quotes ∷ []) error (among-quotes c.args.quotes _ c.requires) (none-quotes c.args.quotes) (subst P c.mark-mark.ensures c.in_err-take_inside.ensures.cause))

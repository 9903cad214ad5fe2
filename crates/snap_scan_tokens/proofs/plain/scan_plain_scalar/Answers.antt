use Rattle.snap_scan_tokens.proofs.Prelude.{◌≡◌, ◌∙◌, ◌++◌, ℕ, List, Option, true, false, slice_index, arith, rules, subst, sym, ap, refl, Ok, Err, None, chars, Syntax, S34, is_blank, is_break, is_of, Word, Gap, gap_of, with_break, no_gap, joined, Piece, before, EndsIn, Place, skipped, skipped_while, Plain, plain, plain_end, plain_from, ends_plain, is_bad_tab, ReadsPlain}
use Rattle.snap_scan_tokens.proofs.Plains.{plain-blank, plain-break, plain-ended, plain-word, plain-tab}
use Rattle.snap_scan_tokens.proofs.Pieces.{ends-same}
use Rattle.snap_scan_tokens.proofs.Places.{travels-on}
use Rattle.snap_scan_tokens.proofs.plain.scan_plain_scalar.Goals as goal

pub characters-init : goal.characters-init
characters-init c = record {
  behind = c.begin-text.ensures.behind;
  inside = c.begin-text.ensures.travels.within c.args.cursor.now.left (ends-same c.args.cursor.now.left);
  same = rw c.none-gap.ensures (c.begin-text.ensures.value c.args.indent c.args.in_flow);
  travels = c.begin-text.ensures.travels;
  falls = c.begin-text.ensures.falls;
}

pub characters-preserved-then-is_blank : goal.characters-preserved-then-is_blank
characters-preserved-then-is_blank c =
    let p : Place = c.characters.cursor in
    let q : Place = c.skip.new.self in
    let g : Gap = c.characters.gap in
    let blank : is_blank (slice_index p.left 0) ≡ true = cc in
    let bad : is_bad_tab c.args.indent g (slice_index p.left 0) p.col ≡ false = cc in
    record {
      behind = c.skip.ensures.travels.within c.characters.text.behind c.characters.invariant.behind;
      inside = c.skip.ensures.travels.within c.args.cursor.now.left c.characters.invariant.inside;
      same = plain-blank c.args.indent c.args.in_flow g c.characters.text.behind c.characters.text.text p q c.characters.invariant.behind blank bad c.skip.ensures.value
          ∙ c.characters.invariant.same;
      travels = travels-on c.characters.invariant.travels c.skip.ensures.travels;
      falls = omega (arith, c.skip.ensures.travels.lighter, c.characters.invariant.falls);
    }

pub characters-preserved-then-is_break : goal.characters-preserved-then-is_break
characters-preserved-then-is_break c =
    let p : Place = c.characters.cursor in
    let q : Place = c.skip_break.new.self in
    let g : Gap = c.characters.gap in
    let blank : is_blank (slice_index p.left 0) ≡ false = cc in
    let broken : is_break (slice_index p.left 0) ≡ true = cc in
    let added : c.add_break.new.self ≡ with_break g = search rules in
    record {
      behind = c.skip_break.ensures.travels.within c.characters.text.behind c.characters.invariant.behind;
      inside = c.skip_break.ensures.travels.within c.args.cursor.now.left c.characters.invariant.inside;
      same = rw added (plain-break c.args.indent c.args.in_flow g (before c.characters.text.behind p.left) (before c.characters.text.behind q.left) c.characters.text.text p q blank broken c.skip_break.ensures.value
          ∙ c.characters.invariant.same);
      travels = travels-on c.characters.invariant.travels c.skip_break.ensures.travels;
      falls = omega (arith, c.skip_break.ensures.travels.lighter, c.characters.invariant.falls);
    }

pub returns-then-ends_plain-clause-value : goal.returns-then-ends_plain-clause-value
returns-then-ends_plain-clause-value c =
    let p : Place = c.characters.cursor in
    let g : Gap = gap_of c.characters.gap (before c.characters.text.behind p.left) in
    let blank : is_blank (slice_index p.left 0) ≡ false = cc in
    let broken : is_break (slice_index p.left 0) ≡ false = cc in
    let ended : ends_plain c.args.indent c.args.in_flow g p ≡ true = sym c.ends_plain.ensures ∙ c.if-ends_plain.true in
    let whole : plain_end g c.characters.text.text p ≡ plain_from c.args.indent c.args.in_flow c.args.cursor.now
    = sym (plain-ended c.args.indent c.args.in_flow g c.characters.text.text p blank broken ended) ∙ c.characters.invariant.same in
    let P : Option Plain → Type 0 = λ o. ReadsPlain o (Ok (record { text = c.in_ok-text.text; is_broken = c.is_folded-is_broken.result })) p in
    subst P whole (c.in_ok-text.ensures, c.is_folded-is_broken.ensures, refl)

pub returns-then-is_bad_tab-clause-value : goal.returns-then-is_bad_tab-clause-value
returns-then-is_bad_tab-clause-value c =
    let p : Place = c.characters.cursor in
    let g : Gap = gap_of c.characters.gap (before c.characters.text.behind p.left) in
    let blank : is_blank (slice_index p.left 0) ≡ true = cc in
    let bad : is_bad_tab c.args.indent g (slice_index p.left 0) p.col ≡ true = sym c.is_bad_tab.ensures ∙ c.if-is_bad_tab.true in
    let refused : None ≡ plain_from c.args.indent c.args.in_flow c.args.cursor.now
    = sym (plain-tab c.args.indent c.args.in_flow g c.characters.text.text p blank bad) ∙ c.characters.invariant.same in
    let P : Option Plain → Type 0 = λ o. ReadsPlain o (Err (Syntax c.mark-mark.result S34)) p in
    subst P refused tt

pub extend-requires : goal.extend-requires
extend-requires c =
    let p : Place = c.characters.cursor in
    let put : c.join.new.self ≡ record { text = c.characters.text.text ++ joined (gap_of c.characters.gap (before c.characters.text.behind (chars c.rest.result.now))); behind = chars c.rest.result.now } = search rules in
    let behind : Piece → List ℕ = λ t. t.behind in
    let joined : c.join.new.self.behind ≡ p.left = ap behind put ∙ c.rest.ensures in
    rw (joined, c.rest-else-ends_plain.ensures) (c.skip_while.ensures.travels.within p.left (c.skip-else-ends_plain.ensures.travels.within p.left (ends-same p.left)))

pub characters-preserved : goal.characters-preserved
characters-preserved c =
    let p : Place = c.characters.cursor in
    let q : Place = c.skip_while.new.self in
    let g : Gap = gap_of c.characters.gap (before c.characters.text.behind p.left) in
    let blank : is_blank (slice_index p.left 0) ≡ false = cc in
    let broken : is_break (slice_index p.left 0) ≡ false = cc in
    let on : ends_plain c.args.indent c.args.in_flow g p ≡ false = sym c.ends_plain.ensures ∙ c.if-ends_plain.false in
    let over : Place → Place = skipped_while (is_of Word) in
    let place : q ≡ skipped_while (is_of Word) (skipped p) = c.skip_while.ensures.value ∙ ap over c.skip-else-ends_plain.ensures.value in
    let put : c.join.new.self ≡ record { text = c.characters.text.text ++ joined (gap_of c.characters.gap (before c.characters.text.behind (chars c.rest.result.now))); behind = chars c.rest.result.now } = search rules in
    let text : c.extend.new.self ≡ record { text = (c.characters.text.text ++ joined g) ++ before p.left q.left; behind = q.left } = c.extend.ensures ∙ rw (put, c.rest.ensures, c.rest-else-ends_plain.ensures) refl in
    let within : Piece → Type 0 = λ t. EndsIn t.behind q.left in
    let same : Piece → Type 0 = λ t. plain c.args.indent c.args.in_flow (gap_of no_gap (before t.behind q.left)) t.text q.left q ≡ plain_from c.args.indent c.args.in_flow c.args.cursor.now in
    record {
      behind = subst within (sym text) (ends-same q.left);
      inside = c.skip_while.ensures.travels.within c.args.cursor.now.left (c.skip-else-ends_plain.ensures.travels.within c.args.cursor.now.left c.characters.invariant.inside);
      same = rw c.none-gap-else-ends_plain.ensures (subst same (sym text) (plain-word c.args.indent c.args.in_flow g c.characters.text.text p q blank broken on place ∙ c.characters.invariant.same));
      travels = travels-on (travels-on c.characters.invariant.travels c.skip-else-ends_plain.ensures.travels) c.skip_while.ensures.travels;
      falls = omega (arith, c.skip_while.ensures.travels.lighter, c.skip-else-ends_plain.ensures.travels.lighter, c.characters.invariant.falls);
    }

use Rattle.snap_scan_properties.proofs.Prelude.{◌≡◌, ◌==◌, ◌∙◌, ◌++◌, ℕ, List, [], ◌∷◌, Result, Err, true, false, slice_index, sym, ap, subst, chars, headed, uri_from, ne_eqb, or_from, is_uri, Place, ScanInfo, Found}
use Rattle.snap_scan_properties.proofs.Uris.{headed-refused, headed-end, headed-more, headed-plain}
use Rattle.snap_scan_tokens.proofs.Places.{travels-on}
use Rattle.snap_scan_properties.proofs.tag.scan_tag_uri.Goals as goal

pub returns-in-Err-clause-value : goal.returns-in-Err-clause-value
returns-in-Err-clause-value c =
    let f : ScanInfo → Result (Found (List ℕ)) ScanInfo = λ info. Err info in
    sym c.characters.invariant.same ∙ headed-refused c.characters.text c.characters.cursor (sym c.ch.ensures ∙ c.if-ch-eq37.true) c.in-Err.ensures.value.1
    ∙ ap f (sym c.in-Err.ensures.value.0.0)

pub returns-else-has-clause-value : goal.returns-else-has-clause-value
returns-else-has-clause-value c =
    let q : Place = c.characters.cursor in
    let sign : (slice_index q.left 0 == 37) ≡ false = ne_eqb (slice_index q.left 0) 37 (λ e. c.if-ch-eq37.false (c.ch.ensures ∙ e)) in
    let other : is_uri (slice_index q.left 0) ≡ false = cc in
    sym c.characters.invariant.same ∙ headed-end c.characters.text q (or_from (slice_index q.left 0 == 37) (is_uri (slice_index q.left 0)) sign other)

pub characters-preserved-in-Continue-branch-2 : goal.characters-preserved-in-Continue-branch-2
characters-preserved-in-Continue-branch-2 c =
    let P : List ℕ → Type 0 = λ l. headed l (uri_from c.scan_uri_escapes.new.cursor) ≡ headed (chars c.args.head.now) (uri_from c.args.cursor.now) in
    let pushed : c.push.new.self ≡ c.characters.text ++ c.in-Ok.character ∷ [] = c.in_ok-push-in-Ok.ensures.ok in
    record {
      same = subst P (sym pushed) (headed-more c.characters.text c.in-Ok.character c.characters.cursor c.scan_uri_escapes.new.cursor c.in-Ok.ensures.value.0 c.in-Ok.ensures.value.1 ∙ c.characters.invariant.same);
      travels = travels-on c.characters.invariant.travels c.scan_uri_escapes.ensures.travels;
    }

pub characters-preserved : goal.characters-preserved
characters-preserved c =
    let q : Place = c.characters.cursor in
    let P : List ℕ → Type 0 = λ l. headed l (uri_from c.skip.new.self) ≡ headed (chars c.args.head.now) (uri_from c.args.cursor.now) in
    let f : ℕ → List ℕ = λ n. c.characters.text ++ n ∷ [] in
    let one : c.push-then-has.new.self ≡ c.characters.text ++ c.ch-then-has.result ∷ [] = c.in_ok-push.ensures.ok in
    let pushed : c.push-then-has.new.self ≡ c.characters.text ++ slice_index q.left 0 ∷ [] = one ∙ ap f c.ch-then-has.ensures in
    let uri : is_uri (slice_index q.left 0) ≡ true = cc in
    record {
      same = subst P (sym pushed) (headed-plain c.characters.text q c.skip.new.self uri (λ e. c.if-ch-eq37.false (c.ch.ensures ∙ e)) c.skip.ensures.value ∙ c.characters.invariant.same);
      travels = travels-on c.characters.invariant.travels c.skip.ensures.travels;
    }

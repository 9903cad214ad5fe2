-- The first scalar of events that is told.
use Rattle.snap_explain_scalars.proofs.Prelude.{◌≡◌, ℕ, true, false, List, [], ◌∷◌, ◌++◌, Option, None, Some, Result, Ok, Err, OnOk, OnErr, IfErr, IfSome, MatchOption, refl, sym, ap, ◌∙◌, subst, option_or}
use Rattle.snap_scan_tokens.specs.Place.{before_nul}
use Rattle.snap_scan_tokens.specs.declared.tag.Tag.{Tag}
use Rattle.snap_scan_tokens.specs.declared.token.TScalarStyle.{TScalarStyle}
use Rattle.snap_scan_tokens.specs.declared.token.TScalarStyle.TheVariants as style
use Rattle.snap_parse_events.specs.Meaning.{is_inside}
use Rattle.snap_parse_events.specs.Parsing.{Parsing, meaning, start_parsing}
use Rattle.snap_parse_events.specs.Runs.{LoadsPart, LoadsUpTo, Run, run_more}
use Rattle.snap_parse_events.specs.declared.error.LoadError.{LoadError}
use Rattle.snap_parse_events.specs.declared.event.Event.{Event}
use Rattle.snap_parse_events.specs.declared.event.Event.TheVariants as e
use Rattle.snap_explain_scalars.specs.Elsewhere.{read_elsewhere}
use Rattle.snap_explain_scalars.specs.Found.{IsFirstOf, Told, first_told, seen, told, told_of, told_scalar}
use Rattle.snap_explain_scalars.specs.declared.finding.Found.{Found}
use Rattle.snap_explain_scalars.specs.declared.finding.Search.{Search}
use Rattle.snap_explain_scalars.specs.declared.otherwise.Otherwise.{Otherwise}

or_apart : (a b c : Option Told) → option_or a (option_or b c) ≡ option_or (option_or a b) c
or_apart None b c = refl
or_apart (Some t) b c = refl

or_none : (a : Option Told) → option_or a None ≡ a
or_none None = refl
or_none (Some t) = refl

-- one event more
pub told-more : (events : List Event) (event : Event) → first_told (events ++ event ∷ []) ≡ option_or (first_told events) (told_of event)
told-more [] event = or_none (told_of event)
told-more (x ∷ xs) event =
    ap (option_or (told_of x)) (told-more xs event) ∙ or_apart (told_of x) (first_told xs) (told_of event)

outside : (document : List ℕ) (p : Parsing) → p ≡ start_parsing (before_nul document) → is_inside (meaning p) ≡ false
outside document p start = ap (λ s. is_inside (meaning s)) start

-- what the receiver has at the end
pub first-of : (document : List ℕ) (old new : Search) (p q : Parsing) (r : Result (Unit {0}) LoadError) → old.found ≡ None → p ≡ start_parsing (before_nul document) → OnOk r (LoadsUpTo (λ search events. seen search.found ≡ first_told events) true old new p q) → (is_inside (meaning p) ≡ false → IfErr r (λ e. LoadsPart (λ search events. seen search.found ≡ first_told events) true e old new p q)) → IsFirstOf document new.found
first-of document old new p q (Ok x) none start loaded failed = record {
  events = loaded.events ++ loaded.last ∷ [];
  last = q;
  run =
      subst (λ s. Run s (loaded.events ++ loaded.last ∷ []) q) start (run_more p loaded.between q loaded.events loaded.last loaded.run loaded.steps);
  first = loaded.gets [] (ap seen none);
}
first-of document old new p q (Err e) none start loaded failed =
    let part = (failed (outside document p start)).part in
    record { events = part.events; last = (failed (outside document p start)).to; run = subst (λ s. Run s part.events (failed (outside document p start)).to) start part.run; first = part.gets [] (ap seen none) }

-- what is told is read so
same_told : (s t : Told) → Some s ≡ Some t → s ≡ t
same_told s t h = cc

said-so : (text : List ℕ) (o : Option Otherwise) (t : Told) → read_elsewhere text ≡ o → told text o ≡ Some t → read_elsewhere t.text ≡ Some t.otherwise
said-so text None t is h = absurd (cc)
said-so text (Some o) t is h = subst (λ u. read_elsewhere u.text ≡ Some u.otherwise) (same_told (record { text = text; otherwise = o }) t h) is

scalar-said : (text : List ℕ) (style : TScalarStyle) (tag : Option Tag) (t : Told) → told_scalar text style tag ≡ Some t → read_elsewhere t.text ≡ Some t.otherwise
scalar-said text style.Plain None t h = said-so text (read_elsewhere text) t refl h
scalar-said text style.Plain (Some tag) t h = absurd (cc)
scalar-said text style.SingleQuoted tag t h = absurd (cc)
scalar-said text style.DoubleQuoted tag t h = absurd (cc)
scalar-said text style.Literal tag t h = absurd (cc)
scalar-said text style.Foled tag t h = absurd (cc)

event-said : (event : Event) (t : Told) → told_of event ≡ Some t → read_elsewhere t.text ≡ Some t.otherwise
event-said (e.Scalar text style anchor tag) t h = scalar-said text style tag t h
event-said e.StreamStart t h = absurd (cc)
event-said e.StreamEnd t h = absurd (cc)
event-said e.DocumentStart t h = absurd (cc)
event-said e.DocumentEnd t h = absurd (cc)
event-said (e.Alias id) t h = absurd (cc)
event-said (e.SequenceStart id) t h = absurd (cc)
event-said e.SequenceEnd t h = absurd (cc)
event-said (e.MappingStart id) t h = absurd (cc)
event-said e.MappingEnd t h = absurd (cc)

chosen-said : (o : Option Told) (events : List Event) (t : Told) → ((s : Told) → o ≡ Some s → read_elsewhere s.text ≡ Some s.otherwise) → ((s : Told) → first_told events ≡ Some s → read_elsewhere s.text ≡ Some s.otherwise) → option_or o (first_told events) ≡ Some t → read_elsewhere t.text ≡ Some t.otherwise
chosen-said None events t by_first by_more h = by_more t h
chosen-said (Some s) events t by_first by_more h = by_first t h

first-said : (events : List Event) (t : Told) → first_told events ≡ Some t → read_elsewhere t.text ≡ Some t.otherwise
first-said [] t h = absurd (cc)
first-said (x ∷ xs) t h = chosen-said (told_of x) xs t (event-said x) (first-said xs) h

pub found-said : (document : List ℕ) (found : Found) → IsFirstOf document (Some found) → read_elsewhere found.text ≡ Some found.otherwise
found-said document found is = first-said is.events (record { text = found.text; otherwise = found.otherwise }) (sym is.first)

-- both clauses of what is found
pub both-said : (document : List ℕ) (r : Option Found) → IsFirstOf document r → MatchOption r (Unit {0}) (λ f. read_elsewhere f.text ≡ Some f.otherwise)
both-said document None is = tt
both-said document (Some found) is = found-said document found is

pub some-first : (document : List ℕ) (r : Option Found) → IsFirstOf document r → IfSome r (λ f. IsFirstOf document (Some f))
some-first document None is = tt
some-first document (Some found) is = is

-- the receiver takes one event more, or has no memory for it
pub told-on : {E : Type 0} (r : Result (Unit {0}) E) (event : Event) (events : List Event) (old new : Option Found) → seen old ≡ first_told events → OnOk r (seen new ≡ option_or (seen old) (told_of event)) → OnOk r (seen new ≡ first_told (events ++ event ∷ []))
told-on (Ok x) event events old new h is = is ∙ ap (λ o. option_or o (told_of event)) h ∙ sym (told-more events event)
told-on (Err e) event events old new h is = tt

pub told-still : {E : Type 0} (r : Result (Unit {0}) E) (events : List Event) (old new : Option Found) → seen old ≡ first_told events → OnErr r (new ≡ old) → OnErr r (seen new ≡ first_told events)
told-still (Ok x) events old new h is = tt
told-still (Err e) events old new h is = ap seen is ∙ h

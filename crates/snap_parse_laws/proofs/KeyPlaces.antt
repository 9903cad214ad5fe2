-- Which held token a possible key names, and where Key is put among them.
use Rattle.snap_parse_laws.proofs.Prelude.{◌≡◌, List, [], ◌∷◌, ◌++◌, Bool, true, false, refl, ◌∙◌, sym, ap, append_assoc, Some, None, Option, inl, inr, length, if◌then◌else◌, ◌&&◌, ℕ, Mark, Token, Place, mark_of, State, at, pushed, saved, in_flow, is_deeper, refused, value_of_key, Plain, plain_from, Quoted, innermost, SimpleKey}
use Rattle.snap_scan_tokens.specs.Quoted.{quoted_from, style_of}
use Rattle.snap_scan_tokens.specs.declared.info.ScanInfo.TheVariants as i
use Rattle.snap_scan_tokens.specs.declared.quoted.Quotes.{Quotes}
use Rattle.snap_scan_tokens.specs.declared.token.TScalarStyle.{TScalarStyle}
use Rattle.snap_scan_tokens.specs.declared.token.TScalarStyle.TheVariants as style
use Rattle.snap_scan_tokens.specs.declared.token.TokenType.TheVariants as t
use Rattle.snap_scan.specs.Fetching.{Leaves, told, plain, plain_read, quoted, quoted_read, read, read_key}
use Rattle.snap_scan.specs.Owed.{left_by}
use Rattle.snap_scan.specs.State.{allowing, inserted, is_innermost, is_key_owed}
use Rattle.snap_scan.specs.declared.kind.TokenKind.{TokenKind}
use Rattle.snap_parse_laws.proofs.Keys.{insert-at}
use Rattle.snap_parse_laws.specs.KeyPlaces.{NamesLast, MayStart, StandsBefore}

-- the key that is saved at a place
abbrev key_here : State → SimpleKey
key_here s = record { place = length s.held; required = in_flow s && is_innermost s.place.col s.columns; mark = mark_of s.place }

last-named : (s x u : State) (token : Token) (key : SimpleKey) → Some x ≡ Some u → x.held ≡ s.held ++ token ∷ [] → token.0 ≡ mark_of s.place → x.keys.key ≡ (saved s).keys.key
    → s.allowed ≡ true → u.keys.key ≡ Some key → NamesLast key u.held
last-named s x u token key same held mark keys allowed possible =
    let is : x ≡ u = cc in
    let h : State → List Token = λ v. v.held in
    let k : State → Option SimpleKey = λ v. v.keys.key in
    let e : (saved s).keys.key ≡ Some (key_here s) = rw allowed refl in
    let found : Some (key_here s) ≡ Some key = sym e ∙ sym keys ∙ ap k is ∙ possible in
    let named : key_here s ≡ key = cc in
    let p : SimpleKey → ℕ = λ v. v.place in
    let m : SimpleKey → Mark = λ v. v.mark in
    record { before = s.held; token = token; split = sym (ap h is) ∙ held; place = ap p (sym named); mark = ap m (sym named) ∙ sym mark }

plain-read : (s u : State) (p : Place) (key : SimpleKey) (b : Bool) (r : Option Plain) → s.allowed ≡ true
    → (if b then refused (mark_of s.place) i.S2 else plain_read r s) ≡ told p u → u.keys.key ≡ Some key → NamesLast key u.held
plain-read s u p key true r allowed is possible = absurd (cc)
plain-read s u p key false None allowed is possible = absurd (cc)
plain-read s u p key false (Some r) allowed is possible =
    let token = at (mark_of s.place) (t.Scalar style.Plain r.text) in
    last-named s (pushed token (record (saved s) { allowed = r.is_broken; place = r.place })) u token key (ap left_by is) refl refl refl allowed possible

quoted-read : (s u : State) (p : Place) (key : SimpleKey) (written : TScalarStyle) (b : Bool) (r : Option Quoted) → s.allowed ≡ true
    → (if b then refused (mark_of s.place) i.S2 else quoted_read written r s) ≡ told p u → u.keys.key ≡ Some key → NamesLast key u.held
quoted-read s u p key written true r allowed is possible = absurd (cc)
quoted-read s u p key written false None allowed is possible = absurd (cc)
quoted-read s u p key written false (Some r) allowed is possible =
    let token = at (mark_of s.place) (t.Scalar written r.text) in
    last-named s (pushed token (record (saved s) { allowed = false; place = r.place; adjacent = r.place.index })) u token key (ap left_by is) refl refl refl allowed possible

pub plain-named : (s u : State) (p : Place) (key : SimpleKey) → s.allowed ≡ true → plain s ≡ told p u → u.keys.key ≡ Some key → NamesLast key u.held
plain-named s u p key allowed is possible = plain-read s u p key (is_key_owed s) (plain_from (innermost s.columns) (in_flow s) s.place) allowed is possible

pub quoted-named : (quotes : Quotes) (s u : State) (p : Place) (key : SimpleKey) → s.allowed ≡ true → quoted quotes s ≡ told p u → u.keys.key ≡ Some key → NamesLast key u.held
quoted-named quotes s u p key allowed is possible = quoted-read s u p key (style_of quotes) (is_key_owed s) (quoted_from quotes s.place) allowed is possible

read-left : (kind : TokenKind) (s u : State) (key : SimpleKey) (b : Bool) → s.allowed ≡ true
    → Leaves (if b then refused (mark_of s.place) i.S2 else read kind (allowing false (saved s))) u → u.keys.key ≡ Some key → NamesLast key u.held
read-left kind s u key true allowed left possible = absurd left
read-left kind s u key false allowed left possible =
    let token = at (mark_of s.place) left.token in
    let some : State → Option State = λ v. Some v in
    last-named s (record (pushed token (allowing false (saved s))) { place = u.place }) u token key (ap some (sym left.leaves)) refl refl refl allowed possible

pub read-named : (kind : TokenKind) (s u : State) (key : SimpleKey) → s.allowed ≡ true → Leaves (read_key kind s) u → u.keys.key ≡ Some key → NamesLast key u.held
read-named kind s u key allowed left possible = read-left kind s u key (is_key_owed s) allowed left possible

stands : (key : SimpleKey) (before starts : List Token) (token : Token) (behind : List Token) (v : Token) (held : List Token) → MayStart starts
    → held ≡ before ++ (starts ++ at key.mark t.Key ∷ token ∷ behind) → StandsBefore key before token (held ++ v ∷ [])
stands key before starts token behind v held may is =
    let h : List Token → List Token = λ x. x ++ v ∷ [] in
    let g : List Token → List Token = λ x. before ++ x in
    record {
      starts = starts;
      may = may;
      rest = behind ++ v ∷ [];
      split = ap h is ∙ append_assoc before (starts ++ at key.mark t.Key ∷ token ∷ behind) (v ∷ []) ∙ ap g (append_assoc starts (at key.mark t.Key ∷ token ∷ behind) (v ∷ []));
    }

rolled-stands : (key : SimpleKey) (before : List Token) (token : Token) (behind : List Token) (v : Token) (mark : Mark) (u w : State) (b c : Bool)
    → u.held ≡ before ++ (at key.mark t.Key ∷ token ∷ behind) → w.held ≡ before ++ (at mark t.BlockMappingStart ∷ at key.mark t.Key ∷ token ∷ behind)
    → StandsBefore key before token ((if b then u else (if c then w else u)).held ++ v ∷ [])
rolled-stands key before token behind v mark u w true c here begun = stands key before [] token behind v u.held (inl refl) here
rolled-stands key before token behind v mark u w false true here begun =
    stands key before (at mark t.BlockMappingStart ∷ []) token behind v w.held (inr (mark, refl)) begun
rolled-stands key before token behind v mark u w false false here begun = stands key before [] token behind v u.held (inl refl) here

pub key-stands : (s : State) (key : SimpleKey) (before : List Token) (token : Token) (behind : List Token) → s.held ≡ before ++ token ∷ behind → key.place ≡ length before
    → StandsBefore key before token (value_of_key key s).held
key-stands s key before token behind same place =
    let k = at key.mark t.Key in
    let start = at (mark_of s.place) t.BlockMappingStart in
    let u : State = inserted key.place k s in
    let here : u.held ≡ before ++ (k ∷ token ∷ behind) = rw (same, place) (insert-at before (token ∷ behind) k) in
    let w : State = inserted key.place start (record u { columns = key.mark.col ∷ u.columns }) in
    let begun : w.held ≡ before ++ (start ∷ k ∷ token ∷ behind) = rw (here, place) (insert-at before (k ∷ token ∷ behind) start) in
    rolled-stands key before token behind _ (mark_of s.place) u w (in_flow u) (is_deeper key.mark.col u.columns) here begun

-- The text of a tag, one character further.
use Rattle.snap_scan_properties.proofs.Prelude.{◌≡◌, ◌≢◌, ℕ, ◌<◌, ◌==◌, ◌&&◌, List, [], ◌∷◌, ◌++◌, Bool, true, false, Option, Some, None, Result, Ok, Err, slice_index, refl, sym, ap, ◌∙◌, arith, subst, append-nil, append_assoc, if◌then◌else◌, IsScalar, encode_utf8, is_some, take_while, chars, IsUtf8, is_utf8, ne_eqb, both_ways, or_parts, or_left, or_right, and_parts, false_from_ne_true, IsUtf8-from_is_utf8, is_utf8-from_IsUtf8, IsUtf8-past_char, IsUtf8-append, IsUtf8-encode, chars_past_char, chars-nil, IsUtf8-nil, encode_ascii, ScanInfo, S17, S21, is_uri, is_alpha, Place, skipped, skip_from, skipped_while, passed, behind, passed-none, passed-first, hexadecimal, octets, escaped, spelled, before_octets, is_in_tag, text_of, placed, uri_from, some_uri_from, headed, Spells, SpellsNoCharacter, Found, found, ahead, ◌>>=◌, Refuses, is_nothing, ScanError, encode, encodes, scalar, scalars, low_scalar}
use Rattle.snap_scan_properties.proofs.Answered.{refuses-then, refuses-same}
use Rattle.snap_scan_properties.proofs.Taken.{run-true, run-false, passed-true, passed-false}
use Rattle.snap_scan_properties.proofs.Spelled.{uri-small, spells-same}
use Rattle.snap_content.proofs.Ends.{same_test}

-- a character before a text
utf8-behind : (c : ℕ) (bs : List ℕ) → IsScalar c → is_utf8 (encode c ++ bs) ≡ is_utf8 bs
utf8-behind c bs s =
    same_test (is_utf8 (encode c ++ bs)) (is_utf8 bs)
    (λ e. is_utf8-from_IsUtf8 bs (IsUtf8-past_char (encode c ++ bs) bs c (IsUtf8-from_is_utf8 (encode c ++ bs) e) refl))
    (λ e. is_utf8-from_IsUtf8 (encode c ++ bs) (IsUtf8-append (encode c) bs (IsUtf8-encode c s) (IsUtf8-from_is_utf8 bs e)))

abbrev decoded : Bool → List ℕ → Result (List ℕ) ScanInfo
decoded valid text = if valid then Ok text else Err S21

headed-one : (t : List ℕ) (c : ℕ) (bs : List ℕ) (r : Place) (b : Bool) → IsScalar c → is_utf8 bs ≡ b
    → headed (t ++ c ∷ []) (placed (decoded (is_utf8 bs) (chars bs)) r) ≡ headed t (placed (decoded (is_utf8 (encode c ++ bs)) (chars (encode c ++ bs))) r)
headed-one t c bs r true s e =
    let all : is_utf8 (encode c ++ bs) ≡ true = utf8-behind c bs s ∙ e in
    let text : chars (encode c ++ bs) ≡ c ∷ chars bs = chars_past_char (encode c ++ bs) bs c (IsUtf8-from_is_utf8 (encode c ++ bs) all) refl in
    let f : List ℕ → Result (Found (List ℕ)) ScanInfo = λ l. found l r in
    rw (e, all, text) (ap f (append_assoc t (c ∷ []) (chars bs)))
headed-one t c bs r false s e =
    let all : is_utf8 (encode c ++ bs) ≡ false = utf8-behind c bs s ∙ e in
    rw (e, all) refl

headed-octets : (t : List ℕ) (c : ℕ) (o : Option (List ℕ)) (r : Place) → IsScalar c
    → headed (t ++ c ∷ []) (placed (text_of o) r) ≡ headed t (placed (text_of (before_octets (encode c) o)) r)
headed-octets t c None r s = refl
headed-octets t c (Some bs) r s = headed-one t c bs r (is_utf8 bs) s refl

-- a text with one character more, at the place after its octets
pub headed-more : (t : List ℕ) (c : ℕ) (p q : Place) → IsScalar c → Spells p (encode_utf8 c) q → headed (t ++ c ∷ []) (uri_from q) ≡ headed t (uri_from p)
headed-more t c p q s spells =
    let f : Option (List ℕ) → Result (Found (List ℕ)) ScanInfo = λ o. headed t (placed (text_of o) (skipped_while is_in_tag q)) in
    let g : Place → Result (Found (List ℕ)) ScanInfo = λ r. headed t (placed (text_of (octets p.left)) r) in
    headed-octets t c (octets q.left) (skipped_while is_in_tag q) s ∙ ap f (sym spells.octets) ∙ ap g (sym spells.place)

octets-plain : (cs : List ℕ) (p : Place) → p.left ≡ cs → is_uri (slice_index cs 0) ≡ true → slice_index cs 0 ≢ 37
    → octets cs ≡ before_octets (slice_index cs 0 ∷ []) (octets (skip_from cs p).left)
octets-plain [] p is uri other = absurd (cc)
octets-plain (c ∷ cs) p is uri other = let sign : (c == 37) ≡ false = ne_eqb c 37 other in rw (sign, uri) refl

-- a character that stands for itself
pub spells-plain : (p : Place) → is_uri (ahead p) ≡ true → ahead p ≢ 37 → Spells p (encode_utf8 (ahead p)) (skipped p)
spells-plain p uri other =
    let small : ahead p < 128 = uri-small (ahead p) uri in
    let in-tag : is_in_tag (ahead p) ≡ true = or_right (ahead p == 37) (is_uri (ahead p)) uri in
    spells-same p (skipped p) (ahead p ∷ []) (encode_utf8 (ahead p)) (sym (encode_ascii (ahead p) small))
    (record { octets = octets-plain p.left p refl uri other; place = passed-first is_in_tag p.left p refl in-tag refl })

pub scalar-small : (c : ℕ) → c < 128 → IsScalar c
scalar-small c h = low_scalar c (omega arith)

pub headed-plain : (t : List ℕ) (p q : Place) → is_uri (ahead p) ≡ true → ahead p ≢ 37 → q ≡ skipped p → headed (t ++ ahead p ∷ []) (uri_from q) ≡ headed t (uri_from p)
headed-plain t p q uri other is =
    let P : Place → Type 0 = λ r. headed (t ++ ahead p ∷ []) (uri_from r) ≡ headed t (uri_from p) in
    subst P (sym is) (headed-more t (ahead p) p (skipped p) (scalar-small (ahead p) (uri-small (ahead p) uri)) (spells-plain p uri other))

octets-end : (cs : List ℕ) → is_in_tag (slice_index cs 0) ≡ false → octets cs ≡ Some []
octets-end [] none = refl
octets-end (c ∷ cs) none = let h = or_parts (c == 37) (is_uri c) none in rw (h.0, h.1) refl

uri-end : (p : Place) → is_in_tag (ahead p) ≡ false → uri_from p ≡ found [] p
uri-end p none =
    let valid : is_utf8 [] ≡ true = is_utf8-from_IsUtf8 [] IsUtf8-nil in
    rw (octets-end p.left none, valid, chars-nil, passed-none is_in_tag p.left p none) refl

-- the text ends at what may not stand in a tag
pub headed-end : (t : List ℕ) (p : Place) → is_in_tag (ahead p) ≡ false → headed t (uri_from p) ≡ found t p
headed-end t p none =
    let f : List ℕ → Result (Found (List ℕ)) ScanInfo = λ l. found l p in
    ap (headed t) (uri-end p none) ∙ ap f (append-nil t)

some-before : (x : ℕ) (o : Option (List ℕ)) → before_octets (x ∷ []) o ≡ Some [] → ⊥
some-before x None e = absurd (cc)
some-before x (Some rest) e = absurd (cc)

some-escaped : (cs : List ℕ) → escaped cs ≡ Some [] → ⊥
some-escaped [] e = absurd (cc)
some-escaped (x ∷ []) e = absurd (cc)
some-escaped (x ∷ y ∷ cs) e =
    let step : (b : Bool) → (is_some (hexadecimal x) && is_some (hexadecimal y)) ≡ b → ⊥ = λ b. elim b as (λ v. (is_some (hexadecimal x) && is_some (hexadecimal y)) ≡ v → ⊥) [
      | true ↦ λ is. some-before (spelled x y) (octets cs) (rw is at e)
      | false ↦ λ is. let none : None ≡ Some [] = rw is at e in absurd (cc)
    ] in
    step (is_some (hexadecimal x) && is_some (hexadecimal y)) refl

-- a percent sign spells an octet, or nothing
some-octets : (cs : List ℕ) → slice_index cs 0 ≡ 37 → octets cs ≡ Some [] → ⊥
some-octets [] sign e = absurd (omega arith)
some-octets (c ∷ cs) sign e = some-escaped cs (rw sign at e)

no-text : (bs cs : List ℕ) → (bs ≡ [] → ⊥) → ((c : ℕ) (rest : List ℕ) → IsScalar c → bs ≢ encode_utf8 c ++ rest) → scalars cs ≡ true → encodes cs ≡ bs → ⊥
no-text bs [] some none valid is = some (sym is)
no-text bs (c ∷ cs) some none valid is = none c (encodes cs) (and_parts (scalar c) (scalars cs) valid).0 (sym is)

refused-octets : (o : Option (List ℕ)) → (o ≡ Some [] → ⊥) → ((c : ℕ) (rest : List ℕ) → IsScalar c → o ≢ Some (encode_utf8 c ++ rest)) → text_of o ≡ Err S21
refused-octets None some none = refl
refused-octets (Some bs) some none =
    let wrong : is_utf8 bs ≡ true → ⊥ = λ e.
    let text : IsUtf8 bs = IsUtf8-from_is_utf8 bs e in
    no-text bs text.0 (λ is. some (ap Some is)) (λ c rest scalar is. none c rest scalar (ap Some is)) text.1.0 text.1.1 in
    rw (false_from_ne_true (is_utf8 bs) wrong) refl

-- no text stands where no character's octets do
pub headed-refused : (t : List ℕ) (p : Place) → ahead p ≡ 37 → SpellsNoCharacter p → headed t (uri_from p) ≡ Err S21
headed-refused t p sign none =
    let wrong : text_of (octets p.left) ≡ Err S21 = refused-octets (octets p.left) (some-octets p.left sign) none in
    rw wrong refl

-- letters stand for themselves
alpha-uri : (c : ℕ) → is_alpha c ≡ true → (is_uri c ≡ true) × (c ≢ 37)
alpha-uri c is = (or_left (is_alpha c) _ is, λ e. both_ways (is_alpha c) (ap is_alpha e) is)

headed-run : (cs : List ℕ) (p : Place) (t : List ℕ) → p.left ≡ cs
    → headed (t ++ take_while is_alpha cs) (uri_from (passed is_alpha cs p)) ≡ headed t (uri_from p)
headed-run [] p t is = let f : List ℕ → Result (Found (List ℕ)) ScanInfo = λ l. headed l (uri_from p) in ap f (append-nil t)
headed-run (c ∷ cs) p t is =
    let step : (b : Bool) → is_alpha c ≡ b → headed (t ++ take_while is_alpha (c ∷ cs)) (uri_from (passed is_alpha (c ∷ cs) p)) ≡ headed t (uri_from p) = λ b. elim b as (λ v. is_alpha c ≡ v → headed (t ++ take_while is_alpha (c ∷ cs)) (uri_from (passed is_alpha (c ∷ cs) p)) ≡ headed t (uri_from p)) [
      | true ↦ λ e.
          let first : ahead p ≡ c = ap (λ l. slice_index l 0) is in
          let step-to : behind c cs p ≡ skipped p = ap (λ l. skip_from l p) (sym is) in
          let may = alpha-uri c e in
          let text : t ++ take_while is_alpha (c ∷ cs) ≡ (t ++ c ∷ []) ++ take_while is_alpha cs = ap (λ l. t ++ l) (run-true is_alpha c cs e) ∙ sym (append_assoc t (c ∷ []) (take_while is_alpha cs)) in
          let f : List ℕ → Result (Found (List ℕ)) ScanInfo = λ l. headed l (uri_from (passed is_alpha (c ∷ cs) p)) in
          let g : Place → Result (Found (List ℕ)) ScanInfo = λ r. headed ((t ++ c ∷ []) ++ take_while is_alpha cs) (uri_from r) in
          let one : headed (t ++ ahead p ∷ []) (uri_from (behind c cs p)) ≡ headed t (uri_from p) =
          headed-plain t p (behind c cs p) (ap is_uri first ∙ may.0) (λ sign. may.1 (sym first ∙ sign)) step-to in
          let h : ℕ → Result (Found (List ℕ)) ScanInfo = λ n. headed (t ++ n ∷ []) (uri_from (behind c cs p)) in
          ap f text ∙ ap g (passed-true is_alpha c cs p e) ∙ headed-run cs (behind c cs p) (t ++ c ∷ []) refl ∙ ap h (sym first) ∙ one
      | false ↦ λ e.
          let f : List ℕ → Result (Found (List ℕ)) ScanInfo = λ l. headed l (uri_from (passed is_alpha (c ∷ cs) p)) in
          let g : Place → Result (Found (List ℕ)) ScanInfo = λ r. headed t (uri_from r) in
          ap f (ap (λ l. t ++ l) (run-false is_alpha c cs e) ∙ append-nil t) ∙ ap g (passed-false is_alpha c cs p e)
    ] in
    step (is_alpha c) refl

headed-nil : (r : Result (Found (List ℕ)) ScanInfo) → headed [] r ≡ r
headed-nil (Ok text) = refl
headed-nil (Err info) = refl

-- what begins with letters is read from its first one
pub headed-alpha : (p : Place) → headed (take_while is_alpha p.left) (uri_from (skipped_while is_alpha p)) ≡ uri_from p
headed-alpha p = headed-run p.left p [] refl ∙ headed-nil (uri_from p)

-- letters, and the text after them
pub headed-name : (p q : Place) (name : List ℕ) → name ≡ take_while is_alpha p.left → q ≡ skipped_while is_alpha p → headed name (uri_from q) ≡ uri_from p
headed-name p q name text place =
    let f : List ℕ → Result (Found (List ℕ)) ScanInfo = λ l. headed l (uri_from q) in
    let g : Place → Result (Found (List ℕ)) ScanInfo = λ r. headed (take_while is_alpha p.left) (uri_from r) in
    ap f text ∙ ap g place ∙ headed-alpha p

headed-none : (head : List ℕ) (r : Result (Found (List ℕ)) ScanInfo) → head ≡ [] → headed head r ≡ r
headed-none head r none = let f : List ℕ → Result (Found (List ℕ)) ScanInfo = λ l. headed l r in ap f none ∙ headed-nil r

abbrev some : Found (List ℕ) → Result (Found (List ℕ)) ScanInfo
some text = if is_nothing text.value then Err S17 else Ok text

pub some-refused : (p : Place) (head : List ℕ) (e : ScanError) → head ≡ [] → Refuses (headed head (uri_from p)) e → Refuses (some_uri_from p) e
some-refused p head e none h = refuses-then (uri_from p) some e (refuses-same (headed head (uri_from p)) (uri_from p) e (headed-none head (uri_from p) none) h)

some-of : (p q : Place) (head text : List ℕ) → head ≡ [] → headed head (uri_from p) ≡ found text q → some_uri_from p ≡ some (record { value = text; place = q })
some-of p q head text none is =
    let f : Result (Found (List ℕ)) ScanInfo → Result (Found (List ℕ)) ScanInfo = λ r. r >>= some in
    ap f (sym (headed-none head (uri_from p) none) ∙ is)

pub some-empty : (p q : Place) (head text : List ℕ) → head ≡ [] → headed head (uri_from p) ≡ found text q → is_nothing text ≡ true → some_uri_from p ≡ Err S17
some-empty p q head text none is nil = some-of p q head text none is ∙ rw nil refl

pub some-read : (p q : Place) (head text : List ℕ) → head ≡ [] → headed head (uri_from p) ≡ found text q → is_nothing text ≡ false → some_uri_from p ≡ found text q
some-read p q head text none is nil = some-of p q head text none is ∙ rw nil refl

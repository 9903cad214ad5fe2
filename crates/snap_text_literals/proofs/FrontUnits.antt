-- What a unit takes of a source, and that it takes the same of another that begins so.
use Rattle.snap_text_literals.proofs.Prelude.{◌≡◌, ◌==◌, ℕ, ◌+◌, ◌*◌, List, [], ◌∷◌, ◌++◌, Bool, true, false, ◌||◌, ◌&&◌, cond, nat_lt, Option, Some, None, refl, sym, ap, ◌∙◌, append_assoc, some_same, digit_value, scalar, unit_of, unit_given, hexadecimal, lettered, braced, unicode, escape, Unit_read, past_blanks}

-- of the source a front was used; in front of any text that goes on with the same character it is used as well
pub record Takes (f : List ℕ → Unit_read) (source given rest : List ℕ) : Type 0 where
  pub used : List ℕ
  pub is : source ≡ used ++ rest
  pub same : (c : ℕ) (more other : List ℕ) → rest ≡ c ∷ more → f (used ++ c ∷ other) ≡ Some (given, c ∷ other)

takes_one : (f : List ℕ → Unit_read) (c : ℕ) (cs given rest : List ℕ) (g : List ℕ) → ((y : List ℕ) → f (c ∷ y) ≡ Some (g, y)) → f (c ∷ cs) ≡ Some (given, rest) → Takes f (c ∷ cs) given rest
takes_one f c cs given rest g e h =
    let pair : (g, cs) ≡ (given, rest) = some_same (g, cs) (given, rest) (sym (e cs) ∙ h) in
    let front : g ≡ given = ap (λ (p : List ℕ × List ℕ). p.0) pair in
    let back : cs ≡ rest = ap (λ (p : List ℕ × List ℕ). p.1) pair in
    record { used = c ∷ []; is = ap (λ t. c ∷ t) back; same = λ d more other k. e (d ∷ other) ∙ ap (λ x. Some (x, d ∷ other)) front }

takes_onto : (f g : List ℕ → Unit_read) (c : ℕ) (cs given rest : List ℕ) → ((y : List ℕ) → f (c ∷ y) ≡ g y) → (g cs ≡ Some (given, rest) → Takes g cs given rest) → f (c ∷ cs) ≡ Some (given, rest) → Takes f (c ∷ cs) given rest
takes_onto f g c cs given rest e next h =
    let t = next (sym (e cs) ∙ h) in
    record { used = c ∷ t.used; is = ap (λ y. c ∷ y) t.is; same = λ d more other k. e (t.used ++ d ∷ other) ∙ t.same d more other k }

takes_none : (f : List ℕ → Unit_read) (source given rest : List ℕ) → f source ≡ None → f source ≡ Some (given, rest) → Takes f source given rest
takes_none f source given rest n h = absurd (let e : None ≡ Some (given, rest) = sym n ∙ h in cc)

takes_hexadecimal : (source given rest : List ℕ) → hexadecimal source ≡ Some (given, rest) → Takes hexadecimal source given rest
takes_hexadecimal [] given rest h = takes_none hexadecimal [] given rest refl h
takes_hexadecimal (a ∷ []) given rest h = takes_none hexadecimal (a ∷ []) given rest refl h
takes_hexadecimal (a ∷ b ∷ cs) given rest h = by (nat_lt (digit_value a) 8 && nat_lt (digit_value b) 16) refl
  where
    by : (t : Bool) → (nat_lt (digit_value a) 8 && nat_lt (digit_value b) 16) ≡ t → Takes hexadecimal (a ∷ b ∷ cs) given rest
    by true e = takes_onto hexadecimal (λ y. hexadecimal (a ∷ y)) a (b ∷ cs) given rest (λ y. refl)
        (λ k. takes_one (λ y. hexadecimal (a ∷ y)) b cs given rest _ (λ y. ap (λ t. cond t (Some ((digit_value a * 16 + digit_value b) ∷ [], y)) None) e) k) h
    by false e = takes_none hexadecimal (a ∷ b ∷ cs) given rest (ap (λ t. cond {A = Unit_read} t (Some ((digit_value a * 16 + digit_value b) ∷ [], cs)) None) e) h

takes_braced : (count value : ℕ) (source given rest : List ℕ) → braced count value source ≡ Some (given, rest) → Takes (braced count value) source given rest
takes_braced count value [] given rest h = takes_none (braced count value) [] given rest refl h
takes_braced count value (c ∷ cs) given rest h =
    by (c == 125) (nat_lt 0 count && scalar value) (nat_lt count 6 && nat_lt (digit_value c) 16) refl refl refl (takes_braced (count + 1) (value * 16 + digit_value c) cs given rest)
  where
    whole : (a b d : Bool) → (c == 125) ≡ a → (nat_lt 0 count && scalar value) ≡ b → (nat_lt count 6 && nat_lt (digit_value c) 16) ≡ d → (y : List ℕ)
        → braced count value (c ∷ y) ≡ cond a (cond b (Some (value ∷ [], y)) None) (cond d (braced (count + 1) (value * 16 + digit_value c) y) None)
    whole a b d e f g y = rw (e, f, g)

    by : (a b d : Bool) → (c == 125) ≡ a → (nat_lt 0 count && scalar value) ≡ b → (nat_lt count 6 && nat_lt (digit_value c) 16) ≡ d
        → (braced (count + 1) (value * 16 + digit_value c) cs ≡ Some (given, rest) → Takes (braced (count + 1) (value * 16 + digit_value c)) cs given rest) → Takes (braced count value) (c ∷ cs) given rest
    by true true d e f g next = takes_one (braced count value) c cs given rest (value ∷ []) (whole true true d e f g) h
    by true false d e f g next = takes_none (braced count value) (c ∷ cs) given rest (whole true false d e f g cs) h
    by false b true e f g next = takes_onto (braced count value) (braced (count + 1) (value * 16 + digit_value c)) c cs given rest (whole false b true e f g) next h
    by false b false e f g next = takes_none (braced count value) (c ∷ cs) given rest (whole false b false e f g cs) h

takes_unicode : (source given rest : List ℕ) → unicode source ≡ Some (given, rest) → Takes unicode source given rest
takes_unicode [] given rest h = takes_none unicode [] given rest refl h
takes_unicode (c ∷ cs) given rest h = by (c == 123) refl
  where
    by : (b : Bool) → (c == 123) ≡ b → Takes unicode (c ∷ cs) given rest
    by true e = takes_onto unicode (braced 0 0) c cs given rest (λ y. ap (λ t. cond t (braced 0 0 y) None) e) (takes_braced 0 0 cs given rest) h
    by false e = takes_none unicode (c ∷ cs) given rest (ap (λ t. cond t (braced 0 0 cs) None) e) h

-- an escaped line's end takes the blanks behind it: the text goes on with what is none
pub record PastBlanks (source : List ℕ) : Type 0 where
  pub used : List ℕ
  pub is : source ≡ used ++ past_blanks source
  pub same : (c : ℕ) (more other : List ℕ) → past_blanks source ≡ c ∷ more → past_blanks (used ++ c ∷ other) ≡ c ∷ other

blanks_used : (source : List ℕ) → PastBlanks source
blanks_used [] = record { used = []; is = refl; same = λ c more other e. absurd (cc) }
blanks_used (c ∷ cs) = by (c == 32 || c == 9 || c == 10) refl (blanks_used cs)
  where
    by : (b : Bool) → (c == 32 || c == 9 || c == 10) ≡ b → PastBlanks cs → PastBlanks (c ∷ cs)
    by true e later =
        let skips : (y : List ℕ) → past_blanks (c ∷ y) ≡ past_blanks y = λ y. ap (λ t. cond t (past_blanks y) (c ∷ y)) e in
        record {
          used = c ∷ later.used;
          is = ap (λ t. c ∷ t) later.is ∙ ap (λ t. (c ∷ later.used) ++ t) (sym (skips cs));
          same = λ d more other k. skips (later.used ++ d ∷ other) ∙ later.same d more other (sym (skips cs) ∙ k);
        }
    by false e later =
        let stays : (y : List ℕ) → past_blanks (c ∷ y) ≡ c ∷ y = λ y. ap (λ t. cond t (past_blanks y) (c ∷ y)) e in
        record {
          used = [];
          is = sym (stays cs);
          same = λ d more other k.
              let first : c ≡ d = (let both : c ∷ cs ≡ d ∷ more = sym (stays cs) ∙ k in cc) in
              ap (λ x. past_blanks (x ∷ other)) (sym first) ∙ stays other ∙ ap (λ x. x ∷ other) first;
        }

abbrev past_end_line : List ℕ → Unit_read
past_end_line cs = Some ([], past_blanks cs)

takes_blanks : (source given rest : List ℕ) → past_end_line source ≡ Some (given, rest) → Takes past_end_line source given rest
takes_blanks source given rest h =
    let b = blanks_used source in
    let pair : ([], past_blanks source) ≡ (given, rest) = some_same ([], past_blanks source) (given, rest) h in
    let front : [] ≡ given = ap (λ (p : List ℕ × List ℕ). p.0) pair in
    let back : past_blanks source ≡ rest = ap (λ (p : List ℕ × List ℕ). p.1) pair in
    record {
      used = b.used;
      is = b.is ∙ ap (λ t. b.used ++ t) back;
      same = λ c more other k. ap (λ t. Some ([], t)) (b.same c more other (back ∙ k)) ∙ ap (λ x. Some (x, c ∷ other)) front;
    }

takes_letter : (o : Option ℕ) (c : ℕ) (cs given rest : List ℕ) → lettered c ≡ o → (f : List ℕ → Unit_read) → ((y : List ℕ) → f (c ∷ y) ≡ unit_given (lettered c) y) → f (c ∷ cs) ≡ Some (given, rest) → Takes f (c ∷ cs) given rest
takes_letter None c cs given rest e f is h = takes_none f (c ∷ cs) given rest (is cs ∙ ap (λ o. unit_given o cs) e) h
takes_letter (Some d) c cs given rest e f is h = takes_one f c cs given rest (d ∷ []) (λ y. is y ∙ ap (λ o. unit_given o y) e) h

takes_escape : (source given rest : List ℕ) → escape source ≡ Some (given, rest) → Takes escape source given rest
takes_escape [] given rest h = takes_none escape [] given rest refl h
takes_escape (c ∷ cs) given rest h = by (c == 120) (c == 117) (c == 10) refl refl refl
  where
    whole : (a b d : Bool) → (c == 120) ≡ a → (c == 117) ≡ b → (c == 10) ≡ d → (y : List ℕ)
        → escape (c ∷ y) ≡ cond a (hexadecimal y) (cond b (unicode y) (cond d (Some ([], past_blanks y)) (unit_given (lettered c) y)))
    whole a b d e f g y = rw (e, f, g)

    by : (a b d : Bool) → (c == 120) ≡ a → (c == 117) ≡ b → (c == 10) ≡ d → Takes escape (c ∷ cs) given rest
    by true b d e f g = takes_onto escape hexadecimal c cs given rest (whole true b d e f g) (takes_hexadecimal cs given rest) h
    by false true d e f g = takes_onto escape unicode c cs given rest (whole false true d e f g) (takes_unicode cs given rest) h
    by false false true e f g = takes_onto escape past_end_line c cs given rest (whole false false true e f g) (takes_blanks cs given rest) h
    by false false false e f g = takes_letter (lettered c) c cs given rest refl escape (whole false false false e f g) h

pub takes_unit : (source given rest : List ℕ) → unit_of source ≡ Some (given, rest) → Takes unit_of source given rest
takes_unit [] given rest h = takes_none unit_of [] given rest refl h
takes_unit (c ∷ cs) given rest h = by (c == 92) (c == 34 || c == 13) refl refl
  where
    whole : (a b : Bool) → (c == 92) ≡ a → (c == 34 || c == 13) ≡ b → (y : List ℕ) → unit_of (c ∷ y) ≡ cond a (escape y) (cond b None (Some (c ∷ [], y)))
    whole a b e f y = rw (e, f)

    by : (a b : Bool) → (c == 92) ≡ a → (c == 34 || c == 13) ≡ b → Takes unit_of (c ∷ cs) given rest
    by true b e f = takes_onto unit_of escape c cs given rest (whole true b e f) (takes_escape cs given rest) h
    by false true e f = takes_none unit_of (c ∷ cs) given rest (whole false true e f cs) h
    by false false e f = takes_one unit_of c cs given rest (c ∷ []) (whole false false e f) h

-- The normal form of an inline text, line by line of its trimmed text.
use Rattle.snap_text_literals.proofs.Prelude.{◌≡◌, ◌==◌, ℕ, zero, suc, ◌-◌, ◌≤◌, List, [], ◌∷◌, ◌++◌, Bool, true, false, ◌||◌, ◌&&◌, not, cond, length, nat_lt, refl, sym, ap, ◌∙◌, arith, append_assoc, append-nil, subst, inl, inr, ◌⊎◌, or_parts, eqb-true, ltb-false, is_whitespace, len_utf8, list_any, list_all, flat_map, ends_badly, Lacks, onto, lines, without_return, begins_line_end, lines-line, lines-unbroken, lead, shortest, indentation_of, from_byte, behind_end, joined_from, is_short, inline_normal, inline_width, written_lines, written, IsUnbroken, IsLineThen, without_returns, before_return, before_trimmed, trimmed, unreturned, normal, is_indent, line_parts, both_second, both_first, cond_both, or_left, or_right, list_any-append, list_all-append, is_line_end}
use Rattle.snap_text_literals.proofs.Free.{AreFree, any-append, blank_char, unbroken-parts}
use Rattle.snap_text_literals.proofs.Leads.{from_byte-zero, from_byte-either, cut-indent, trimmed-space, filled}
use Rattle.snap_text_literals.proofs.LineParts.{pieces-line, pieces-unbroken}
use Rattle.snap_text_literals.proofs.Returns.{before_return-push, unreturned-line, unreturned-unbroken}
use Rattle.snap_text_literals.proofs.Trimming.{trimmed-well, well-trimmed, trimmed-behind}
use Rattle.snap_text_literals.proofs.WellEnded.{IsWell, EndsWell, whole, well-pieces, some-pieces, whole-pieces}

pub written-line : (byte : ℕ) (text line more : List ℕ) → IsLineThen text line more → written byte text ≡ without_returns (from_byte byte line) ++ 10 ∷ written byte more
written-line byte text line more h = let s = some-pieces more in rw (h.is, pieces-line line more h.unbroken, s.2)

pub written-last : (byte : ℕ) (text : List ℕ) → IsUnbroken text → written byte text ≡ from_byte byte text
written-last byte text h = ap (written_lines byte) (pieces-unbroken text h)

-- from byte 0 on, nothing but the returns is left out
lines-zero : (ls : List (List ℕ)) → AreFree is_line_end ls → written_lines 0 ls ≡ unreturned (whole ls)
lines-zero [] h = refl
lines-zero (l ∷ []) h = from_byte-zero l ∙ sym (ap unreturned (append-nil l) ∙ unreturned-unbroken l h.0)
lines-zero (l ∷ m ∷ ls) h =
    ap (λ t. without_returns t ++ 10 ∷ written_lines 0 (m ∷ ls)) (from_byte-zero l) ∙ ap (λ t. without_returns l ++ 10 ∷ t) (lines-zero (m ∷ ls) h.1)
    ∙ sym (unreturned-line l (whole (m ∷ ls)) h.0)

pub written-zero : (text : List ℕ) → written 0 text ≡ unreturned text
written-zero text = lines-zero (line_parts text) (unbroken-parts text) ∙ ap unreturned (whole-pieces text)

-- a return at the end of a line counts for nothing, wherever the line is cut
abbrev IsSameBut : List ℕ → List ℕ → Type 0
IsSameBut long short = without_returns long ≡ without_returns short

cut-return : (n : ℕ) (cs : List ℕ) → IsSameBut (from_byte n (cs ++ 13 ∷ [])) (from_byte n cs)
cut-return n [] = from_byte-either (λ t. without_returns t ≡ []) n 13 [] refl refl refl
cut-return n (c ∷ cs) = by (n == 0) (nat_lt n (len_utf8 c)) (cut-return (n - len_utf8 c) cs)
  where
    by : (a b : Bool) → IsSameBut (from_byte (n - len_utf8 c) (cs ++ 13 ∷ [])) (from_byte (n - len_utf8 c) cs)
        → IsSameBut (cond a (c ∷ (cs ++ 13 ∷ [])) (cond b [] (from_byte (n - len_utf8 c) (cs ++ 13 ∷ [])))) (cond a (c ∷ cs) (cond b [] (from_byte (n - len_utf8 c) cs)))
    by true b h = ap (before_return c) (before_return-push cs)
    by false true h = refl
    by false false h = h

-- a line loses nothing, or one return
chop-cases : (P : List ℕ → List ℕ → Type 0) → ((cs : List ℕ) → P cs cs) → ((cs : List ℕ) → P (cs ++ 13 ∷ []) cs) → (line : List ℕ) → P line (without_return line)
chop-cases P same less [] = same []
chop-cases P same less (c ∷ []) =
    cond_both (c == 13) [] (c ∷ []) (P (c ∷ [])) (λ e. let is : 13 ≡ c = sym (eqb-true c 13 e) in subst (λ d. P (d ∷ []) []) is (less [])) (λ _. same (c ∷ []))
chop-cases P same less (c ∷ d ∷ ds) = chop-cases (λ long short. P (c ∷ long) (c ∷ short)) (λ cs. same (c ∷ cs)) (λ cs. less (c ∷ cs)) (d ∷ ds)

cut-chopped : (n : ℕ) (line : List ℕ) → IsSameBut (from_byte n line) (from_byte n (without_return line))
cut-chopped n = chop-cases (λ long short. IsSameBut (from_byte n long) (from_byte n short)) (λ cs. refl) (cut-return n)

-- what is cut holds no line end where the line holds none
cut-lacks : (n : ℕ) (line : List ℕ) → Lacks 10 line → Lacks 10 (from_byte n line)
cut-lacks n [] h = refl
cut-lacks n (c ∷ cs) h =
    from_byte-either (Lacks 10) n c cs h refl (cut-lacks (n - len_utf8 c) cs (or_parts (c == 10) (list_any (λ d. d == 10) cs) h).1)

chop-lacks : (line : List ℕ) → Lacks 10 line → Lacks 10 (without_return line)
chop-lacks =
    let is_end : ℕ → Bool = λ d. d == 10 in
    chop-cases (λ long short. Lacks 10 long → Lacks 10 short) (λ cs h. h) (λ cs h. or_left (list_any is_end cs) _ (sym (list_any-append is_end cs (13 ∷ [])) ∙ h))

-- white space stays white space, wherever it is cut
white-cut : (n : ℕ) (cs : List ℕ) → list_all is_whitespace cs ≡ true → list_all is_whitespace (from_byte n cs) ≡ true
white-cut n [] h = refl
white-cut n (c ∷ cs) h =
    from_byte-either (λ t. list_all is_whitespace t ≡ true) n c cs h refl (white-cut (n - len_utf8 c) cs (both_second (is_whitespace c) (list_all is_whitespace cs) h))

abbrev AreWhite : List (List ℕ) → Type 0
AreWhite [] = Unit {0}
AreWhite (line ∷ rest) = (list_all is_whitespace line ≡ true) × AreWhite rest

white_onto : (c : ℕ) (ls : List (List ℕ)) → is_whitespace c ≡ true → AreWhite ls → AreWhite (onto c ls)
white_onto c [] h k = (ap (λ b. b && true) h, tt)
white_onto c (l ∷ ls) h k = (ap (λ b. b && list_all is_whitespace l) h ∙ k.0, k.1)

white-lines : (cs : List ℕ) → list_all is_whitespace cs ≡ true → AreWhite (lines cs)
white-lines [] h = tt
white-lines (c ∷ cs) h =
    let later = white-lines cs (both_second (is_whitespace c) (list_all is_whitespace cs) h) in
    cond_both (c == 10) _ _ AreWhite (λ _. (refl, later)) (λ _. cond_both (c == 13 && begins_line_end cs) _ _ AreWhite (λ _. later)
    (λ _. white_onto c (lines cs) (both_first (is_whitespace c) (list_all is_whitespace cs) h) later))

white-append : (xs ys : List ℕ) → list_all is_whitespace xs ≡ true → list_all is_whitespace ys ≡ true → list_all is_whitespace (xs ++ ys) ≡ true
white-append xs ys h k = rw (list_all-append is_whitespace xs ys, h, k)

white-joined : (n : ℕ) (ls : List (List ℕ)) → AreWhite ls → list_all is_whitespace (flat_map (behind_end n) ls) ≡ true
white-joined n [] h = refl
white-joined n (l ∷ ls) h = white-append (10 ∷ from_byte n l) (flat_map (behind_end n) ls) (white-cut n l h.0) (white-joined n ls h.1)

-- a line whose lead has so many bytes is cut within it
record CutsWell (n : ℕ) (line : List ℕ) : Type 0 where
  well : IsWell (from_byte n line)
  more : (end : List ℕ) → from_byte n (line ++ end) ≡ from_byte n line ++ end

cut-well : (n : ℕ) (line : List ℕ) → n ≤ length (lead line) → IsWell line → CutsWell n line
cut-well zero line le w = record { well = subst (λ t. IsWell t) (sym (from_byte-zero line)) w; more = λ end. from_byte-zero (line ++ end) ∙ ap (λ t. t ++ end) (sym (from_byte-zero line)) }
cut-well (suc n) [] le w = absurd (omega (arith, le))
cut-well (suc n) (c ∷ []) le w = absurd (alone (is_indent c) refl)
  where
    alone : (b : Bool) → is_indent c ≡ b → ⊥
    alone true e = let h : ends_badly (c ∷ []) ≡ false = w.well in let k : true ≡ false = sym (blank_char is_whitespace true c e refl refl) ∙ h in cc k
    alone false e = omega (arith, le, ap (λ b. length (cond b (c ∷ []) [])) e)
cut-well (suc n) (c ∷ d ∷ ds) le w = by (is_indent c) refl (λ k. cut-well n (d ∷ ds) k (record { first = d; more = ds; is = refl; well = w.well }))
  where
    by : (b : Bool) → is_indent c ≡ b → (n ≤ length (lead (d ∷ ds)) → CutsWell n (d ∷ ds)) → CutsWell (suc n) (c ∷ d ∷ ds)
    by false e next = absurd (omega (arith, le, ap (λ b. length (cond b (c ∷ lead (d ∷ ds)) [])) e))
    by true e next =
        let here = next (omega (arith, le, ap (λ b. length (cond b (c ∷ lead (d ∷ ds)) [])) e)) in
        let step : (end : List ℕ) → from_byte (suc n) (c ∷ d ∷ (ds ++ end)) ≡ from_byte n (d ∷ (ds ++ end)) = λ end. cut-indent n c (d ∷ (ds ++ end)) e in
        record {
          well = subst (λ t. IsWell t) (sym (cut-indent n c (d ∷ ds) e)) here.well;
          more = λ end. step end ∙ here.more end ∙ ap (λ t. t ++ end) (sym (cut-indent n c (d ∷ ds) e));
        }

abbrev last_of : List (List ℕ) → List ℕ
last_of [] = []
last_of (line ∷ []) = line
last_of (line ∷ next ∷ rest) = last_of (next ∷ rest)

least-last : (found : Bool) (best : List ℕ) (ls : List (List ℕ)) → EndsWell ls → length (shortest found best ls) ≤ length (lead (last_of ls))
least-last found best [] w = absurd w
least-last found best ([] ∷ []) w = let e = w.is in absurd (cc e)
least-last found best ((c ∷ cs) ∷ []) w =
    let here : List ℕ = lead (c ∷ cs) in
    cond_both (not found || nat_lt (length here) (length best)) here best (λ t. length t ≤ length here) (λ _. omega arith)
    (λ e. ltb-false _ _ (or_right (not found) _ e))
least-last found best ([] ∷ m ∷ ls) w = least-last found best (m ∷ ls) w
least-last found best ((c ∷ cs) ∷ m ∷ ls) w =
    cond_both (not found || nat_lt (length (lead (c ∷ cs))) (length best)) _ _ (λ t. length t ≤ length (lead (last_of (m ∷ ls))))
    (λ _. least-last true (lead (c ∷ cs)) (m ∷ ls) w) (λ _. least-last found best (m ∷ ls) w)

-- white space after the last line
first_end : (ws : List ℕ) → Lacks 10 ws ⊎ ((before : List ℕ) × (after : List ℕ) × (ws ≡ before ++ 10 ∷ after) × Lacks 10 before)
first_end [] = inl refl
first_end (c ∷ cs) = by (c == 10) refl (first_end cs)
  where
    on : (c == 10) ≡ false → Lacks 10 cs ⊎ ((before : List ℕ) × (after : List ℕ) × (cs ≡ before ++ 10 ∷ after) × Lacks 10 before)
        → Lacks 10 (c ∷ cs) ⊎ ((before : List ℕ) × (after : List ℕ) × (c ∷ cs ≡ before ++ 10 ∷ after) × Lacks 10 before)
    on e (inl none) = inl (ap (λ b. b || list_any (λ d. d == 10) cs) e ∙ none)
    on e (inr (before, after, is, none)) = inr (c ∷ before, after, ap (λ t. c ∷ t) is, ap (λ b. b || list_any (λ d. d == 10) before) e ∙ none)

    by : (b : Bool) → (c == 10) ≡ b → Lacks 10 cs ⊎ ((before : List ℕ) × (after : List ℕ) × (cs ≡ before ++ 10 ∷ after) × Lacks 10 before)
        → Lacks 10 (c ∷ cs) ⊎ ((before : List ℕ) × (after : List ℕ) × (c ∷ cs ≡ before ++ 10 ∷ after) × Lacks 10 before)
    by true e more = inr ([], cs, ap (λ d. d ∷ cs) (eqb-true c 10 e), refl)
    by false e more = on e more

white-back : (before after : List ℕ) → list_all is_whitespace (before ++ 10 ∷ after) ≡ true → (list_all is_whitespace before ≡ true) × (list_all is_whitespace after ≡ true)
white-back before after h = let both = sym (list_all-append is_whitespace before (10 ∷ after)) ∙ h in (both_first _ _ both, both_second _ _ both)

white-chop : (line : List ℕ) → list_all is_whitespace line ≡ true → list_all is_whitespace (without_return line) ≡ true
white-chop = chop-cases (λ long short. list_all is_whitespace long ≡ true → list_all is_whitespace short ≡ true) (λ cs h. h)
    (λ cs h. both_first (list_all is_whitespace cs) _ (sym (list_all-append is_whitespace cs (13 ∷ [])) ∙ h))

well-chop : (line : List ℕ) → ends_badly line ≡ false → without_return line ≡ line
well-chop [] h = refl
well-chop (c ∷ []) h =
    cond_both (c == 13) [] (c ∷ []) (λ t. t ≡ c ∷ []) (λ e. let wrong : true ≡ false = sym (ap is_whitespace (eqb-true c 13 e)) ∙ h in absurd (cc wrong)) (λ _. refl)
well-chop (c ∷ d ∷ ds) h = ap (λ t. c ∷ t) (well-chop (d ∷ ds) h)

chop-behind : (line : List ℕ) (d : ℕ) (ds : List ℕ) → without_return (line ++ d ∷ ds) ≡ line ++ without_return (d ∷ ds)
chop-behind [] d ds = refl
chop-behind (c ∷ []) d ds = refl
chop-behind (c ∷ e ∷ es) d ds = ap (λ t. c ∷ t) (chop-behind (e ∷ es) d ds)

-- the last line, with white space after it, is a first line with white space after it, and lines of white space
record IsLast (line : List ℕ) (ls : List (List ℕ)) : Type 0 where
  end : List ℕ
  rest : List (List ℕ)
  is : ls ≡ (line ++ end) ∷ rest
  white : list_all is_whitespace end ≡ true
  blank : AreWhite rest

chop_end : (line end : List ℕ) → ends_badly line ≡ false → list_all is_whitespace end ≡ true → (short : List ℕ) × (without_return (line ++ end) ≡ line ++ short) × (list_all is_whitespace short ≡ true)
chop_end line [] w h = ([], ap without_return (append-nil line) ∙ well-chop line w ∙ sym (append-nil line), refl)
chop_end line (d ∷ ds) w h = (without_return (d ∷ ds), chop-behind line d ds, white-chop (d ∷ ds) h)

last_lines : (line ws : List ℕ) → IsWell line → Lacks 10 line → list_all is_whitespace ws ≡ true → IsLast line (lines (line ++ ws))
last_lines line ws w none h = by (first_end ws)
  where
    by : Lacks 10 ws ⊎ ((before : List ℕ) × (after : List ℕ) × (ws ≡ before ++ 10 ∷ after) × Lacks 10 before) → IsLast line (lines (line ++ ws))
    by (inl alone) =
        let whole_is : line ++ ws ≡ w.first ∷ (w.more ++ ws) = ap (λ t. t ++ ws) w.is in
        let lacks : Lacks 10 (w.first ∷ (w.more ++ ws)) = sym (ap (list_any (λ d. d == 10)) whole_is) ∙ any-append (λ d. d == 10) line ws none alone in
        record {
          end = ws;
          rest = [];
          is = ap lines whole_is ∙ lines-unbroken w.first (w.more ++ ws) lacks ∙ ap (λ t. t ∷ []) (sym whole_is);
          white = h;
          blank = tt;
        }
    by (inr (before, after, is, alone)) =
        let both = white-back before after (sym (ap (list_all is_whitespace) is) ∙ h) in
        let (short, short_is, white) = chop_end line before w.well both.0 in
        record {
          end = short;
          rest = lines after;
          is =
              ap (λ t. lines (line ++ t)) is ∙ ap lines (sym (append_assoc line before (10 ∷ after)))
              ∙ lines-line (line ++ before) after (any-append (λ d. d == 10) line before none alone) ∙ ap (λ t. t ∷ lines after) short_is;
          white = white;
          blank = white-lines after both.1;
        }

-- the normal form of lines, cut at a byte
record IsReached (n : ℕ) (ls parts : List (List ℕ)) : Type 0 where
  first : ℕ
  more : List ℕ
  is : trimmed (joined_from n ls) ≡ first ∷ more
  same : unreturned (first ∷ more) ≡ written_lines n parts

reached_last : (n : ℕ) (line : List ℕ) (ls : List (List ℕ)) → IsLast line ls → n ≤ length (lead line) → IsWell line → Lacks 10 line → IsReached n ls (line ∷ [])
reached_last n line ls l le w none =
    let cut = cut-well n line le w in
    let here : List ℕ = from_byte n line in
    let rest : List ℕ = flat_map (behind_end n) l.rest in
    let joined_is : joined_from n ls ≡ here ++ (l.end ++ rest) =
    ap (joined_from n) l.is ∙ ap (λ t. t ++ rest) (cut.more l.end) ∙ append_assoc here l.end rest in
    let trim : trimmed (joined_from n ls) ≡ here =
    ap trimmed joined_is ∙ trimmed-space here (l.end ++ rest) (white-append l.end rest l.white (white-joined n l.rest l.blank)) ∙ trimmed-well here (IsWell.well cut.well) in
    record {
      first = IsWell.first cut.well;
      more = IsWell.more cut.well;
      is = trim ∙ IsWell.is cut.well;
      same = ap unreturned (sym (IsWell.is cut.well)) ∙ unreturned-unbroken here (cut-lacks n line none);
    }

some_lines : (n : ℕ) (ls : List (List ℕ)) (d : ℕ) (ds : List ℕ) → trimmed (joined_from n ls) ≡ d ∷ ds → flat_map (behind_end n) ls ≡ 10 ∷ joined_from n ls
some_lines n [] d ds e = absurd (cc)
some_lines n (l ∷ ls) d ds e = refl

reached_line : (n : ℕ) (line next : List ℕ) (ls parts : List (List ℕ)) → Lacks 10 line → IsReached n ls (next ∷ parts) → IsReached n (without_return line ∷ ls) (line ∷ next ∷ parts)
reached_line n line next ls parts none r =
    let here : List ℕ = from_byte n (without_return line) in
    let joined_is : joined_from n (without_return line ∷ ls) ≡ here ++ 10 ∷ joined_from n ls = ap (λ t. here ++ t) (some_lines n ls r.first r.more r.is) in
    let trim : trimmed (joined_from n (without_return line ∷ ls)) ≡ here ++ 10 ∷ r.first ∷ r.more =
    ap trimmed joined_is ∙ trimmed-behind here (10 ∷ joined_from n ls) 10 (r.first ∷ r.more) (trimmed-behind (10 ∷ []) (joined_from n ls) r.first r.more r.is) in
    let some = filled here 10 (r.first ∷ r.more) in
    record {
      first = some.0;
      more = some.1;
      is = trim ∙ some.2;
      same =
          ap unreturned (sym some.2) ∙ unreturned-line here (r.first ∷ r.more) (cut-lacks n (without_return line) (chop-lacks line none))
          ∙ ap (λ t. t ++ 10 ∷ unreturned (r.first ∷ r.more)) (sym (cut-chopped n line)) ∙ ap (λ t. without_returns (from_byte n line) ++ 10 ∷ t) r.same;
    }

reached : (n : ℕ) (ls : List (List ℕ)) (ws : List ℕ) → AreFree is_line_end ls → EndsWell ls → list_all is_whitespace ws ≡ true → n ≤ length (lead (last_of ls)) → IsReached n (lines (whole ls ++ ws)) ls
reached n [] ws u w h le = absurd w
reached n (l ∷ []) ws u w h le =
    subst (λ t. IsReached n (lines (t ++ ws)) (l ∷ [])) (sym (append-nil l)) (reached_last n l (lines (l ++ ws)) (last_lines l ws w u.0 h) le w u.0)
reached n (l ∷ m ∷ ls) ws u w h le =
    let lines_are : lines (whole (l ∷ m ∷ ls) ++ ws) ≡ without_return l ∷ lines (whole (m ∷ ls) ++ ws) =
    ap lines (append_assoc l (10 ∷ whole (m ∷ ls)) ws) ∙ lines-line l (whole (m ∷ ls) ++ ws) u.0 in
    subst (λ t. IsReached n t (l ∷ m ∷ ls)) (sym lines_are) (reached_line n l m (lines (whole (m ∷ ls) ++ ws)) ls u.0 (reached n (m ∷ ls) ws u.1 w h le))

-- the lines of a text that ends well end as its parts do
record EndsAlike (ls parts : List (List ℕ)) : Type 0 where
  well : EndsWell ls
  last : last_of ls ≡ last_of parts

alike_line : (x line next : List ℕ) (ls parts : List (List ℕ)) → EndsAlike ls (next ∷ parts) → EndsAlike (x ∷ ls) (line ∷ next ∷ parts)
alike_line x line next [] parts a = absurd a.well
alike_line x line next (l ∷ ls) parts a = record { well = a.well; last = a.last }

alike : (ls : List (List ℕ)) → AreFree is_line_end ls → EndsWell ls → EndsAlike (lines (whole ls)) ls
alike [] u w = absurd w
alike (l ∷ []) u w =
    let lines_are : lines (whole (l ∷ [])) ≡ l ∷ [] =
    ap lines (append-nil l ∙ w.is) ∙ lines-unbroken w.first w.more (sym (ap (list_any (λ d. d == 10)) w.is) ∙ u.0) ∙ ap (λ t. t ∷ []) (sym w.is) in
    subst (λ t. EndsAlike t (l ∷ [])) (sym lines_are) (record { well = w; last = refl })
alike (l ∷ m ∷ ls) u w =
    subst (λ t. EndsAlike t (l ∷ m ∷ ls)) (sym (lines-line l (whole (m ∷ ls)) u.0)) (alike_line (without_return l) l m (lines (whole (m ∷ ls))) ls (alike (m ∷ ls) u.1 w))

-- a text is its trimmed form and white space
trimmed-then : (text : List ℕ) → (ws : List ℕ) × (text ≡ trimmed text ++ ws) × (list_all is_whitespace ws ≡ true)
trimmed-then [] = ([], refl, refl)
trimmed-then (c ∷ cs) = let (ws, is, white) = trimmed-then cs in by (trimmed cs) ws is white
  where
    by : (t ws : List ℕ) → cs ≡ t ++ ws → list_all is_whitespace ws ≡ true → (end : List ℕ) × (c ∷ cs ≡ before_trimmed c t ++ end) × (list_all is_whitespace end ≡ true)
    by [] ws is white =
        cond_both (is_whitespace c) [] (c ∷ []) (λ t. (end : List ℕ) × (c ∷ cs ≡ t ++ end) × (list_all is_whitespace end ≡ true))
        (λ e. (c ∷ cs, refl, ap (λ b. b && list_all is_whitespace cs) e ∙ ap (list_all is_whitespace) is ∙ white)) (λ _. (ws, ap (λ t. c ∷ t) is, white))
    by (d ∷ ds) ws is white = (ws, ap (λ t. c ∷ t) is, white)

-- a text of several lines
stretched : (raw t : List ℕ) → trimmed raw ≡ t → ends_badly t ≡ false → is_short (lines t) ≡ false
    → normal (joined_from (length (shortest false [] (lines t))) (lines raw)) ≡ written (length (shortest false [] (lines t))) t
stretched raw [] trim well long = absurd (cc)
stretched raw (c ∷ cs) trim well long =
    let t : List ℕ = c ∷ cs in
    let parts : List (List ℕ) = line_parts t in
    let unbroken : AreFree is_line_end parts = unbroken-parts t in
    let ends : EndsWell parts = well-pieces c cs well in
    let whole_is : whole parts ≡ t = whole-pieces t in
    let n : ℕ = length (shortest false [] (lines t)) in
    let a : EndsAlike (lines t) parts = subst (λ s. EndsAlike (lines s) parts) whole_is (alike parts unbroken ends) in
    let le : n ≤ length (lead (last_of parts)) = subst (λ l. n ≤ length (lead l)) a.last (least-last false [] (lines t) a.well) in
    let (ws, raw_is, white) = trimmed-then raw in
    let r : IsReached n (lines (whole parts ++ ws)) parts = reached n parts ws unbroken ends white le in
    let lines_are : lines raw ≡ lines (whole parts ++ ws) = ap lines (raw_is ∙ ap (λ s. s ++ ws) (trim ∙ sym whole_is)) in
    ap (λ l. normal (joined_from n l)) lines_are ∙ ap unreturned r.is ∙ r.same

-- what is written of an inline text, with the width of its indentation, is its normal form
pub written-inline : (raw : List ℕ) → written (inline_width raw) (trimmed raw) ≡ inline_normal raw
written-inline raw = by (is_short (lines (trimmed raw))) refl
  where
    by : (b : Bool) → is_short (lines (trimmed raw)) ≡ b
        → written (cond b 0 (length (indentation_of raw))) (trimmed raw) ≡ normal (cond b (trimmed raw) (joined_from (length (indentation_of raw)) (lines raw)))
    by true e = written-zero (trimmed raw) ∙ ap unreturned (sym (trimmed-well (trimmed raw) (well-trimmed raw)))
    by false e = sym (stretched raw (trimmed raw) refl (well-trimmed raw) e)
